use Rattle.std.proofs.Common.{◌≡◌, ◌+◌, ◌-◌, ◌≤◌, subst, arith}
use Rattle.httparse.proofs.RunLemmas.{length-slice_range}
use Rattle.satip_frame.specs.Head.{HasNoEmptyLine}
use Rattle.satip_frame.proofs.HeadEndLemmas.{no_line_before}
use Rattle.satip_frame.proofs.heads.next_line.Goals as goal

pub returns-in-Some-clause-none : goal.returns-in-Some-clause-none
returns-in-Some-clause-none c =
    let text = c.args.text.now in
    let at = c.args.at in
    let limit = c.args.limit in
    let step = c.in-Some.step in
    let size = length-slice_range text at limit (omega (arith, c.requires.ordered)) c.requires.within in
    let within : step ≤ limit - at = omega (arith, size, c.in-Some.ensures.0.high) in
    let place : at + step ≡ at + step + 1 - 1 = omega arith in
    subst (λ n. HasNoEmptyLine n text) place
    (no_line_before text at limit step c.requires.ordered c.requires.within within c.requires.looked c.in-Some.ensures.0.before)

pub returns-in-None-clause-none : goal.returns-in-None-clause-none
returns-in-None-clause-none c =
    let text = c.args.text.now in
    let at = c.args.at in
    let limit = c.args.limit in
    let size = length-slice_range text at limit (omega (arith, c.requires.ordered)) c.requires.within in
    let within : limit - at - 1 ≤ limit - at = omega arith in
    let place : at + (limit - at - 1) ≡ limit - 1 = omega (arith, c.requires.ordered) in
    subst (λ n. HasNoEmptyLine n text) place
    (no_line_before text at limit (limit - at - 1) c.requires.ordered c.requires.within within c.requires.looked
    (λ k from below. c.in-None.ensures k from (omega (arith, size, below, c.requires.ordered))))
