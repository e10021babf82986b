use Rattle.std.proofs.Common.{◌≡◌, List, ℕ, length, drop, take, arith, refl, sym, ◌∙◌, subst, ap, ◌+◌, ◌-◌, ◌<◌, ◌++◌}
use Rattle.satip_audit.specs.Checks.{IsWrong, Says}
use Rattle.satip_audit.proofs.CheckLemmas.{Midway, no_line, wrong_line}
use Rattle.satip_audit.proofs.IndexLemmas.{indexing_from, indexing_next, length_same, line_fits, line_is, rest_some}
use Rattle.satip_audit.proofs.indexing.index_lines.Goals as goal

pub lines-init : goal.lines-init
lines-init c = (indexing_from c.args.text.now _ c.new.ensures.items, omega arith, refl)

pub returns-in_default-clause-fault : goal.returns-in_default-clause-fault
returns-in_default-clause-fault c =
    let rest : List ℕ = c.split_at.result.1.now in
    let back : rest ≡ drop c.lines.at c.lines.text = c.split_at.ensures.back in
    let midway : Midway c.args.text.now rest c.lines.number = subst (λ (r : List ℕ). Midway c.args.text.now r c.lines.number) (sym back) c.lines.invariant.0.midway in
    no_line c.args.text.now rest c.lines.number midway (rest_some c.lines.at c.lines.text rest c.lines-test.true back) c.in_default.ensures.finds

pub returns-in_default-read_line-clause-fault : goal.returns-in_default-read_line-clause-fault
returns-in_default-read_line-clause-fault c =
    let rest : List ℕ = c.split_at.result.1.now in
    let line : List ℕ = c.in-Some.line.now in
    let behind : List ℕ = c.in-Some._behind.now in
    let back : rest ≡ drop c.lines.at c.lines.text = c.split_at.ensures.back in
    let midway : Midway c.args.text.now rest c.lines.number = subst (λ (r : List ℕ). Midway c.args.text.now r c.lines.number) (sym back) c.lines.invariant.0.midway in
    let same = line_is c.lines.at (length line) c.lines.text line behind (sym back ∙ c.in-Some.ensures.whole) refl in
    wrong_line c.args.text.now rest line behind c.lines.number midway (rest_some c.lines.at c.lines.text rest c.lines-test.true back)
    c.in-Some.ensures.finds (subst (λ (l : List ℕ). IsWrong l) same (c.in_default-read_line.ensures.wrong refl))

pub lines-preserved : goal.lines-preserved
lines-preserved c =
    let line : List ℕ = c.in-Some.line.now in
    let behind : List ℕ = c.in-Some._behind.now in
    let after : List ℕ = c.read_line.new.line in
    let at : ℕ = c.lines.at in
    let inside = c.lines.invariant.1 in
    let cut : drop at c.lines.text ≡ line ++ behind = sym c.split_at.ensures.back ∙ c.in-Some.ensures.whole in
    let shorter : length behind < length (drop at c.lines.text) = subst (λ (r : List ℕ). length behind < length r) c.split_at.ensures.back c.in-Some.ensures.shorter in
    let same = line_is at (length line) c.lines.text line behind cut refl in
    let size : length after ≡ length line = c.in-Some-read_line.ensures.size ∙ ap (λ (l : List ℕ). length l) same in
    let fits = line_fits at c.lines.text line behind inside cut in
    let long = length_same at (at + length line - at) c.lines.text after (omega (arith, fits)) (omega (arith, size)) in (
      indexing_next c.args.text.now c.lines.text line after behind c.lines.number _ _ _ _ at c.lines.invariant.0 inside cut shorter size
          c.in-Some-read_line.said (subst (λ (l : List ℕ). Says l after c.in-Some-read_line.said) same c.in-Some-read_line.ensures.says) c.in-Ok.ensures.added,
      omega (arith, fits, long),
      long ∙ c.lines.invariant.2,
    )
