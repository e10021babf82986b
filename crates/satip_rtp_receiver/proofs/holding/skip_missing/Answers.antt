use Rattle.std.proofs.Common.{drop, Some, ap, sym, ◌∙◌, arith, ◌∷◌, []}
use Rattle.satip_rtp_receiver.specs.Catching.{missing}
use Rattle.satip_rtp_receiver.specs.Held.{tail_held}
use Rattle.satip_rtp_receiver.proofs.MissingLemmas.{missing-tail, drop-missing}
use Rattle.satip_rtp_receiver.proofs.holding.skip_missing.Goals as goal

pub returns-in-Some-clause-missing : goal.returns-in-Some-clause-missing
returns-in-Some-clause-missing c =
    let newest = c.in-Some.newest in
    c.min-count.ensures ∙ sym (missing-tail c.args.most newest.skip newest.packets) ∙ ap (λ t. missing c.args.most (tail_held t)) (sym c.in-Some.is)

pub returns-in-Some-clause-left : goal.returns-in-Some-clause-left
returns-in-Some-clause-left c =
    let newest = c.in-Some.newest in
    let count = c.min-count.result in
    sym (drop-missing count newest.skip (Some newest.packets ∷ []) (omega (arith, c.min-count.ensures)))
    ∙ ap (λ t. drop count (tail_held t)) (sym c.in-Some.is)
