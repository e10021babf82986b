use Rattle.std.proofs.Common.{◌∙◌}
use Rattle.satip_audit.proofs.PlaceLemmas.{counts_from, gap_end, gap_here, gap_more, missing_from}
use Rattle.satip_audit.proofs.index.first_missing.Goals as goal

pub returns-then-spots-place-clause-missing : goal.returns-then-spots-place-clause-missing
returns-then-spots-place-clause-missing c =
    missing_from _ _ c.requires.rises (gap_here c.args.spots.now c.spots.place _ c.spots-test.true c.if-spots-place.true ∙ c.spots.invariant)

pub spots-preserved : goal.spots-preserved
spots-preserved c = gap_more c.args.spots.now c.spots.place _ c.spots-test.true c.if-spots-place.false ∙ c.spots.invariant

pub returns-clause-counts : goal.returns-clause-counts
returns-clause-counts c = λ none. counts_from 0 _ (gap_end c.args.spots.now c.spots.place c.spots-test.false ∙ c.spots.invariant)
