use Rattle.std.proofs.lemmas.List.Sorted.{IsNonDecreasingBy-from_sort, answers_always}
use Rattle.satip_audit.specs.declared.index.Spot.{Spot}
use Rattle.satip_audit.proofs.PlaceLemmas.{climbs_sorted}
use Rattle.std.proofs.Common.{rules, ℕ}
use Rattle.satip_audit.proofs.index.sort_spots.Goals as goal

pub returns-clause-climbs : goal.returns-clause-climbs
returns-clause-climbs c =
    let key : Spot → ℕ = λ s. s.place in
    climbs_sorted _ (IsNonDecreasingBy-from_sort key _ (c.sort_unstable_by_key.ensures.sorted key (answers_always _ _ _ (λ f a r g h. search rules))))
