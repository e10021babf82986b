use Rattle.std.proofs.Common.{ℕ, ◌+◌, ◌≤◌, length, ap, arith, inl, inr}
use Rattle.std.proofs.lemmas.Bool.{cases_lt}
use Rattle.std.proofs.lemmas.List.{length-take}
use Rattle.satip_interleave.proofs.RingLemmas.{turned_before, turned_around}
use Rattle.satip_interleave.proofs.ring.Ring.pop.Goals as goal

pub returns-clause-rest : goal.returns-clause-rest
returns-clause-rest c =
    let ring = c.self.inside in
    let bytes = ring.bytes.items in
    let count = c.args.count in
    let place = c.place_behind-self-inside.ensures in
    let inside : count ≤ ring.len = omega (arith, c.requires.within, ap length c.self.view_is, length-take {A = ℕ}) in
    rw (← c.self.view_is) (elim (cases_lt (ring.start + count) 524288) [
      | inl before ↦ rw (place.before_end before) (turned_before bytes ring.start count ring.len inside (omega arith) (omega arith))
      | inr around ↦ turned_around bytes ring.start count ring.len c.place_behind-self-inside.result inside (omega arith) (omega arith)
          (omega (arith, place.around_end around))
    ])
