use Rattle.std.proofs.Common.{◌<◌, arith}
use Rattle.std.proofs.lemmas.Nat.Bits.{bit_at-zero}
use Rattle.satip_flow.proofs.RowLemmas.{found_more, only_more}
use Rattle.satip_flow.proofs.places.places_of.Goals as goal

pub loop-slot-init : goal.loop-slot-init
loop-slot-init c =
    let next = c.next_bit-slot.ensures.next in
    record {
      within = next.within;
      is_set = next.is_set;
      found = λ slot lt one. absurd (omega (arith, one, next.clear slot (omega arith) lt));
      only = λ place low none. bit_at-zero place;
    }

pub loop-slot-preserved : goal.loop-slot-preserved
loop-slot-preserved c =
    let next = c.next_bit-slot-in-loop-slot in
    let below : c.loop-slot.slot < 64 = c.loop-slot-test.true in
    record {
      within = next.ensures.next.within;
      is_set = next.ensures.next.is_set;
      found = found_more c.loop-slot.slot next.result c.args.slots c.args.places.now c.loop-slot.marked next.ensures.next c.loop-slot.invariant.found;
      only = only_more c.loop-slot.slot c.args.slots c.args.places.now c.loop-slot.marked below (c.loop-slot.invariant.is_set below)
          c.loop-slot.invariant.only;
    }
