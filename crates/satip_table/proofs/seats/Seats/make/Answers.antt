use Rattle.std.proofs.Common.{◌∙◌, ◌+◌, length, get_or, refl, ap, arith}
use Rattle.std.proofs.lemmas.List.{length_push}
use Rattle.satip_table.specs.Seated.{no_seat}
use Rattle.satip_table.specs.declared.session.Seat.{Seat}
use Rattle.satip_table.proofs.SeatPlaces.{slots_push}
use Rattle.satip_table.proofs.seats.Seats.make.Goals as goal

pub loop-slot-preserved : goal.loop-slot-preserved
loop-slot-preserved c =
    let old = c.loop-slot.seats.items in
    let seat : Seat = record { slot = c.loop-slot.slot; session = c.no_session.result } in
    let items = c.push_reserved.ensures.items in
    record {
      long = ap length items ∙ length_push old seat ∙ ap (λ n. n + 1) c.loop-slot.invariant.long;
      len = c.push_reserved.ensures.len ∙ ap (λ n. n + 1) c.loop-slot.invariant.len;
      room = omega (arith, c.loop-slot.invariant.room, c.push_reserved.ensures.capacity);
      slots = λ k below. ap (λ xs. (get_or xs k no_seat).slot) items
          ∙ slots_push old c.loop-slot.slot seat c.loop-slot.invariant.long refl c.loop-slot.invariant.slots k below;
    }
