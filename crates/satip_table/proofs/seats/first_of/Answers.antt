use Rattle.std.proofs.Common.{◌≡◌, ◌∙◌, ◌<◌, length, get_or, rules}
use Rattle.std.proofs.lemmas.Bool.{eq-eqb, ne_eqb}
use Rattle.satip_table.specs.Seated.{no_seat}
use Rattle.satip_table.proofs.Placing.{there_get}
use Rattle.satip_table.proofs.SeatPlaces.{first_here, first_later}
use Rattle.satip_table.proofs.seats.first_of.Goals as goal

pub bounds-seats-slot : goal.bounds-seats-slot
bounds-seats-slot c =
    let below : c.loop-slot.slot-index < length c.args.order.now = search rules in
    c.requires.within (get_or c.args.order.now c.loop-slot.slot-index 0) (there_get c.args.order.now c.loop-slot.slot-index below)

pub returns-then-session-stream : goal.returns-then-session-stream
returns-then-session-stream c =
    let below : c.loop-slot.slot-index < length c.args.order.now = search rules in
    let same : (get_or c.args.seats.now (get_or c.args.order.now c.loop-slot.slot-index 0) no_seat).session.stream ≡ c.args.stream = search rules in
    record {
      first = first_here c.args.seats.now c.args.order.now c.args.stream c.loop-slot.slot-index below
          (eq-eqb (get_or c.args.seats.now (get_or c.args.order.now c.loop-slot.slot-index 0) no_seat).session.stream c.args.stream same) c.loop-slot.invariant;
    }

pub loop-slot-preserved : goal.loop-slot-preserved
loop-slot-preserved c =
    let below : c.loop-slot.slot-index < length c.args.order.now = search rules in
    let apart : (get_or c.args.seats.now (get_or c.args.order.now c.loop-slot.slot-index 0) no_seat).session.stream ≡ c.args.stream → ⊥ = search rules in
    first_later c.args.seats.now c.args.order.now c.args.stream c.loop-slot.slot-index below
    (ne_eqb (get_or c.args.seats.now (get_or c.args.order.now c.loop-slot.slot-index 0) no_seat).session.stream c.args.stream apart) ∙ c.loop-slot.invariant
