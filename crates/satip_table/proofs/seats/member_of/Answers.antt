use Rattle.std.proofs.Common.{◌≡◌, ◌∙◌, ◌+◌, ◌-◌, ◌<◌, length, get_or, rules, arith}
use Rattle.std.proofs.lemmas.Bool.{eq-eqb, ne_eqb}
use Rattle.satip_table.specs.Seated.{no_seat}
use Rattle.satip_table.proofs.Placing.{there_get}
use Rattle.satip_table.proofs.SeatPlaces.{member_here, member_later, member_next}
use Rattle.satip_table.proofs.seats.member_of.Goals as goal

pub bounds-seats-slot : goal.bounds-seats-slot
bounds-seats-slot c =
    let below : c.loop-slot.slot-index < length c.args.order.now = search rules in
    c.requires.within (get_or c.args.order.now c.loop-slot.slot-index 0) (there_get c.args.order.now c.loop-slot.slot-index below)

pub returns-then-before-place : goal.returns-then-before-place
returns-then-before-place c =
    let below : c.loop-slot.slot-index < length c.args.order.now = search rules in
    let same : (get_or c.args.seats.now (get_or c.args.order.now c.loop-slot.slot-index 0) no_seat).session.stream ≡ c.args.stream = search rules in
    record {
      member = member_here c.args.seats.now c.args.order.now c.args.stream c.args.place c.loop-slot.slot-index c.loop-slot.before below
          (eq-eqb (get_or c.args.seats.now (get_or c.args.order.now c.loop-slot.slot-index 0) no_seat).session.stream c.args.stream same)
          (omega (arith, c.loop-slot.invariant.0, c.if-before-place.true)) c.loop-slot.invariant.2;
    }

pub loop-slot-preserved-then-session-stream : goal.loop-slot-preserved-then-session-stream
loop-slot-preserved-then-session-stream c =
    let below : c.loop-slot.slot-index < length c.args.order.now = search rules in
    let apart : (get_or c.args.seats.now (get_or c.args.order.now c.loop-slot.slot-index 0) no_seat).session.stream ≡ c.args.stream → ⊥ = search rules in (
      c.loop-slot.invariant.0,
      omega (arith, c.loop-slot.invariant.1),
      member_next c.args.seats.now c.args.order.now c.args.stream
          (c.args.place + 1 - c.loop-slot.before) c.loop-slot.slot-index below
          (ne_eqb (get_or c.args.seats.now (get_or c.args.order.now c.loop-slot.slot-index 0) no_seat).session.stream c.args.stream apart)
          ∙ c.loop-slot.invariant.2,
    )

pub loop-slot-preserved : goal.loop-slot-preserved
loop-slot-preserved c =
    let below : c.loop-slot.slot-index < length c.args.order.now = search rules in
    let same : (get_or c.args.seats.now (get_or c.args.order.now c.loop-slot.slot-index 0) no_seat).session.stream ≡ c.args.stream = search rules in (
      omega (arith, c.if-before-place.false),
      omega (arith, c.loop-slot.invariant.1),
      member_later c.args.seats.now c.args.order.now c.args.stream c.args.place
          c.loop-slot.slot-index c.loop-slot.before below
          (eq-eqb (get_or c.args.seats.now (get_or c.args.order.now c.loop-slot.slot-index 0) no_seat).session.stream c.args.stream same)
          c.if-before-place.false ∙ c.loop-slot.invariant.2,
    )
