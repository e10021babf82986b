use Rattle.std.proofs.Common.{◌≡◌, ◌+◌, ◌-◌, ◌/◌, ◌<◌, ◌≤◌, ℕ, length, get_or, sym, rules, arith}
use Rattle.satip_table.proofs.Placing.{there_get}
use Rattle.satip_table.proofs.SeatPlaces.{search_down, search_found, search_missed, search_up}
use Rattle.satip_table.proofs.seats.slot_of.Goals as goal

pub bounds-seats-slot : goal.bounds-seats-slot
bounds-seats-slot c =
    let below : (c.loop-low.low + (c.loop-low.high - c.loop-low.low) / 2) < c.loop-low.high = omega (arith, c.loop-low-test.true) in
    c.requires.within (get_or c.args.order.now (c.loop-low.low + (c.loop-low.high - c.loop-low.low) / 2) 0)
    (there_get c.args.order.now (c.loop-low.low + (c.loop-low.high - c.loop-low.low) / 2) (omega (arith, below, c.loop-low.invariant.within)))

pub loop-low-preserved-then-count-id : goal.loop-low-preserved-then-count-id
loop-low-preserved-then-count-id c =
    let below : (c.loop-low.low + (c.loop-low.high - c.loop-low.low) / 2) < c.loop-low.high = omega (arith, c.loop-low-test.true) in
    search_up c.args.seats.now c.args.order.now c.args.id c.loop-low.low c.loop-low.high
    (c.loop-low.low + (c.loop-low.high - c.loop-low.low) / 2) 0 c.requires.rising.0 c.requires.rising.1 c.loop-low.invariant below c.if-count-id.true

pub loop-low-preserved : goal.loop-low-preserved
loop-low-preserved c =
    let below : (c.loop-low.low + (c.loop-low.high - c.loop-low.low) / 2) < c.loop-low.high = omega (arith, c.loop-low-test.true) in
    search_down c.args.seats.now c.args.order.now c.args.id c.loop-low.low c.loop-low.high
    (c.loop-low.low + (c.loop-low.high - c.loop-low.low) / 2) 0 c.requires.rising.0 c.requires.rising.1 c.loop-low.invariant
    (omega arith) below c.if-count-id.false

pub returns-then-low-order-clause-found : goal.returns-then-low-order-clause-found
returns-then-low-order-clause-found c =
    let end : c.loop-low.low ≡ length c.args.order.now = search rules in
    sym (search_missed c.args.seats.now c.args.order.now c.args.id c.loop-low.low c.loop-low.high 0 c.requires.rising.0 c.requires.rising.1
    c.loop-low.invariant c.loop-low-test.false (λ below. absurd (omega (arith, below, end))))

inside : (low high long : ℕ) → low ≤ high → high ≤ long → (low ≡ long → ⊥) → low < long
inside low high long range within apart = omega arith

pub bounds-seats-slot-2 : goal.bounds-seats-slot-2
bounds-seats-slot-2 c =
    let apart : c.loop-low.low ≡ length c.args.order.now → ⊥ = search rules in
    c.requires.within (get_or c.args.order.now c.loop-low.low 0)
    (there_get c.args.order.now c.loop-low.low
    (inside c.loop-low.low c.loop-low.high (length c.args.order.now) c.loop-low.invariant.range c.loop-low.invariant.within apart))

pub returns-then-has_id-clause-found : goal.returns-then-has_id-clause-found
returns-then-has_id-clause-found c =
    let apart : c.loop-low.low ≡ length c.args.order.now → ⊥ = search rules in
    sym (search_found c.args.seats.now c.args.order.now c.args.id c.loop-low.low c.loop-low.high c.loop-low.invariant
    (inside c.loop-low.low c.loop-low.high (length c.args.order.now) c.loop-low.invariant.range c.loop-low.invariant.within apart)
    (sym c.if-has_id.ensures.has))

pub returns-else-has_id-clause-found : goal.returns-else-has_id-clause-found
returns-else-has_id-clause-found c =
    sym (search_missed c.args.seats.now c.args.order.now c.args.id c.loop-low.low c.loop-low.high 0 c.requires.rising.0 c.requires.rising.1
    c.loop-low.invariant c.loop-low-test.false (λ below. sym c.if-has_id.ensures.has))
