use Rattle.std.proofs.Common.{◌≡◌, ◌<◌, ◌≤◌, ◌&&◌, length, get_or, cond, eqb, ℕ, refl, sym, ap, subst, ◌∙◌, arith}
use Rattle.std.specs.Int.{bit_at}
use Rattle.satip_flow.specs.Subscription.{is_of}
use Rattle.satip_flow.proofs.Slots.{slot_below}
use Rattle.satip_flow.proofs.RoomLemmas.{someone}
use Rattle.satip_flow.proofs.Marking.{slots_more, slots_all}
use Rattle.satip_flow.proofs.flow.slots_of_stream.Goals as goal

pub slot_bit-slots-requires : goal.slot_bit-slots-requires
slot_bit-slots-requires c =
    let xs = c.args.subscribers.now in
    let i = c.loop-subscriber.subscriber-index in
    let one = c.subscriber-item in
    let same = ap (λ p. p.slot) c.place-place.ensures.place ∙ ap (λ s. s.place.slot) one.is in
    record { slot = subst (λ n. n < 64) (sym same) (slot_below xs c.requires.apart i one.result c.loop-subscriber-test.true) }

pub loop-subscriber-preserved : goal.loop-subscriber-preserved
loop-subscriber-preserved c =
    let xs = c.args.subscribers.now in
    let i = c.loop-subscriber.subscriber-index in
    let one = c.subscriber-item in
    let place = c.place-place.ensures.place ∙ ap (λ s. s.place) one.is in
    slots_more i c.loop-subscriber.slots c.slot_bit-slots.result c.args.stream xs one.result c.loop-subscriber-test.true
    (λ k. c.slot_bit-slots.ensures.bits k ∙ ap (λ p. cond (eqb p.stream c.args.stream && eqb p.slot k) 1 0) place)
    c.loop-subscriber.invariant

pub returns : goal.returns
returns c =
    let xs = c.args.subscribers.now in
    let all : length xs ≤ c.loop-subscriber.subscriber-index = omega (arith, c.loop-subscriber-test.false) in
    record { slots = slots_all c.loop-subscriber.subscriber-index c.loop-subscriber.slots c.args.stream xs all c.requires.apart c.loop-subscriber.invariant }
