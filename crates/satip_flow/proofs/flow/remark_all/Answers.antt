use Rattle.std.proofs.Common.{◌+◌, ◌≡◌, ◌≢◌, ◌<◌, ◌≤◌, length, get_or, Some, refl, sym, ap, subst, ◌∙◌, arith}
use Rattle.std.specs.Int.{bit_at}
use Rattle.satip_pids.specs.Pids.{Pids}
use Rattle.satip_flow.specs.Subscriptions.{IsFrontOrNone, of_slot}
use Rattle.satip_flow.specs.Rows.{Shows}
use Rattle.satip_flow.proofs.Slots.{slot_below}
use Rattle.satip_flow.proofs.SlotMaps.{at_slot}
use Rattle.satip_flow.proofs.Marking.{IsRemarked, remarked_passed, remarked_more, remarked_all, group_shown}
use Rattle.satip_flow.proofs.flow.remark_all.Goals.{then-left-slot-eq1, else-left-slot-eq1}
use Rattle.satip_flow.proofs.flow.remark_all.Goals as goal

pub overflow_shr-left : goal.overflow_shr-left
overflow_shr-left c =
    let same = ap (λ p. p.slot) c.place-slot.ensures.place ∙ ap (λ s. s.place.slot) c.subscriber-item.is in
    subst (λ n. n < 64) (sym same)
    (slot_below c.args.subscribers.now c.requires.apart c.loop-subscriber.subscriber-index c.subscriber-item.result c.loop-subscriber-test.true)

pub group_of-same-requires-clause-slot : goal.group_of-same-requires-clause-slot
group_of-same-requires-clause-slot c =
    let same = ap (λ p. p.slot) c.place-slot.ensures.place ∙ ap (λ s. s.place.slot) c.subscriber-item.is in
    subst (λ n. n < 64) (sym same)
    (slot_below c.args.subscribers.now c.requires.apart c.loop-subscriber.subscriber-index c.subscriber-item.result c.loop-subscriber-test.true)

pub remark-requires-clause-own : goal.remark-requires-clause-own
remark-requires-clause-own c =
    let xs = c.args.subscribers.now in
    let i = c.loop-subscriber.subscriber-index in
    let s = c.subscriber-item.result in
    let here = at_slot xs i s c.requires.apart c.loop-subscriber-test.true in
    subst (λ o. IsFrontOrNone o) (sym (c.front.ensures.front ∙ ap (λ s. s.front) c.subscriber-item.is))
    (c.requires.marked.fronts (get_or xs i s).place.slot (get_or xs i s) here)

pub remark-requires-clause-shown : goal.remark-requires-clause-shown
remark-requires-clause-shown c =
    let xs = c.args.subscribers.now in
    let i = c.loop-subscriber.subscriber-index in
    let s = c.subscriber-item.result in
    let within = c.loop-subscriber-test.true in
    let one = get_or xs i s in
    let slot = c.place-slot.result.slot in
    let same : slot ≡ one.place.slot = ap (λ p. p.slot) c.place-slot.ensures.place ∙ ap (λ s. s.place.slot) c.subscriber-item.is in
    let here : of_slot slot xs ≡ Some one = ap (λ n. of_slot n xs) same ∙ at_slot xs i s c.requires.apart within in
    let below : slot < 64 = subst (λ n. n < 64) (sym same) (slot_below xs c.requires.apart i s within) in
    let shown = group_shown i c.loop-subscriber.left c.slots_of_stream-slots.result c.args.stream c.args.front c.args.pids.now c.args.rows.now
    c.loop-subscriber.rows xs one c.group_of-same.result c.args.alike slot c.slots_of_stream-slots.ensures.slots below here c.requires.marked
    c.loop-subscriber.invariant.remarked c.group_of-same.ensures.group in
    let front = sym (c.front.ensures.front ∙ ap (λ s. s.front) c.subscriber-item.is) in
    let pids = sym (c.pids.ensures.pids ∙ ap (λ s. s.pids) c.subscriber-item.is) in
    subst (λ o. Shows c.loop-subscriber.rows c.group_of-same.result o c.pids.result.now) front
    (subst (λ p. Shows c.loop-subscriber.rows c.group_of-same.result one.front p) pids shown)

pub loop-subscriber-preserved : goal.loop-subscriber-preserved
loop-subscriber-preserved c =
    let xs = c.args.subscribers.now in
    let i = c.loop-subscriber.subscriber-index in
    let s = c.subscriber-item.result in
    let within = c.loop-subscriber-test.true in
    let slot = c.place-slot.result.slot in
    let same : slot ≡ (get_or xs i s).place.slot = ap (λ p. p.slot) c.place-slot.ensures.place ∙ ap (λ s. s.place.slot) c.subscriber-item.is in
    elim c.if-left-slot-eq1.branch [
      | then-left-slot-eq1 w ↦
          let more = remarked_more i c.loop-subscriber.left c.slots_of_stream-slots.result c.args.front c.args.pids.now c.args.rows.now
          c.loop-subscriber.rows w.remark.new.rows xs s w.group_of-same.result c.args.alike slot c.requires.apart w.group_of-same.type_inv same
          w.group_of-same.ensures.group w.remark.ensures.shown w.remark.ensures.others c.loop-subscriber.invariant.remarked in
          record {
            remarked = subst (λ rows. IsRemarked (i + 1) c.if-left-slot-eq1.left c.slots_of_stream-slots.result c.args.front c.args.pids.now c.args.rows.now
                rows xs) (sym w.rows-is)
                (subst (λ left. IsRemarked (i + 1) left c.slots_of_stream-slots.result c.args.front c.args.pids.now c.args.rows.now w.remark.new.rows xs)
                (sym w.left-is) more);
            count = ap length w.rows-is ∙ w.remark.ensures.count;
          }
      | else-left-slot-eq1 w ↦
          let other : bit_at c.loop-subscriber.left (get_or xs i s).place.slot ≢ 1 =
          subst (λ n. bit_at c.loop-subscriber.left n ≢ 1) same w.if-left-slot-eq1.false in
          let more = remarked_passed i c.loop-subscriber.left c.slots_of_stream-slots.result c.args.front c.args.pids.now c.args.rows.now
          c.loop-subscriber.rows xs s other c.loop-subscriber.invariant.remarked in
          record {
            remarked = subst (λ rows. IsRemarked (i + 1) c.if-left-slot-eq1.left c.slots_of_stream-slots.result c.args.front c.args.pids.now c.args.rows.now
                rows xs) (sym w.rows-is)
                (subst (λ left. IsRemarked (i + 1) left c.slots_of_stream-slots.result c.args.front c.args.pids.now c.args.rows.now c.loop-subscriber.rows xs)
                (sym w.left-is) more);
            count = ap length w.rows-is ∙ c.loop-subscriber.invariant.count;
          }
    ]

pub returns-clause-shown : goal.returns-clause-shown
returns-clause-shown c =
    let xs = c.args.subscribers.now in
    let all : length xs ≤ c.loop-subscriber.subscriber-index = omega (arith, c.loop-subscriber-test.false) in
    remarked_all c.loop-subscriber.subscriber-index c.loop-subscriber.left c.slots_of_stream-slots.result c.args.stream c.args.front c.args.pids.now
    c.args.rows.now c.loop-subscriber.rows xs all c.slots_of_stream-slots.ensures.slots c.loop-subscriber.invariant.remarked
