use Rattle.std.proofs.Common.{Some, ◌≡◌, true, false, cond, get_or, sym, ap, subst, ◌∙◌, arith}
use Rattle.std.proofs.lemmas.List.Sums.{sum_by-remove, get_or-le-sum_by}
use Rattle.std.proofs.lemmas.List.{with_items_is}
use Rattle.std.specs.List.{list_any, count_by}
use Rattle.satip_flow.specs.Subscription.{has_slot}
use Rattle.satip_flow.specs.Subscriptions.{without, SlotsApart}
use Rattle.satip_flow.specs.Rows.{IsMarked, IsPlaced, KeepsSlots, Shows}
use Rattle.satip_flow.proofs.Marking.{marked_without, own_shown}
use Rattle.satip_flow.specs.Queues.{has_queue}
use Rattle.satip_flow.proofs.RoomLemmas.{mark}
use Rattle.satip_flow.proofs.Slots.{apart-without}
use Rattle.satip_flow.proofs.RowLemmas.{present_below}
use Rattle.satip_flow.proofs.flow.Flow.end.Goals as goal

pub returns-in_default-clause-found : goal.returns-in_default-clause-found
returns-in_default-clause-found c =
    let none = rw c.deref.ensures.value at c.in_default.ensures.none in
    subst (λ xs. false ≡ list_any (has_slot c.args.slot) xs) c.self.view_is (sym none.absent)

pub returns-in_default-clause-gone : goal.returns-in_default-clause-gone
returns-in_default-clause-gone c =
    let none = rw c.deref.ensures.value at c.in_default.ensures.none in
    subst (λ xs. xs ≡ without c.args.slot xs) c.self.view_is (sym none.others)

pub note_places-requires-clause-apart : goal.note_places-requires-clause-apart
note_places-requires-clause-apart c =
    let stands = rw c.deref.ensures.value at c.in-Some.ensures.found in
    let xs = c.self.inside.subscribers.items in
    subst (λ ys. SlotsApart ys) (sym (c.deref-2.ensures.value ∙ c.remove.ensures.items ∙ sym stands.others))
    (apart-without c.args.slot xs c.self.invariant.apart)

-- there is room for the queue of the one that goes
pub give_back-requires-clause-room : goal.give_back-requires-clause-room
give_back-requires-clause-room c =
    let stands = rw c.deref.ensures.value at c.in-Some.ensures.found in
    let one = c.remove.result in
    let xs = c.self.inside.subscribers.items in
    λ queue.
    let counted = get_or-le-sum_by (λ s. cond (has_queue s) 1 0) xs c.in-Some.at one stands.within in
    let same : mark (has_queue (get_or xs c.in-Some.at one)) ≡ 1 = ap (λ s. mark (has_queue s)) (sym c.remove.ensures.value) ∙ ap mark queue in
    omega (arith, counted, same, c.self.invariant.all_queues, c.self.invariant.queue_room)

pub returns-clause-found : goal.returns-clause-found
returns-clause-found c =
    let stands = rw c.deref.ensures.value at c.in-Some.ensures.found in
    subst (λ xs. true ≡ list_any (has_slot c.args.slot) xs) c.self.view_is (sym stands.present)

pub returns-clause-gone : goal.returns-clause-gone
returns-clause-gone c =
    let stands = rw c.deref.ensures.value at c.in-Some.ensures.found in
    subst (λ xs. c.remove.new.self.items ≡ without c.args.slot xs) c.self.view_is (c.remove.ensures.items ∙ sym stands.others)

pub slot_bit-requires : goal.slot_bit-requires
slot_bit-requires c =
    let stands = rw c.deref.ensures.value at c.in-Some.ensures.found in
    record { slot = present_below c.args.slot c.self.inside.subscribers.items c.self.invariant.apart stands.present }

pub unmark-requires-clause-front : goal.unmark-requires-clause-front
unmark-requires-clause-front c =
    let stands = rw c.deref.ensures.value at c.in-Some.ensures.found in
    let one = c.index.result.now in
    c.self.invariant.marked.fronts c.args.slot one (stands.found one ∙ ap (λ s. Some s) (sym c.index.ensures))

pub unmark-requires-clause-shown : goal.unmark-requires-clause-shown
unmark-requires-clause-shown c =
    let stands = rw c.deref.ensures.value at c.in-Some.ensures.found in
    let one = c.index.result.now in
    let here = stands.found one ∙ ap (λ s. Some s) (sym c.index.ensures) in
    subst (λ rows. Shows rows c.slot_bit.result one.front one.pids) (sym c.deref_mut.ensures.value)
    (own_shown c.self.inside.rows.items c.slot_bit.result c.args.slot c.self.inside.subscribers.items one c.slot_bit.ensures.bits here
    c.self.invariant.marked.exact)

pub invariant_of-self : goal.invariant_of-self
invariant_of-self c =
    let stands = rw c.deref.ensures.value at c.in-Some.ensures.found in
    let sound = c.self.invariant in
    let own = c.slot_bit.result in
    let new = c.unmark.new.rows in
    let others = subst (λ rs. KeepsSlots own rs new) c.deref_mut.ensures.value c.unmark.ensures.others in
    let one = c.remove.result in
    let xs = c.self.inside.subscribers.items in
    let items = c.remove.ensures.items in
    let left = sum_by-remove (λ s. cond (has_queue s) 1 0) xs c.in-Some.at one stands.within in
    let same : mark (has_queue (get_or xs c.in-Some.at one)) ≡ mark (has_queue one) = ap (λ s. mark (has_queue s)) (sym c.remove.ensures.value) in
    let whole = with_items_is c.self.inside.rows new (c.unmark.ensures.count ∙ sym sound.row_count) in
    let count = ap (λ ys. count_by has_queue ys) items in
    record {
      apart = subst (λ ys. SlotsApart ys) (sym (items ∙ sym stands.others)) (apart-without c.args.slot xs sound.apart);
      room = omega (arith, sound.room, c.remove.ensures.capacity);
      queue_room = omega (arith, sound.queue_room, c.give_back.ensures.capacity);
      queues = c.give_back.ensures.queues;
      all_queues = omega (arith, sound.all_queues, c.give_back.ensures.count, left, same, count);
      row_count = sound.row_count;
      place_count = c.note_places.ensures.count;
      marked = subst (λ rows. IsMarked rows c.self.inside.alike c.remove.new.self.items) (sym whole)
          (subst (λ ys. IsMarked new c.self.inside.alike ys) (sym (items ∙ sym stands.others))
          (marked_without c.self.inside.rows.items new c.self.inside.alike own c.args.slot xs c.index.result.now.pids c.slot_bit.ensures.bits
          c.unmark.ensures.shown others sound.marked));
      placed = subst (λ ys. IsPlaced c.note_places.new.places ys) c.deref-2.ensures.value c.note_places.ensures.placed;
    }
