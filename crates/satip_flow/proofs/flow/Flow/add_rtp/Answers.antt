use Rattle.std.proofs.Common.{true, None, ◌≡◌, ◌+◌, ◌<◌, false, cond, vec_len, sym, ap, subst, ◌∙◌, arith, refl}
use Rattle.std.specs.List.{list_any}
use Rattle.std.specs.Vec.{with_items}
use Rattle.std.proofs.lemmas.List.{with_items_is}
use Rattle.satip_flow.specs.Subscription.{has_slot, subscription, ToAddress}
use Rattle.satip_flow.specs.Subscriptions.{put, SlotsApart}
use Rattle.satip_flow.specs.Queues.{has_queue}
use Rattle.satip_flow.specs.Rows.{IsLike, IsMarked, IsPlaced, KeepsSlots, Shows}
use Rattle.satip_flow.proofs.Slots.{apart-put}
use Rattle.satip_flow.proofs.Marking.{marked_put, nobody_shown}
use Rattle.satip_flow.proofs.RoomLemmas.{sound_put}
use Rattle.satip_flow.proofs.flow.Flow.add_rtp.Goals as goal

pub insert_ordered-requires-clause-slot : goal.insert_ordered-requires-clause-slot
insert_ordered-requires-clause-slot c = subst (λ s. s.place.slot < 64) (sym c.packed-subscriber.ensures.subscription) c.requires.slot

pub insert_ordered-requires-clause-free : goal.insert_ordered-requires-clause-free
insert_ordered-requires-clause-free c =
    let free = rw (← c.self.view_is) at c.requires.free in
    subst (λ s. list_any (has_slot s.place.slot) c.self.inside.subscribers.items ≡ false) (sym c.packed-subscriber.ensures.subscription) free

pub note_places-requires-clause-apart : goal.note_places-requires-clause-apart
note_places-requires-clause-apart c =
    let s = c.packed-subscriber.result in
    let is = c.packed-subscriber.ensures.subscription in
    let free = rw (← c.self.view_is) at c.requires.free in
    let xs = c.self.inside.subscribers.items in
    subst (λ ys. SlotsApart ys) (sym (c.deref-2.ensures.value ∙ c.insert_ordered.ensures.added))
    (apart-put s xs (subst (λ s. s.place.slot < 64) (sym is) c.requires.slot) (subst (λ s. list_any (has_slot s.place.slot) xs ≡ false) (sym is) free)
    c.self.invariant.apart)

pub remark-requires-clause-shown : goal.remark-requires-clause-shown
remark-requires-clause-shown c =
    let free = rw (← c.self.view_is) at c.requires.free in
    let xs = c.self.inside.subscribers.items in
    subst (λ rows. Shows rows c.slot_bit-own.result None c.args.pids.now) (sym c.deref_mut.ensures.value)
    (nobody_shown c.self.inside.rows.items c.slot_bit-own.result c.args.place.slot xs c.args.pids.now c.slot_bit-own.ensures.bits free
    c.self.invariant.marked.exact)

pub invariant_of-self : goal.invariant_of-self
invariant_of-self c =
    let s = c.packed-subscriber.result in
    let is = c.packed-subscriber.ensures.subscription in
    let free = rw (← c.self.view_is) at c.requires.free in
    let xs = c.self.inside.subscribers.items in
    let one = subscription c.args.place c.args.front c.args.pids.now (ToAddress c.args.to c.new.result) in
    let own = c.slot_bit-own.result in
    let rows = c.self.inside.rows.items in
    let new = c.remark.new.rows in
    let others = subst (λ rs. KeepsSlots own rs new) c.deref_mut.ensures.value c.remark.ensures.others in
    let like = subst (λ ys. c.is_like-is_alike.result ≡ true → IsLike c.self.inside.alike ys c.args.place.stream c.args.front c.args.pids.now)
    c.deref.ensures.value c.is_like-is_alike.ensures.like in
    let marked = marked_put rows new c.self.inside.alike own xs one c.slot_bit-own.type_inv c.slot_bit-own.ensures.bits free c.requires.front
    c.remark.ensures.shown others c.is_like-is_alike.result like c.self.invariant.marked in
    let whole = with_items_is c.self.inside.rows new (c.remark.ensures.count ∙ sym c.self.invariant.row_count) in
    sound_put c.self.inside (record {
      subscribers = c.insert_ordered.new.subscribers;
      spare_queues = c.self.inside.spare_queues;
      rows = with_items c.self.inside.rows c.remark.new.rows;
      alike = c.with_slots-self-inside.result;
      places = c.note_places.new.places;
    }) s
    (subst (λ s. s.place.slot < 64) (sym is) c.requires.slot)
    (subst (λ s. list_any (has_slot s.place.slot) xs ≡ false) (sym is) free)
    c.insert_ordered.ensures.added c.insert_ordered.ensures.capacity refl c.self.invariant.queues
    (ap (λ s. vec_len c.self.inside.spare_queues + cond (has_queue s) 1 0) is ∙ omega arith)
    c.self.invariant.row_count c.note_places.ensures.count
    (subst (λ rows. IsMarked rows c.with_slots-self-inside.result (put s xs)) (sym whole)
    (subst (λ s. IsMarked new c.with_slots-self-inside.result (put s xs)) (sym is)
    (subst (λ n. IsMarked new n (put one xs)) (sym c.with_slots-self-inside.ensures.written) marked)))
    (subst (λ ys. IsPlaced c.note_places.new.places ys) c.deref-2.ensures.value c.note_places.ensures.placed)
    c.self.invariant
