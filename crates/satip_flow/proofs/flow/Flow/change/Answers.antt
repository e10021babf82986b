use Rattle.std.proofs.Common.{refl, sym, subst, ◌∙◌, bit_or}
use Rattle.std.specs.Vec.{with_items}
use Rattle.std.proofs.lemmas.List.{with_items_is}
use Rattle.satip_flow.specs.Subscription.{changed}
use Rattle.satip_flow.specs.Subscriptions.{SlotsApart}
use Rattle.satip_flow.specs.Rows.{IsMarked, AreSlotsOf, KeepsSlots}
use Rattle.satip_flow.proofs.RoomLemmas.{sound_changed, changed_keeps}
use Rattle.satip_flow.proofs.Marking.{marked_changed}
use Rattle.satip_flow.proofs.flow.Flow.change.Goals as goal

pub invariant_of-self : goal.invariant_of-self
invariant_of-self c =
    let f = c.self.inside in
    let h = changed c.args.stream c.args.front c.args.pids.now in
    let slots = c.remark_all.result in
    let new = c.remark_all.new.rows in
    let are = subst (λ xs. AreSlotsOf slots c.args.stream xs) c.deref.ensures.value c.remark_all.ensures.slots in
    let others = subst (λ rows. KeepsSlots slots rows new) c.deref_mut.ensures.value c.remark_all.ensures.others in
    let marked = marked_changed f.rows.items new f.alike slots c.args.stream c.args.front c.args.pids.now f.subscribers.items c.requires.front are
    c.remark_all.ensures.shown others c.self.invariant.marked in
    let whole = with_items_is f.rows new (c.remark_all.ensures.count ∙ sym c.self.invariant.row_count) in
    sound_changed f
    (record {
      subscribers = c.change_all.new.subscribers;
      spare_queues = f.spare_queues;
      rows = with_items f.rows new;
      alike = bit_or f.alike slots;
      places = f.places;
    })
    h (changed_keeps c.args.stream c.args.front c.args.pids.now)
    c.change_all.ensures.changed c.change_all.ensures.capacity refl refl c.self.invariant.row_count
    (subst (λ rows. IsMarked rows (bit_or f.alike slots) c.change_all.new.subscribers.items) (sym whole)
    (subst (λ xs. IsMarked new (bit_or f.alike slots) xs) (sym c.change_all.ensures.changed) marked)) c.self.invariant
