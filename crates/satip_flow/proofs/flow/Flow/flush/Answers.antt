use Rattle.std.proofs.Common.{◌≡◌, false, cond, option_map, refl, sym, ap, subst, ◌∙◌}
use Rattle.satip_rtp.specs.Sending.{SendsAll}
use Rattle.satip_flow.specs.Subscription.{has_slot, flushed, flushed_feed}
use Rattle.satip_flow.specs.Subscriptions.{change_slot, feed_of_slot, holds_any, flushed_datagrams}
use Rattle.satip_flow.proofs.Sends.{nothing_sent}
use Rattle.satip_flow.proofs.RoomLemmas.{someone, sound_kept, feed_choice, some_choice, keeps_some, flushed_keeps}
use Rattle.satip_flow.proofs.flow.Flow.flush.Goals as goal

pub returns-in_default-clause-held : goal.returns-in_default-clause-held
returns-in_default-clause-held c =
    let none = rw c.deref.ensures.value at c.in_default.ensures.none in
    subst (λ xs. false ≡ holds_any (feed_of_slot c.args.slot xs)) c.self.view_is
    (sym (ap (λ o. holds_any (option_map (λ s. s.feed) o)) none.found))

pub returns-in_default-clause-flushed : goal.returns-in_default-clause-flushed
returns-in_default-clause-flushed c =
    let none = rw c.deref.ensures.value at c.in_default.ensures.none in
    subst (λ xs. xs ≡ change_slot c.args.slot flushed xs) c.self.view_is (sym (none.changed flushed))

pub returns-in_default-clause-sent : goal.returns-in_default-clause-sent
returns-in_default-clause-sent c =
    let none = rw c.deref.ensures.value at c.in_default.ensures.none in
    let nothing = ap (λ o. flushed_datagrams c.args.clock (option_map (λ s. s.feed) o)) none.found in
    subst (λ xs. SendsAll c.args.out.now (flushed_datagrams c.args.clock (feed_of_slot c.args.slot xs)) c.args.out.now) c.self.view_is
    (subst (λ ds. SendsAll c.args.out.now ds c.args.out.now) (sym nothing) (nothing_sent c.args.out.now))

pub returns-clause-held : goal.returns-clause-held
returns-clause-held c =
    let stands = rw c.deref.ensures.value at c.in-Some.ensures.found in
    subst (λ xs. c.flush_at.result ≡ holds_any (feed_of_slot c.args.slot xs)) c.self.view_is
    (c.flush_at.ensures.held someone ∙ sym (ap (λ o. holds_any (option_map (λ s. s.feed) o)) (stands.found someone)))

pub returns-clause-flushed : goal.returns-clause-flushed
returns-clause-flushed c =
    let stands = rw c.deref.ensures.value at c.in-Some.ensures.found in
    subst (λ xs. c.flush_at.new.subscribers.items ≡ change_slot c.args.slot flushed xs) c.self.view_is
    (c.flush_at.ensures.changed someone ∙ sym (stands.changed flushed someone))

pub returns-clause-sent : goal.returns-clause-sent
returns-clause-sent c =
    let stands = rw c.deref.ensures.value at c.in-Some.ensures.found in
    let same = ap (λ o. flushed_datagrams c.args.clock (option_map (λ s. s.feed) o)) (stands.found someone) in
    subst (λ xs. SendsAll c.args.out.now (flushed_datagrams c.args.clock (feed_of_slot c.args.slot xs)) c.flush_at.new.out) c.self.view_is
    (subst (λ ds. SendsAll c.args.out.now ds c.flush_at.new.out) (sym same) (c.flush_at.ensures.sent someone))

pub invariant_of-self : goal.invariant_of-self
invariant_of-self c =
    let stands = rw c.deref.ensures.value at c.in-Some.ensures.found in
    sound_kept c.self.inside (record {
      subscribers = c.flush_at.new.subscribers;
      spare_queues = c.self.inside.spare_queues;
      rows = c.self.inside.rows;
      alike = c.self.inside.alike;
      places = c.self.inside.places;
    })
    (λ s. cond (has_slot c.args.slot s) (flushed s) s)
    (keeps_some (has_slot c.args.slot) flushed flushed_keeps)
    (some_choice (has_slot c.args.slot) flushed (feed_choice (λ s. flushed_feed s.feed)))
    (c.flush_at.ensures.changed someone ∙ sym (stands.changed flushed someone))
    c.flush_at.ensures.capacity refl refl refl refl c.self.invariant
