use Rattle.std.proofs.Common.{◌≡◌, false, cond, is_some, option_map, refl, sym, ap, subst, ◌∙◌}
use Rattle.std.specs.Option.{option_and_then}
use Rattle.satip_flow.specs.Subscription.{has_slot, packing_of, readdressed, readdressed_feed}
use Rattle.satip_flow.specs.Subscriptions.{change_slot, packing_of_slot}
use Rattle.satip_flow.proofs.RoomLemmas.{someone, sound_kept, feed_choice, some_choice, keeps_some, readdressed_keeps}
use Rattle.satip_flow.proofs.flow.Flow.address.Goals as goal

pub returns-in_default-clause-found : goal.returns-in_default-clause-found
returns-in_default-clause-found c =
    let none = rw c.deref.ensures.value at c.in_default.ensures.none in
    let answer = sym (ap (λ o. is_some (option_and_then packing_of (option_map (λ s. s.feed) o))) none.found) in
    subst (λ xs. false ≡ is_some (packing_of_slot c.args.slot xs)) c.self.view_is answer

pub returns-in_default-clause-readdressed : goal.returns-in_default-clause-readdressed
returns-in_default-clause-readdressed c =
    let none = rw c.deref.ensures.value at c.in_default.ensures.none in
    subst (λ xs. xs ≡ change_slot c.args.slot (readdressed c.args.to) xs) c.self.view_is (sym (none.changed (readdressed c.args.to)))

pub returns-clause-found : goal.returns-clause-found
returns-clause-found c =
    let stands = rw c.deref.ensures.value at c.in-Some.ensures.found in
    let answer = c.readdress_at.ensures.found someone
    ∙ sym (ap (λ o. is_some (option_and_then packing_of (option_map (λ s. s.feed) o))) (stands.found someone)) in
    subst (λ xs. c.readdress_at.result ≡ is_some (packing_of_slot c.args.slot xs)) c.self.view_is answer

pub returns-clause-readdressed : goal.returns-clause-readdressed
returns-clause-readdressed c =
    let stands = rw c.deref.ensures.value at c.in-Some.ensures.found in
    subst (λ xs. c.readdress_at.new.subscribers.items ≡ change_slot c.args.slot (readdressed c.args.to) xs) c.self.view_is
    (c.readdress_at.ensures.changed someone ∙ sym (stands.changed (readdressed c.args.to) someone))

pub invariant_of-self : goal.invariant_of-self
invariant_of-self c =
    let stands = rw c.deref.ensures.value at c.in-Some.ensures.found in
    sound_kept c.self.inside (record {
      subscribers = c.readdress_at.new.subscribers;
      spare_queues = c.self.inside.spare_queues;
      rows = c.self.inside.rows;
      alike = c.self.inside.alike;
      places = c.self.inside.places;
    })
    (λ s. cond (has_slot c.args.slot s) (readdressed c.args.to s) s)
    (keeps_some (has_slot c.args.slot) (readdressed c.args.to) (readdressed_keeps c.args.to))
    (some_choice (has_slot c.args.slot) (readdressed c.args.to) (feed_choice (λ s. readdressed_feed c.args.to s.feed)))
    (c.readdress_at.ensures.changed someone ∙ sym (stands.changed (readdressed c.args.to) someone))
    c.readdress_at.ensures.capacity refl refl refl refl c.self.invariant
