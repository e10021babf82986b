use Rattle.std.proofs.Common.{◌≡◌, ◌*◌, cond, length, take, None, option_map, MatchOption, refl, sym, ap, subst, ◌∙◌}
use Rattle.std.specs.List.{concat}
use Rattle.std.specs.Option.{option_and_then}
use Rattle.satip_base.specs.Output.{Wrote}
use Rattle.satip_flow.specs.Subscription.{has_slot, queue_of, pulled, pulled_feed}
use Rattle.satip_flow.specs.Subscriptions.{change_slot, queue_of_slot}
use Rattle.satip_flow.proofs.RoomLemmas.{someone, sound_kept, feed_choice, some_choice, keeps_some, pulled_keeps}
use Rattle.satip_flow.proofs.flow.Flow.pull.Goals as goal

pub returns-in_default-clause-bytes : goal.returns-in_default-clause-bytes
returns-in_default-clause-bytes c =
    let none = rw c.deref.ensures.value at c.in_default.ensures.none in
    subst (λ xs. None ≡ option_map (λ packets. 188 * length (take 64 packets)) (queue_of_slot c.args.slot xs)) c.self.view_is
    (sym (ap (λ o. option_map (λ packets. 188 * length (take 64 packets)) (option_and_then queue_of (option_map (λ s. s.feed) o))) none.found))

pub returns-in_default-clause-pulled : goal.returns-in_default-clause-pulled
returns-in_default-clause-pulled c =
    let none = rw c.deref.ensures.value at c.in_default.ensures.none in
    subst (λ xs. xs ≡ change_slot c.args.slot pulled xs) c.self.view_is (sym (none.changed pulled))

pub returns-in_default-clause-wrote : goal.returns-in_default-clause-wrote
returns-in_default-clause-wrote c =
    let none = rw c.deref.ensures.value at c.in_default.ensures.none in
    let out = c.args.out.now in
    let nothing = ap (λ o. option_and_then queue_of (option_map (λ s. s.feed) o)) none.found in
    subst (λ xs. MatchOption (queue_of_slot c.args.slot xs) (out ≡ out) (λ packets. Wrote out (concat (take 64 packets)) out)) c.self.view_is
    (subst (λ q. MatchOption q (out ≡ out) (λ packets. Wrote out (concat (take 64 packets)) out)) (sym nothing) refl)

pub returns-clause-bytes : goal.returns-clause-bytes
returns-clause-bytes c =
    let stands = rw c.deref.ensures.value at c.in-Some.ensures.found in
    subst (λ xs. c.pull_at.result ≡ option_map (λ packets. 188 * length (take 64 packets)) (queue_of_slot c.args.slot xs)) c.self.view_is
    (c.pull_at.ensures.bytes someone
    ∙ sym (ap (λ o. option_map (λ packets. 188 * length (take 64 packets)) (option_and_then queue_of (option_map (λ s. s.feed) o))) (stands.found someone)))

pub returns-clause-pulled : goal.returns-clause-pulled
returns-clause-pulled c =
    let stands = rw c.deref.ensures.value at c.in-Some.ensures.found in
    subst (λ xs. c.pull_at.new.subscribers.items ≡ change_slot c.args.slot pulled xs) c.self.view_is
    (c.pull_at.ensures.changed someone ∙ sym (stands.changed pulled someone))

pub returns-clause-wrote : goal.returns-clause-wrote
returns-clause-wrote c =
    let stands = rw c.deref.ensures.value at c.in-Some.ensures.found in
    let old = c.args.out.now in
    let new = c.pull_at.new.out in
    let same = ap (λ o. option_and_then queue_of (option_map (λ s. s.feed) o)) (stands.found someone) in
    subst (λ xs. MatchOption (queue_of_slot c.args.slot xs) (new ≡ old) (λ packets. Wrote old (concat (take 64 packets)) new)) c.self.view_is
    (subst (λ q. MatchOption q (new ≡ old) (λ packets. Wrote old (concat (take 64 packets)) new)) (sym same) (c.pull_at.ensures.wrote someone))

pub invariant_of-self : goal.invariant_of-self
invariant_of-self c =
    let stands = rw c.deref.ensures.value at c.in-Some.ensures.found in
    sound_kept c.self.inside (record {
      subscribers = c.pull_at.new.subscribers;
      spare_queues = c.self.inside.spare_queues;
      rows = c.self.inside.rows;
      alike = c.self.inside.alike;
      places = c.self.inside.places;
    })
    (λ s. cond (has_slot c.args.slot s) (pulled s) s)
    (keeps_some (has_slot c.args.slot) pulled pulled_keeps)
    (some_choice (has_slot c.args.slot) pulled (feed_choice (λ s. pulled_feed s.feed)))
    (c.pull_at.ensures.changed someone ∙ sym (stands.changed pulled someone))
    c.pull_at.ensures.capacity refl refl refl refl c.self.invariant
