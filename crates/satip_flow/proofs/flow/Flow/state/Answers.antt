use Rattle.std.proofs.Common.{◌≡◌, Some, None, option_map, sym, ap, subst, ◌∙◌}
use Rattle.std.specs.Option.{option_and_then}
use Rattle.satip_flow.specs.Subscription.{packing_of, sender_state}
use Rattle.satip_flow.specs.Subscriptions.{packing_of_slot}
use Rattle.satip_flow.proofs.flow.Flow.state.Goals as goal

pub returns-in_default : goal.returns-in_default
returns-in_default c =
    let none = rw c.deref.ensures.value at c.in_default.ensures.none in
    let answer = sym (ap (λ o. sender_state (option_and_then packing_of (option_map (λ s. s.feed) o))) none.found) in
    record { state = subst (λ xs. None ≡ sender_state (packing_of_slot c.args.slot xs)) c.self.view_is answer }

pub returns : goal.returns
returns c =
    let stands = rw c.deref.ensures.value at c.in-Some.ensures.found in
    let one = c.index.result.now in
    let at_place = stands.found one ∙ ap (λ s. Some s) (sym c.index.ensures) in
    let answer = c.state.ensures.state ∙ sym (ap (λ o. sender_state (option_and_then packing_of (option_map (λ s. s.feed) o))) at_place) in
    record { state = subst (λ xs. c.state.result ≡ sender_state (packing_of_slot c.args.slot xs)) c.self.view_is answer }
