use Rattle.std.proofs.Common.{ℕ, ◌≡◌, ◌||◌, Bool, true, false, not, cond, List, [], ◌∷◌, refl, sym, ap, subst, ◌∙◌}
use Rattle.std.specs.List.{list_any}
use Rattle.satip_flow.specs.Subscription.{Subscription, has_slot}
use Rattle.satip_flow.specs.Subscriptions.{without}
use Rattle.satip_packet_tests.proofs.flow.Both.add.Goals as goal

-- the slot of the one that is gone is free
none_left : (slot : ℕ) (xs : List Subscription) → list_any (has_slot slot) (without slot xs) ≡ false
none_left slot [] = refl
none_left slot (x ∷ xs) = each (has_slot slot x) refl (none_left slot xs)
  where
    each : (t : Bool) → has_slot slot x ≡ t → list_any (has_slot slot) (without slot xs) ≡ false
        → list_any (has_slot slot) (cond (not t) (x ∷ without slot xs) (without slot xs)) ≡ false
    each true e none = none
    each false e none = ap (λ t. t || list_any (has_slot slot) (without slot xs)) e ∙ none

pub add_http-requires-clause-free : goal.add_http-requires-clause-free
add_http-requires-clause-free c =
    subst (λ xs. list_any (has_slot c.args.place.slot) xs ≡ false) (sym c.end.ensures.gone) (none_left c.args.place.slot c.args.self.now.flow)

pub add_rtp-requires-clause-free : goal.add_rtp-requires-clause-free
add_rtp-requires-clause-free c =
    subst (λ xs. list_any (has_slot c.args.place.slot) xs ≡ false) (sym c.end.ensures.gone) (none_left c.args.place.slot c.args.self.now.flow)
