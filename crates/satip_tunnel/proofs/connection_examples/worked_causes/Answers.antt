use Rattle.std.proofs.Common.{List, [], ◌∷◌, ◌<◌, ◌≤◌, arith, refl, inl, inr, ⊎_elim}
use Rattle.std.specs.Prelude.{◌⊎◌}
use Rattle.satip_interleave.specs.Histories.{TunnelItem}
use Rattle.satip_interleave.specs.declared.events.TunnelAnswer.TheVariants.{Lane, Full as NoLane, Frames, Broken as LaneBroken}
use Rattle.satip_tunnel.specs.Causes.{HeldLane}
use Rattle.satip_tunnel.specs.Rows.{drains, enters, leaves}
use Rattle.satip_tunnel.specs.Seats.{IsAnsweredBy}
use Rattle.satip_tunnel.proofs.connection_examples.worked_causes.Goals as goal

-- a connection that had a lane and gave it up, one whose lane broke, and one that lost frames
abbrev silent : List TunnelItem
silent = enters (Lane 3) ∷ leaves 3 ∷ []

abbrev broke : List TunnelItem
broke = enters (Lane 3) ∷ drains 3 LaneBroken [] ∷ leaves 3 ∷ []

abbrev lost : List TunnelItem
lost = enters (Lane 3) ∷ drains 3 (Frames 5) [] ∷ leaves 3 ∷ []

silent_given : IsAnsweredBy NoLane silent → ⊥
silent_given (inl e) = cc e
silent_given (inr (inl e)) = cc e
silent_given (inr (inr none)) = none

silent_unbroken : IsAnsweredBy LaneBroken silent → ⊥
silent_unbroken (inl e) = cc e
silent_unbroken (inr (inl e)) = cc e
silent_unbroken (inr (inr none)) = none

silent_held : HeldLane silent
silent_held = record { given = silent_given; unbroken = silent_unbroken }

broke_given : IsAnsweredBy NoLane broke → ⊥
broke_given (inl e) = cc e
broke_given (inr (inl e)) = cc e
broke_given (inr (inr (inl e))) = cc e
broke_given (inr (inr (inr none))) = none

lost_given : IsAnsweredBy NoLane lost → ⊥
lost_given (inl e) = cc e
lost_given (inr (inl e)) = cc e
lost_given (inr (inr (inl e))) = cc e
lost_given (inr (inr (inr none))) = none

lost_unbroken : IsAnsweredBy LaneBroken lost → ⊥
lost_unbroken (inl e) = cc e
lost_unbroken (inr (inl e)) = cc e
lost_unbroken (inr (inr (inl e))) = cc e
lost_unbroken (inr (inr (inr none))) = none

turned_unbroken : IsAnsweredBy LaneBroken (enters NoLane ∷ []) → ⊥
turned_unbroken (inl e) = cc e
turned_unbroken (inr none) = none

entered_given : IsAnsweredBy NoLane (enters (Lane 3) ∷ []) → ⊥
entered_given (inl e) = cc e
entered_given (inr none) = none

entered_unbroken : IsAnsweredBy LaneBroken (enters (Lane 3) ∷ []) → ⊥
entered_unbroken (inl e) = cc e
entered_unbroken (inr none) = none

-- no count of a fresh line has risen
never_rose : (0 < 0) ⊎ (18446744073709551615 ≤ 0) → ⊥
never_rose (inl rose) = omega (arith, rose)
never_rose (inr last) = omega (arith, last)

pub returns-clause-full : goal.returns-clause-full
returns-clause-full c = record { refused = inl refl; unbroken = turned_unbroken }

pub returns-clause-not_full : goal.returns-clause-not_full
returns-clause-not_full c = λ cause. silent_given cause.refused

pub returns-clause-broken : goal.returns-clause-broken
returns-clause-broken c = record { given = broke_given; broke = inr (inl refl) }

pub returns-clause-done : goal.returns-clause-done
returns-clause-done c = record { held = silent_held; well = record { is_over = inl (refl, refl); calm = record { receive_faults = refl; send_faults = refl } } }

pub returns-clause-not_done : goal.returns-clause-not_done
returns-clause-not_done c = λ cause. cause.held.unbroken (inr (inl refl))

pub returns-clause-goes_on : goal.returns-clause-goes_on
returns-clause-goes_on c = λ cause. ⊎_elim (λ ended. cc ended.0) (λ closed. cc closed.1) cause.well.is_over

pub returns-clause-unread : goal.returns-clause-unread
returns-clause-unread c = record {
  held = silent_held;
  failed = record { goes_on = refl; unanswered = refl; faults = record { rose = inl (omega arith); kept = omega arith }; sends = refl };
}

pub returns-clause-not_unread : goal.returns-clause-not_unread
returns-clause-not_unread c = λ cause. never_rose cause.failed.faults.rose

pub returns-clause-read : goal.returns-clause-read
returns-clause-read c = λ cause. let on = cause.failed.goes_on in cc on

pub returns-clause-unsent : goal.returns-clause-unsent
returns-clause-unsent c = record {
  held = record { given = lost_given; unbroken = lost_unbroken };
  failed = record { goes_on = refl; faults = record { rose = inl (omega arith); kept = omega arith }; receives = refl };
}

pub returns-clause-not_unsent : goal.returns-clause-not_unsent
returns-clause-not_unsent c = λ cause. never_rose cause.failed.faults.rose

pub returns-clause-spent : goal.returns-clause-spent
returns-clause-spent c = record { held = record { given = entered_given; unbroken = entered_unbroken }; filled = tt }

pub returns-clause-not_spent : goal.returns-clause-not_spent
returns-clause-not_spent c = λ cause. cause.filled
