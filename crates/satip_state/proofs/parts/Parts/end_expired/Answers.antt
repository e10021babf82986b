use Rattle.std.proofs.Common.{◌≡◌, Some, None, find, length, refl, sym, ap, subst, ◌∙◌, rules}
use Rattle.satip_table.specs.Sessions.{has_slot}
use Rattle.satip_table.specs.Living.{Sound}
use Rattle.satip_fronts.specs.FrontEnds.{Sound as FrontsSound}
use Rattle.satip_timer.specs.Deadlines.{IsNextDue, NoneDue}
use Rattle.satip_state.specs.Kept.{Kept}
use Rattle.satip_state.proofs.Expiring.{none_yet, one_more_ended, due_seated, all_ended, key_low, slot_lives}
use Rattle.satip_state.proofs.parts.Parts.end_expired.Goals as goal

pub loop-slot-init : goal.loop-slot-init
loop-slot-init c = record {
  ended = λ config st stands.
      none_yet config c.args.self.now st stands (subst (λ (v : Kept). Sound v.table) c.self.view_is c.self.invariant.table)
      (subst (λ (v : Kept). FrontsSound v.fronts) c.self.view_is c.self.invariant.fronts);
}

pub returns-in_default-seat_at : goal.returns-in_default-seat_at
returns-in_default-seat_at c = record {
  ended = λ config st stands.
      let e = c.loop-slot.invariant.ended config st stands in
      let now : c.self.inside.clock ≡ c.loop-slot.self.clock = ap (λ (v : Kept). v.clock) c.self.view_is ∙ stands.clock ∙ sym e.stands.clock in
      let next : IsNextDue c.loop-slot.self.clock c.loop-slot.self.dues c.in-Some.slot =
      subst (λ n. IsNextDue n c.loop-slot.self.dues c.in-Some.slot) now
      (subst (λ (v : Kept). IsNextDue c.self.inside.clock v.dues c.in-Some.slot) c.self-in-loop-slot.view_is c.in-Some.ensures.next) in
      let long : length c.loop-slot.self.dues ≡ 64 = subst (λ (v : Kept). length v.dues ≡ 64) c.self-in-loop-slot.view_is c.in-Some.ensures.keys in
      let none : None ≡ find (has_slot c.in-Some.slot) c.loop-slot.self.table.seats = search rules in
      absurd (due_seated config c.loop-slot.self st e c.in-Some.slot (key_low c.loop-slot.self.dues c.loop-slot.self.clock c.in-Some.slot long next) next none);
}

pub loop-slot-smaller : goal.loop-slot-smaller
loop-slot-smaller c =
    let found : find (has_slot c.in-Some.slot) c.loop-slot.self.table.seats ≡ Some c.in-Some-seat_at.seat = search rules in
    c.drop_session-lived.ensures.fewer (slot_lives c.in-Some.slot c.loop-slot.self.table.seats c.in-Some-seat_at.seat found)

pub loop-slot-preserved : goal.loop-slot-preserved
loop-slot-preserved c = record {
  ended = λ config st stands.
      let e = c.loop-slot.invariant.ended config st stands in
      let now : c.self.inside.clock ≡ c.loop-slot.self.clock = ap (λ (v : Kept). v.clock) c.self.view_is ∙ stands.clock ∙ sym e.stands.clock in
      let next : IsNextDue c.loop-slot.self.clock c.loop-slot.self.dues c.in-Some.slot =
      subst (λ n. IsNextDue n c.loop-slot.self.dues c.in-Some.slot) now
      (subst (λ (v : Kept). IsNextDue c.self.inside.clock v.dues c.in-Some.slot) c.self-in-loop-slot.view_is c.in-Some.ensures.next) in
      let sound : Sound c.loop-slot.self.table = subst (λ (v : Kept). Sound v.table) c.self-in-loop-slot.view_is c.self-in-loop-slot.invariant.table in
      let found : find (has_slot c.in-Some.slot) c.loop-slot.self.table.seats ≡ Some c.in-Some-seat_at.seat = search rules in
      one_more_ended config c.loop-slot.self c.drop_session-lived.new.self st sound e c.in-Some.slot c.in-Some-seat_at.seat found next
      (c.drop_session-lived.ensures.ended config _ e.stands);
}

pub returns : goal.returns
returns c = record {
  ended = λ config st stands.
      let e = c.loop-slot.invariant.ended config st stands in
      let sound : Sound c.loop-slot.self.table = subst (λ (v : Kept). Sound v.table) c.self-in-loop-slot.view_is c.self-in-loop-slot.invariant.table in
      let now : c.self.inside.clock ≡ c.loop-slot.self.clock = ap (λ (v : Kept). v.clock) c.self.view_is ∙ stands.clock ∙ sym e.stands.clock in
      let none : NoneDue c.loop-slot.self.clock c.loop-slot.self.dues =
      subst (λ n. NoneDue n c.loop-slot.self.dues) now
      (subst (λ (v : Kept). NoneDue c.self.inside.clock v.dues) c.self-in-loop-slot.view_is (c.in_default.ensures.none.0 refl)) in
      all_ended config c.loop-slot.self st sound e none;
}
