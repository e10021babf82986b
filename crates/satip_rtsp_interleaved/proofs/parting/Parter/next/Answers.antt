use Rattle.std.proofs.Common.{◌≡◌, ◌++◌, [], true, false, drop, is_some, refl, sym, ap, ◌∙◌, subst, rules}
use Rattle.satip_frame.specs.declared.framing.Step.TheVariants.{More}
use Rattle.satip_frame.specs.Stream.{skip_newlines}
use Rattle.satip_rtsp_interleaved.specs.Frames.{inside, behind}
use Rattle.satip_rtsp_interleaved.specs.Held.{Held}
use Rattle.satip_rtsp_interleaved.specs.Fronts.{IsOpen, IsAtMessage, parter_of}
use Rattle.satip_rtsp_interleaved.proofs.ParterLemmas.{GoesOn, passed_on, IsClear, start_clear, if_true, if_false, told_of, open_told, rests_of, end_clear, stays_ended, exact_of}
use Rattle.satip_rtsp_interleaved.proofs.parting.Parter.next.Goals as goal

-- ---- the text had ended

pub invariant_of-self : goal.invariant_of-self
invariant_of-self c =
    let framer = c.self.inside.framer in
    let some = sym c.self.invariant.known ∙ c.if-self.true in
    let at = end_clear framer.bytes c.self.inside.to_come framer.ended c.self.invariant.rests some in
    let known = stays_ended framer.bytes c.self.inside.to_come framer.ended c.self.invariant.rests some c.next.result
    (λ tail messages. c.next.ensures.exact framer.bytes [] tail refl messages) in
    record {
      known = c.if-self.true ∙ sym (ap is_some c.next.ensures.ended ∙ known);
      rests = rests_of c.next.result framer.bytes c.self.inside.to_come c.next.new.self at.0 at.1
          (c.next.ensures.told framer.bytes [] refl) c.next.ensures.ended;
    }

pub returns-then-self-clause-told : goal.returns-then-self-clause-told
returns-then-self-clause-told c =
    let framer = c.self.inside.framer in
    let some = sym c.self.invariant.known ∙ c.if-self.true in
    let at = end_clear framer.bytes c.self.inside.to_come framer.ended c.self.invariant.rests some in
    told_of c.args.self.now framer.bytes c.self.inside.to_come c.next.result c.next.new.self
    (λ more. ap (λ (h : Held). behind (inside h.to_come) (h.bytes ++ more)) (sym c.self.view_is))
    at.0 at.1 (c.next.ensures.told framer.bytes [] refl)

pub returns-then-self-clause-exact : goal.returns-then-self-clause-exact
returns-then-self-clause-exact c = λ text ms tail reads parts.
    exact_of c.next.result text ms tail (parter_of c.self.inside.to_come c.next.new.self) (returns-then-self-clause-told c text ms reads) parts

-- ---- no message begins in the bytes

pub returns-then-not-place-clause-told : goal.returns-then-not-place-clause-told
returns-then-not-place-clause-told c =
    let place = c.pass_over-place.result in
    let mid = drop place.count c.held.result.now in
    let left : c.skip.new.self.bytes ≡ mid = c.skip.ensures.bytes ∙ ap (λ b. drop place.count b) (sym c.held.ensures.bytes) in
    let off : place.at_message ≡ false = search rules in
    let stands = if_false (IsAtMessage mid place.to_come) (IsOpen mid place.to_come) place.at_message c.pass_over-place.ensures.stands off in
    let same = passed_on c.args.self.now c.self.inside.framer c.self.inside.to_come c.held.result.now place.count place.to_come
    c.self.view_is c.held.ensures.bytes c.pass_over-place.ensures.passed in
    open_told c.args.self.now place.to_come c.skip.new.self
    (subst (λ b. GoesOn c.args.self.now place.to_come b) (sym left) same)
    (subst (λ b. IsOpen b place.to_come) (sym left) stands)

pub returns-then-not-place-clause-exact : goal.returns-then-not-place-clause-exact
returns-then-not-place-clause-exact c = λ text ms tail reads parts.
    exact_of More text ms tail (parter_of c.pass_over-place.result.to_come c.skip.new.self) (returns-then-not-place-clause-told c text ms reads) parts

-- ---- a message begins

pub invariant_of-self-2 : goal.invariant_of-self-2
invariant_of-self-2 c =
    let place = c.pass_over-place.result in
    let mid = drop place.count c.held.result.now in
    let left : c.skip.new.self.bytes ≡ mid = c.skip.ensures.bytes ∙ ap (λ b. drop place.count b) (sym c.held.ensures.bytes) in
    let on : place.at_message ≡ true = search rules in
    let stands = if_true (IsAtMessage mid place.to_come) (IsOpen mid place.to_come) place.at_message c.pass_over-place.ensures.stands on in
    record {
      known = c.is_end-self-inside.ensures.end ∙ ap is_some (sym c.next-step.ensures.ended);
      rests = rests_of c.next-step.result c.skip.new.self.bytes place.to_come c.next-step.new.self stands.between
          (subst IsClear (sym left) (start_clear mid stands.start))
          (c.next-step.ensures.told c.skip.new.self.bytes [] refl) c.next-step.ensures.ended;
    }

pub returns-clause-told : goal.returns-clause-told
returns-clause-told c =
    let place = c.pass_over-place.result in
    let mid = drop place.count c.held.result.now in
    let left : c.skip.new.self.bytes ≡ mid = c.skip.ensures.bytes ∙ ap (λ b. drop place.count b) (sym c.held.ensures.bytes) in
    let on : place.at_message ≡ true = search rules in
    let stands = if_true (IsAtMessage mid place.to_come) (IsOpen mid place.to_come) place.at_message c.pass_over-place.ensures.stands on in
    let same = passed_on c.args.self.now c.self.inside.framer c.self.inside.to_come c.held.result.now place.count place.to_come
    c.self.view_is c.held.ensures.bytes c.pass_over-place.ensures.passed in
    told_of c.args.self.now mid place.to_come c.next-step.result c.next-step.new.self same stands.between (start_clear mid stands.start)
    (c.next-step.ensures.told mid [] (ap skip_newlines (sym left)))

pub returns-clause-exact : goal.returns-clause-exact
returns-clause-exact c = λ text ms tail reads parts.
    exact_of c.next-step.result text ms tail (parter_of c.pass_over-place.result.to_come c.next-step.new.self) (returns-clause-told c text ms reads) parts
