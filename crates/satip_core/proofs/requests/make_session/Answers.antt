use Rattle.std.proofs.Common.{◌≡◌, ◌∙◌, ℕ, Bool, cond, Option, Some, None, IfSome, is_none, false, unwrap_or, ap, sym, subst}
use Rattle.std.proofs.lemmas.Bool.{or_from}
use Rattle.std.proofs.lemmas.Option.{same_Some}
use Rattle.satip_plain.specs.Types.{SessionId}
use Rattle.satip_plain.specs.State.{stream_of}
use Rattle.satip_plain.specs.Steps.{least_free, next_id}
use Rattle.satip_core.proofs.requests.make_session.Goals as goal

abbrev unless : {X : Type 0} → X → Bool → Option X
unless x full = cond full None (Some x)

pub returns-in-None-clause-given : goal.returns-in-None-clause-given
returns-in-None-clause-given c = λ cfg st stands room lives.
    c.found.ensures.made cfg st stands ∙ ap (unless (next_id st c.args.draw, least_free st.streams)) room
    ∙ ap (λ (q : Option ℕ). Some (next_id st c.args.draw, unwrap_or q (least_free st.streams))) (sym c.in-None.is)

pub returns-in-None-join-clause-given : goal.returns-in-None-join-clause-given
returns-in-None-join-clause-given c = λ cfg st stands room lives.
    let alive = subst (λ (q : Option ℕ). IfSome q (λ number. is_none (stream_of st number) ≡ false)) c.in-Some.is lives in
    let made = c.in-None-join.ensures.made cfg st stands ∙ ap (unless (next_id st c.args.draw)) (or_from _ _ room alive) in
    absurd (cc)

pub returns-in-Some-join-clause-given : goal.returns-in-Some-join-clause-given
returns-in-Some-join-clause-given c = λ cfg st stands room lives.
    let alive = subst (λ (q : Option ℕ). IfSome q (λ number. is_none (stream_of st number) ≡ false)) c.in-Some.is lives in
    let made = c.in-Some-join.ensures.made cfg st stands ∙ ap (unless (next_id st c.args.draw)) (or_from _ _ room alive) in
    ap (λ (id : SessionId). Some (id, c.in-Some.number)) (same_Some _ _ made)
    ∙ ap (λ (q : Option ℕ). Some (next_id st c.args.draw, unwrap_or q (least_free st.streams))) (sym c.in-Some.is)

pub returns-in-None-clause-untuned : goal.returns-in-None-clause-untuned
returns-in-None-clause-untuned c = λ cfg st stands room none. c.found.ensures.untuned cfg st stands room
