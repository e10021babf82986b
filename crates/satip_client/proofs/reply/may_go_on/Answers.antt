use Rattle.std.proofs.Common.{◌∷◌, [], ◌++◌, List, ℕ, subst, arith}
use Rattle.satip_client.specs.Places.{HasSomeHead}
use Rattle.satip_client.proofs.HeadLemmas.{never-short, never-long, untrue}
use Rattle.satip_client.proofs.reply.may_go_on.Goals as goal

pub returns-then-text-lt-STATUS_END-clause-never : goal.returns-then-text-lt-STATUS_END-clause-never
returns-then-text-lt-STATUS_END-clause-never c = λ fails.
    let none = untrue c.has_head_with.result (HasSomeHead (c.args.text.now ++ c.split_at.result.1.now)) c.has_head_with.ensures.test fails in
    never-short c.args.text.now (omega arith) (subst (λ (t : List ℕ). HasSomeHead (c.args.text.now ++ t) → ⊥) c.split_at.ensures.back none)

pub returns-clause-never : goal.returns-clause-never
returns-clause-never c = λ fails.
    let text : List ℕ = c.args.text.now in
    never-long text (omega arith) (record {
      on_empty_line = untrue c.has_head_with-2.result (HasSomeHead (text ++ 10 ∷ [])) c.has_head_with-2.ensures.test c.if-has_head_with.false;
      on_line = untrue c.has_head_with-3.result (HasSomeHead (text ++ 10 ∷ 10 ∷ [])) c.has_head_with-3.ensures.test c.if-has_head_with-2.false;
      on_name = untrue c.has_head_with-4.result (HasSomeHead (text ++ 58 ∷ 10 ∷ 10 ∷ [])) c.has_head_with-4.ensures.test c.if-has_head_with-3.false;
      on_blanks = untrue c.has_head_with-5.result (HasSomeHead (text ++ 48 ∷ 10 ∷ 10 ∷ [])) c.has_head_with-5.ensures.test c.if-has_head_with-4.false;
      on_length = untrue c.has_head_with-6.result (HasSomeHead (text ++ 65 ∷ 58 ∷ 10 ∷ 10 ∷ [])) c.has_head_with-6.ensures.test fails;
    })
