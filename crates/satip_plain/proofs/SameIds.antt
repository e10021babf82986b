-- Session ids that a test finds the same are the same.
use Rattle.std.proofs.Common.{◌≡◌, ◌==◌, ℕ, true, ap, ◌∙◌}
use Rattle.std.proofs.lemmas.Bool.{and_parts, eqb-true}
use Rattle.satip_plain.specs.Types.{SessionId}
use Rattle.satip_plain.specs.State.{same_id}

pub same_id_is : (a b : SessionId) → same_id a b ≡ true → a ≡ b
same_id_is a b e =
    let parts = and_parts (a.count == b.count) (a.word == b.word) e in
    let with_count : ℕ → SessionId = λ n. record { count = n; word = a.word } in
    let with_word : ℕ → SessionId = λ n. record { count = b.count; word = n } in
    ap with_count (eqb-true a.count b.count parts.0) ∙ ap with_word (eqb-true a.word b.word parts.1)
