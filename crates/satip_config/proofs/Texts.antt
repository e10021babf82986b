-- Whether bytes are UTF-8, as a test.
use Rattle.std.proofs.Common.{◌≡◌, ℕ, false, List}
use Rattle.std.specs.Str.{IsUtf8, is_utf8}
use Rattle.std.proofs.lemmas.Bool.{cases_Bool}
use Rattle.std.proofs.lemmas.Str.{IsUtf8-from_is_utf8, is_utf8-from_IsUtf8}
use Rattle.std.proofs.Common.{inl, inr}

pub is_utf8-false : (bytes : List ℕ) → ¬ IsUtf8 bytes → is_utf8 bytes ≡ false
is_utf8-false bytes other =
    elim (cases_Bool (is_utf8 bytes)) [
      | inl is ↦ absurd (other (IsUtf8-from_is_utf8 bytes is))
      | inr not ↦ not
    ]

pub ruleset texts = (is_utf8-from_IsUtf8, is_utf8-false)
