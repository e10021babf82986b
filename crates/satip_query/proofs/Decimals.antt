-- A text with two dots is no decimal number.
use Rattle.std.proofs.Common.{◌≡◌, ℕ, ◌≤◌, false, List, [], ◌∷◌, length, Option, Some, Bor, refl, arith, ap, sym, ◌∙◌}
use Rattle.std.specs.List.{slice_split}
use Rattle.std.proofs.lemmas.List.Splits.{length-slice_split}
use Rattle.satip_tune.specs.Pieces.{is_byte, pieces_left}
use Rattle.satip_query.specs.Values.{are_decimal}

past_two : (whole digits : List ℕ) (parts : List (List ℕ)) → 1 ≤ length parts → are_decimal (whole ∷ digits ∷ parts) ≡ false
past_two whole digits [] some = absurd (omega arith)
past_two whole digits (part ∷ parts) some = refl

pub three_pieces : (text whole digits : List ℕ) (rest more : Bor (List ℕ)) (first second : Option (Bor (List ℕ)))
    → slice_split (is_byte 46) text ≡ whole ∷ pieces_left 46 first → first ≡ Some rest
    → slice_split (is_byte 46) rest.now ≡ digits ∷ pieces_left 46 second → second ≡ Some more
    → false ≡ are_decimal (slice_split (is_byte 46) text)
three_pieces text whole digits rest more first second pieces at_first others at_second =
    let some : 1 ≤ length (slice_split (is_byte 46) more.now) = omega (arith, length-slice_split (is_byte 46) more.now) in
    let behind : slice_split (is_byte 46) rest.now ≡ digits ∷ slice_split (is_byte 46) more.now =
    others ∙ ap (λ left. digits ∷ pieces_left 46 left) at_second in
    let all : slice_split (is_byte 46) text ≡ whole ∷ digits ∷ slice_split (is_byte 46) more.now =
    pieces ∙ ap (λ left. whole ∷ pieces_left 46 left) at_first ∙ ap (λ (parts : List (List ℕ)). whole ∷ parts) behind in
    sym (ap are_decimal all ∙ past_two whole digits (slice_split (is_byte 46) more.now) some)
