-- A text with two dots is no frequency.
use Rattle.std.proofs.Common.{◌≡◌, ℕ, ◌≤◌, List, [], ◌∷◌, length, Option, Some, Err, Bor, refl, arith, ap, sym, ◌∙◌}
use Rattle.std.specs.List.{slice_split}
use Rattle.std.proofs.lemmas.List.Splits.{length-slice_split}
use Rattle.satip_tune.specs.Pieces.{is_byte, pieces_left}
use Rattle.satip_tune.specs.Frequency.{frequency_of_parts}
use Rattle.satip_tune.specs.declared.faults.ValueFault.TheVariants.{Malformed}

past_two : (mhz digits : List ℕ) (parts : List (List ℕ)) → 1 ≤ length parts → frequency_of_parts (mhz ∷ digits ∷ parts) ≡ Err Malformed
past_two mhz digits [] some = absurd (omega arith)
past_two mhz digits (part ∷ parts) some = refl

pub three_pieces : (text mhz digits : List ℕ) (rest more : Bor (List ℕ)) (first second : Option (Bor (List ℕ)))
    → slice_split (is_byte 46) text ≡ mhz ∷ pieces_left 46 first → first ≡ Some rest
    → slice_split (is_byte 46) rest.now ≡ digits ∷ pieces_left 46 second → second ≡ Some more
    → Err Malformed ≡ frequency_of_parts (slice_split (is_byte 46) text)
three_pieces text mhz digits rest more first second pieces at_first others at_second =
    let some : 1 ≤ length (slice_split (is_byte 46) more.now) = omega (arith, length-slice_split (is_byte 46) more.now) in
    let behind : slice_split (is_byte 46) rest.now ≡ digits ∷ slice_split (is_byte 46) more.now =
    others ∙ ap (λ left. digits ∷ pieces_left 46 left) at_second in
    let all : slice_split (is_byte 46) text ≡ mhz ∷ digits ∷ slice_split (is_byte 46) more.now =
    pieces ∙ ap (λ left. mhz ∷ pieces_left 46 left) at_first ∙ ap (λ (parts : List (List ℕ)). mhz ∷ parts) behind in
    sym (ap frequency_of_parts all ∙ past_two mhz digits (slice_split (is_byte 46) more.now) some)
