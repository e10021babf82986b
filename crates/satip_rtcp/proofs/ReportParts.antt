-- How long the parts of a report are, and what is left after printing onto an empty strip.
use Rattle.std.proofs.Common.{◌≡◌, ℕ, ◌+◌, ◌-◌, ◌%◌, List, [], ◌∷◌, ◌++◌, length, replicate, codes, ap, ◌∙◌, length-append, arith}
use Rattle.std.specs.Int.{to_be_bytes, w16, w32}
use Rattle.std.proofs.lemmas.List.{length-replicate}
use Rattle.satip_base.specs.Printed.{Printed}
use Rattle.satip_rtcp.specs.Reports.{description_body, application_body}

-- what is printed onto an empty strip is all that it has
pub alone : (o bs n shown : List ℕ) → o ≡ [] → Printed o bs n → shown ≡ n → shown ≡ bs
alone o bs n shown empty printed same = same ∙ printed.bytes ∙ ap (λ front. front ++ bs) empty

pub length-description : (ssrc : ℕ) (name : List ℕ) → 4 + length (description_body ssrc name) ≡ 10 + length name + (4 - (2 + length name) % 4)
unfolding description_body
length-description ssrc name =
    let zeros : List ℕ = replicate (4 - (2 + length name) % 4) 0 in
    let front : List ℕ = to_be_bytes w32 ssrc ++ (1 ∷ length name ∷ []) in
    omega (arith, length-append (front ++ name) zeros, length-append front name, length-replicate {A = ℕ} (4 - (2 + length name) % 4) 0)

pub length-application : (ssrc : ℕ) (text : List ℕ) → 4 + length (application_body ssrc text) ≡ 16 + length text + (4 - length text % 4) % 4
unfolding application_body
length-application ssrc text =
    let zeros : List ℕ = replicate ((4 - length text % 4) % 4) 0 in
    let front : List ℕ = to_be_bytes w32 ssrc ++ codes "SES1" ++ to_be_bytes w16 0 ++ to_be_bytes w16 (length text) in
    omega (arith, length-append (front ++ text) zeros, length-append front text, length-replicate {A = ℕ} ((4 - length text % 4) % 4) 0)
