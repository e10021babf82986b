-- What is missing in parts of what is held.
use Rattle.std.proofs.Common.{◌≡◌, ℕ, ◌+◌, ◌-◌, ◌<◌, ◌≤◌, ◌==◌, min, zero, suc, false, List, [], ◌∷◌, ◌++◌, length, drop, replicate, Option, None, Some, refl, sym, ap, ◌∙◌, arith}
use Rattle.std.proofs.lemmas.Bool.Decides.{nat_tests}
use Rattle.std.proofs.lemmas.List.{drop-append-le, drop-replicate, length-replicate, drop-drop, drop_at}
use Rattle.std.proofs.Math.Seq.{drop-length}
use Rattle.satip_rtp_receiver.specs.Catching.{missing}

-- before the newest datagram
pub missing-tail : (n skip : ℕ) (packets : List ℕ) → missing n (replicate skip None ++ Some packets ∷ []) ≡ min skip n
missing-tail zero skip packets = omega arith
missing-tail (suc n) zero packets = omega arith
missing-tail (suc n) (suc skip) packets = omega (arith, missing-tail n skip packets)

pub drop-missing : (n skip : ℕ) (held : List (Option (List ℕ))) → n ≤ skip
    → drop n (replicate skip None ++ held) ≡ replicate (skip - n) None ++ held
drop-missing n skip held h =
    drop-append-le n (replicate skip None) held (omega (arith, length-replicate {A = Option (List ℕ)} skip None))
    ∙ ap (λ t. t ++ held) (drop-replicate n skip None)

-- behind places that are missing
missing-replicate : (k n : ℕ) (held : List (Option (List ℕ))) → missing (n + k) (replicate k None ++ held) ≡ missing n held + k
missing-replicate zero n held =
    let same : n + 0 ≡ n = omega arith in
    omega (arith, ap (λ m. missing m held) same)
missing-replicate (suc k) n held =
    let same : n + suc k ≡ suc (n + k) = omega arith in
    omega (arith, missing-replicate k n held, ap (λ m. missing m (replicate (suc k) None ++ held)) same)

missing-none : (n : ℕ) (held : List (Option (List ℕ))) → (missing 1 held == 1) ≡ false → missing n held ≡ 0
missing-none zero held h = refl
missing-none (suc n) [] h = refl
missing-none (suc n) (Some packets ∷ held) h = refl
missing-none (suc n) (None ∷ held) h = absurd (grind (arith, nat_tests))

pub missing-stops : (most k : ℕ) (old held : List (Option (List ℕ))) → old ≡ replicate k None ++ held → k ≤ most
    → (missing 1 held == 1) ≡ false → k ≡ missing most old
missing-stops most k old held e h stops =
    let n = most - k in
    let sum : n + k ≡ most = omega arith in
    omega (arith, missing-none n held stops, missing-replicate k n held, ap (λ t. missing (n + k) t) e, ap (λ m. missing m old) sum)

pub missing-whole : (most k : ℕ) (old held : List (Option (List ℕ))) → old ≡ replicate k None ++ held → k ≡ most → k ≡ missing most old
missing-whole most k old held e h =
    let same : 0 + k ≡ most = omega arith in
    omega (arith, missing-replicate k 0 held, ap (λ t. missing (0 + k) t) e, ap (λ m. missing m old) same)

-- in front of more places
pub missing-length : (n : ℕ) (held : List (Option (List ℕ))) → missing n held ≤ length held
missing-length zero held = omega arith
missing-length (suc n) [] = omega arith
missing-length (suc n) (Some packets ∷ held) = omega arith
missing-length (suc n) (None ∷ held) = omega (arith, missing-length n held)

pub missing-within : (n : ℕ) (held more : List (Option (List ℕ))) → missing n held < length held → missing n (held ++ more) ≡ missing n held
missing-within zero held more h = refl
missing-within (suc n) [] more h = absurd (omega arith)
missing-within (suc n) (Some packets ∷ held) more h = refl
missing-within (suc n) (None ∷ held) more h = omega (arith, missing-within n held more (omega arith))

pub missing-behind : (n : ℕ) (held more : List (Option (List ℕ))) → missing n held ≡ length held
    → missing n (held ++ more) ≡ missing n held + missing (n - missing n held) more
missing-behind zero [] more h = refl
missing-behind zero (place ∷ held) more h = absurd (omega arith)
missing-behind (suc n) [] more h =
    let same : suc n - 0 ≡ suc n = omega arith in
    omega (arith, ap (λ m. missing m more) same)
missing-behind (suc n) (Some packets ∷ held) more h = absurd (omega arith)
missing-behind (suc n) (None ∷ held) more h =
    let same : suc n - (missing n held + 1) ≡ n - missing n held = omega arith in
    omega (arith, missing-behind n held more (omega arith), ap (λ m. missing m more) same)

-- all of the front is dropped
pub drop-behind : (count more : ℕ) (xs ys : List (Option (List ℕ))) → count ≡ length xs
    → drop count xs ++ drop more ys ≡ drop (count + more) (xs ++ ys)
drop-behind count more xs ys h =
    ap (λ t. t ++ drop more ys) (ap (λ n. drop n xs) h ∙ drop-length xs)
    ∙ ap (λ t. drop more t) (sym (drop_at xs ys count (sym h))) ∙ drop-drop more count (xs ++ ys)
