-- Lemmas on the part of a list of places that is held.
use Rattle.std.proofs.Common.{ℕ, ◌≡◌, ◌+◌, ◌-◌, ◌≤◌, List, ◌++◌, length, take, drop, sym, ap, ◌∙◌, arith}
use Rattle.std.proofs.lemmas.List.{length-take-le, drop-append-le, drop-drop, drop-take}
use Rattle.std.proofs.lemmas.Slice.{between_is, take-put_mid}
use borrow.Rule.Slice.PartMut.{put_mid}

-- after a write behind what is held
pub held-put_mid : (places piece : List ℕ) (s q n : ℕ) → s ≤ q → q ≤ length places → length piece ≡ n
    → take (q + n - s) (drop s (put_mid q (q + n - q) places piece)) ≡ take (q - s) (drop s places) ++ piece
held-put_mid places piece s q n h k e =
    let written = put_mid q (q + n - q) places piece in
    let front : s ≤ length (take q places) = omega (arith, length-take-le q places k) in
    between_is written s (q + n)
    ∙ ap (λ xs. drop s xs) (take-put_mid q (q + n - q) places piece (q + n) (omega arith) k)
    ∙ drop-append-le s (take q places) piece front
    ∙ ap (λ xs. xs ++ piece) (sym (between_is places s q))

-- what is held behind the first k bytes
pub held-drop : (places : List ℕ) (s e k : ℕ) → s + k ≤ e → take (e - (s + k)) (drop (s + k) places) ≡ drop k (take (e - s) (drop s places))
held-drop places s e k h =
    ap (λ xs. take (e - (s + k)) xs) (sym (drop-drop k s places))
    ∙ sym (drop-take k (e - (s + k)) (drop s places))
    ∙ ap (λ n. drop k (take n (drop s places))) (omega arith)
