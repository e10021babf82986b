-- Pieces of a text.
use Rattle.std.proofs.Common.{◌≡◌, ℕ, ◌+◌, ◌≤◌, List, ◌++◌, length, length-take, length-drop, take, drop, slice_range, arith, sym, ◌∙◌, ap}
use Rattle.std.proofs.lemmas.List.{take_at, take-append-drop, drop-drop}
use Rattle.std.proofs.Math.Seq.{take-add}

-- a piece in front of the buffer follows what was received before it
pub piece_received : (text buf piece : List ℕ) (place count : ℕ) → place + count ≤ length text
    → piece ≡ slice_range text place (place + count)
    → take (place + count) text ≡ take place text ++ take count (piece ++ buf)
piece_received text buf piece place count within is =
    let sized : length piece ≡ count = rw is (omega (arith, length-take {A = ℕ}, length-drop {A = ℕ})) in
    let cut : piece ≡ take count (drop place text) = is ∙ ap (λ (n : ℕ). take n (drop place text)) (omega arith) in
    rw (take_at piece buf count sized, cut) (take-add place count text)

-- a piece in front of the buffer, and what is left behind it
pub piece_taken : (text buf piece : List ℕ) (place count : ℕ) → place + count ≤ length text
    → piece ≡ slice_range text place (place + count)
    → drop place text ≡ take count (piece ++ buf) ++ drop (place + count) text
piece_taken text buf piece place count within is =
    let sized : length piece ≡ count = rw is (omega (arith, length-take {A = ℕ}, length-drop {A = ℕ})) in
    let cut : piece ≡ take count (drop place text) = is ∙ ap (λ (n : ℕ). take n (drop place text)) (omega arith) in
    rw (take_at piece buf count sized, cut, ← drop-drop count place text) (sym (take-append-drop count (drop place text)))
