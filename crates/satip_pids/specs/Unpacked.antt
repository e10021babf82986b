-- The array and the count follow from the numbers that they hold.
use Rattle.std.specs.Prelude.{◌≡◌, ℕ, ◌-◌, List, ◌++◌, length, take, replicate}
use Rattle.std.proofs.Common.{arith, ap, ◌∙◌}
use Rattle.std.proofs.lemmas.List.{length-take-le, take-append-drop}
use Rattle.satip_pids.specs.Packed.{IsPacked}
use Rattle.satip_pids.specs.declared.numbers.Numbers.TheInside.{Inside}

-- the places after the numbers are zeros, up to the room
places_back : (room : ℕ) (places : List ℕ) (count : ℕ) → IsPacked room places count → take count places ++ replicate (room - length (take count places)) 0 ≡ places
places_back room places count packed =
    let long : length (take count places) ≡ count = length-take-le count places (omega (arith, packed.within, packed.size)) in
    rw (long, ← packed.blank) (take-append-drop count places)

-- equal arrays and equal counts make equal values
same_inside : (room : ℕ) (a : Inside room) (places : List ℕ) (count : ℕ) → places ≡ a.places → count ≡ a.count → record { places = places; count = count } ≡ a
same_inside room a places count e f =
    let with_places : List ℕ → Inside room = λ ps. record { places = ps; count = count } in
    let with_count : ℕ → Inside room = λ n. record { places = a.places; count = n } in
    ap with_places e ∙ ap with_count f

-- the numbers and the zeros after them are the fields of the packed array
pub unpacked : (room : ℕ) (a : Inside room) → IsPacked room a.places a.count → (let xs = take a.count a.places in record { places = xs ++ replicate (room - length xs) 0; count = length xs }) ≡ a
unpacked room a packed = same_inside room a _ _ (places_back room a.places a.count packed) (length-take-le a.count a.places (omega (arith, packed.within, packed.size)))
