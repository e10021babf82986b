-- The packets of a whole recording.
use Rattle.std.specs.Prelude.{ℕ, ◌==◌, nat_le, if◌then◌else◌, zero, suc, List, [], ◌∷◌, length, take, drop}

-- the bytes from the next sync byte on
abbrev pub from_sync : List ℕ → List ℕ
from_sync [] = []
from_sync (b ∷ bs) = if b == 71 then b ∷ bs else from_sync bs

-- the first n packets of a text, or all if there are fewer: drop the bytes before the next sync byte, take 188, repeat
abbrev pub first_packets : ℕ → List ℕ → List (List ℕ)
first_packets zero text = []
first_packets (suc n) text =
    if nat_le 188 (length (from_sync text))
    then take 188 (from_sync text) ∷ first_packets n (drop 188 (from_sync text))
    else []

-- all packets of a text; fewer than 188 bytes at its end are in none
unfoldable pub cut_packets : List ℕ → List (List ℕ)
cut_packets text = first_packets (length text) text
