use Rattle.std.proofs.Common.{◌≡◌, ℕ, List, length, Ok}
use Rattle.hex.specs.Hex.{decode_of}
use Rattle.satip_frame.specs.Stream.{skip_newlines}
use Rattle.satip_script.proofs.messages.behind_newlines.Given as goal

-- the rest is what stands behind some of the line ends
abbrev pub invariant-newlines : goal.invariant-newlines
invariant-newlines l =
    (text : List ℕ) → decode_of l.digits ≡ Ok text
    → (left : List ℕ) × (decode_of l.rest ≡ Ok left) × (skip_newlines text ≡ skip_newlines left)

abbrev pub decreases-newlines : goal.decreases-newlines
decreases-newlines l = length l.rest
