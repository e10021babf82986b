use Rattle.std.proofs.Common.{◌≡◌, ℕ, List, ◌++◌, length}
use Rattle.hex.specs.Hex.{encode_lower}
use Rattle.satip_script.proofs.printing.append_digits.Given as goal

-- the digits of the bytes before the rest were appended
abbrev pub invariant-pieces : goal.invariant-pieces
invariant-pieces l = (done : List ℕ) × (l.bytes ≡ done ++ l.rest) × (l.text.items ≡ l.initial.text.items ++ encode_lower done)

abbrev pub decreases-pieces : goal.decreases-pieces
decreases-pieces l = length l.rest
