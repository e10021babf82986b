-- How much of a text is left to cut.
use Rattle.std.proofs.Common.{ℕ, suc, List, Option, None, Some, length, Bor}

abbrev pub bytes_left : Option (Bor (List ℕ)) → ℕ
bytes_left None = 0
bytes_left (Some rest) = suc (length rest.now)
