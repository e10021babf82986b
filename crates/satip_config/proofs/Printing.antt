-- The room that a printed key takes.
use Rattle.std.proofs.Common.{ℕ, ◌<◌, ◌≤◌, length, decimal, arith}
use Rattle.std.proofs.lemmas.Fmt.{length-decimal-le}

pub length-decimal_u16 : (n : ℕ) → n < 65536 → length (decimal n) ≤ 5
length-decimal_u16 n h = length-decimal-le 5 n (omega arith) (omega arith) (omega arith)

pub ruleset number_room = (length-decimal_u16)
