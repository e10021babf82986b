use Rattle.std.proofs.Common.{◌≡◌, ◌≤◌, length, take, true}
use Rattle.std.specs.List.{list_all}
use Rattle.std.specs.Char.{is_ascii_digit}
use Rattle.std.specs.Str.Parse.{digits_value}
use Rattle.satip_base.proofs.numbers.read_digits.Given as goal

-- the digits so far are digits, and the value is theirs
abbrev pub invariant-loop-byte : goal.invariant-loop-byte
invariant-loop-byte l =
    (list_all is_ascii_digit (take l.byte-index l.bytes) ≡ true) × (l.value ≡ digits_value 10 (take l.byte-index l.bytes)) × (length l.bytes ≤ 20)
