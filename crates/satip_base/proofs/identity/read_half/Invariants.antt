use Rattle.std.proofs.Common.{◌≡◌, ◌≤◌, length, take, true}
use Rattle.std.specs.List.{list_all}
use Rattle.std.specs.Str.Parse.{digits_value}
use Rattle.satip_base.specs.Texts.{is_id_digit}
use Rattle.satip_base.proofs.identity.read_half.Given as goal

-- the digits so far are digits, and the value is theirs
abbrev pub invariant-loop-byte : goal.invariant-loop-byte
invariant-loop-byte l =
    (list_all is_id_digit (take l.byte-index l.digits) ≡ true) × (l.value ≡ digits_value 16 (take l.byte-index l.digits)) × (length l.digits ≤ 8)
