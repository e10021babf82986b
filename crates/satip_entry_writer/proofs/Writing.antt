-- Texts that are written in digits piece by piece.
use Rattle.std.proofs.Common.{◌≡◌, ℕ, ◌+◌, ◌*◌, ◌≤◌, List, [], ◌∷◌, ◌++◌, append-nil, length, length-append, append_assoc, arith, refl, sym, ◌∙◌, ap}
use Rattle.hex.specs.Hex.{lower_digits, encode_lower}
use Rattle.satip_ts.proofs.HexDigits.{encode-append}
use Rattle.satip_entry_writer.specs.Fields.{u8_text, u16_text, u32_text, u64_text}
use Rattle.satip_entry_writer.specs.Sheets.{Sheet, WroteHex}

-- one text after another
infixr 20 ◌then◌
pub ◌then◌ : {o m n : Sheet} {a b : List ℕ} → WroteHex o a m → WroteHex m b n → WroteHex o (a ++ b) n
◌then◌ {o = o} {a = a} {b = b} first second = record {
  text = rw (second.text, first.text, encode-append lower_digits a b) (append_assoc o.text (encode_lower a) (encode_lower b));
  spare = omega (arith, length-append {A = ℕ}, first.spare, second.spare);
}

pub length-u8 : (n : ℕ) → length (u8_text n) ≡ 1
unfolding u8_text
length-u8 n = refl

pub length-u16 : (n : ℕ) → length (u16_text n) ≡ 2
unfolding u16_text
length-u16 n = refl

pub length-u32 : (n : ℕ) → length (u32_text n) ≡ 4
unfolding u32_text
length-u32 n = refl

pub length-u64 : (n : ℕ) → length (u64_text n) ≡ 8
unfolding u64_text
length-u64 n = refl

pub ruleset number_lengths = (length-u8, length-u16, length-u32, length-u64)

-- what the pieces of a text need
pub ruleset writing_steps = (◌then◌, length-append, length-u8, length-u16, length-u32, length-u64)
