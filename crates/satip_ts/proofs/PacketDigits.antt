-- Which digits are those of a packet.
use Rattle.std.proofs.Common.{◌≡◌, ℕ, ◌+◌, ◌*◌, ◌/◌, ◌%◌, ◌<◌, ◌≢◌, Bool, true, false, List, [], ◌∷◌, length, slice_index, Some, None, Result, Ok, Err, refl, sym, ap, ◌∙◌, arith}
use Rattle.std.specs.Prelude.{◌==◌, is_some, if◌then◌else◌}
use Rattle.std.specs.Char.{is_ascii_hexdigit}
use Rattle.std.specs.List.{list_all}
use Rattle.std.specs.Result.{result_ok, result_unwrap_or}
use Rattle.std.proofs.lemmas.List.Sums.{AllPass-from_list_all, list_all-from_AllPass}
use Rattle.hex.specs.Hex.{decode_of, decode_pairs, decode_sized, hex_digit_value, is_hex_digit, pair_value, value_at}
use Rattle.hex.specs.declared.error.FromHexError.{FromHexError}
use Rattle.hex.proofs.HexLemmas.{decode_of-ok, decode_pairs-digits, decode_sized-ok, decode_sized-twice}
use Rattle.hex.proofs.Pairs.{decode_sized-pairs}
use Rattle.satip_ts.specs.Digits.{packet_of, packet_from, synchronized}
use Rattle.satip_ts.proofs.HexDigits.{all_same, bind_ok, digit_read, parts_of}

-- ---- the digits of a packet

synchronized_some : (bytes : List ℕ) → slice_index bytes 0 ≡ 71 → synchronized bytes ≡ Some bytes
synchronized_some bytes h = rw h refl

first_byte : (byte : ℕ) → pair_value 52 55 0 ≡ Ok byte → byte ≡ 71
first_byte byte h = sym (ap (λ (r : Result ℕ FromHexError). result_unwrap_or r 0) h)

packet_read : (a b : ℕ) (rest : List ℕ) → length (a ∷ b ∷ rest) ≡ 376 → a ≡ 52 → b ≡ 55 → list_all is_ascii_hexdigit (a ∷ b ∷ rest) ≡ true
    → is_some (packet_of (a ∷ b ∷ rest)) ≡ true
unfolding packet_of
packet_read a b rest len four seven all =
    let s : List ℕ = a ∷ b ∷ rest in
    let even : length s % 2 ≡ 0 = omega arith in
    let half : length s / 2 ≡ 188 = omega arith in
    let r = decode_pairs-digits 0 s even (AllPass-from_list_all is_hex_digit s (all_same s ∙ all)) in
    let sized : decode_sized s 188 ≡ Ok r.0 = decode_sized-pairs s 188 even half ∙ r.1 in
    let p = parts_of a b 0 rest r.0 r.1 in
    let pair : pair_value 52 55 0 ≡ Ok p.byte = ap (λ (x : ℕ). pair_value x 55 0) (sym four) ∙ ap (λ (y : ℕ). pair_value a y 0) (sym seven) ∙ p.pair 0 in
    let first : slice_index r.0 0 ≡ 71 = ap (λ (xs : List ℕ). slice_index xs 0) p.is ∙ first_byte p.byte pair in
    rw (sized, synchronized_some r.0 first) refl

pub yes_packet : (s : List ℕ) → length s ≡ 376 → slice_index s 0 ≡ 52 → slice_index s 1 ≡ 55 → list_all is_ascii_hexdigit s ≡ true
    → is_some (packet_of s) ≡ true
yes_packet [] len four seven all = absurd (omega arith)
yes_packet (a ∷ []) len four seven all = absurd (omega arith)
yes_packet (a ∷ b ∷ rest) len four seven all = packet_read a b rest len four seven all

-- ---- other digits

-- what is known of the digits of a packet
record OfPacket (s : List ℕ) : Type 0 where
  long : length s ≡ 376
  four : slice_index s 0 ≡ 52
  seven : slice_index s 1 ≡ 55
  all : list_all is_ascii_hexdigit s ≡ true

digit_four : (c : ℕ) → hex_digit_value c ≡ Some 4 → c ≡ 52
digit_four c h = grind arith

digit_seven : (c : ℕ) → hex_digit_value c ≡ Some 7 → c ≡ 55
digit_seven c h = grind arith

small : (c v : ℕ) → hex_digit_value c ≡ Some v → v < 16
small c v h = grind arith

pair_71 : (a b : ℕ) → pair_value a b 0 ≡ Ok 71 → (a ≡ 52) × (b ≡ 55)
pair_71 a b h =
    let high = bind_ok (value_at a 0) _ 71 h in
    let low = bind_ok (value_at b (0 + 1)) _ 71 high.2 in
    let is_high : hex_digit_value a ≡ Some high.0 = digit_read a 0 (hex_digit_value a) high.0 high.1 in
    let is_low : hex_digit_value b ≡ Some low.0 = digit_read b (0 + 1) (hex_digit_value b) low.0 low.1 in
    let sum : high.0 * 16 + low.0 ≡ 71 = ap (λ (r : Result ℕ FromHexError). result_unwrap_or r 0) low.2 in
    let below : low.0 < 16 = small b low.0 is_low in
    let four : high.0 ≡ 4 = omega arith in
    let seven : low.0 ≡ 7 = omega arith in
    (digit_four a (is_high ∙ ap Some four), digit_seven b (is_low ∙ ap Some seven))

first_pair : (s bytes : List ℕ) → length s ≡ 376 → decode_pairs 0 s ≡ Ok bytes → slice_index bytes 0 ≡ 71 → (slice_index s 0 ≡ 52) × (slice_index s 1 ≡ 55)
first_pair [] bytes len h sync = absurd (omega arith)
first_pair (a ∷ []) bytes len h sync = absurd (omega arith)
first_pair (a ∷ b ∷ rest) bytes len h sync =
    let p = parts_of a b 0 rest bytes h in
    let byte : p.byte ≡ 71 = ap (λ (xs : List ℕ). slice_index xs 0) (sym p.is) ∙ sync in
    pair_71 a b (p.pair 0 ∙ ap (λ (x : ℕ). Ok x) byte)

sync_by : (same : Bool) (first : ℕ) (bytes : List ℕ) → (first == 71) ≡ same → is_some (if same then Some bytes else None) ≡ true → first ≡ 71
sync_by true first bytes e h = grind arith
sync_by false first bytes e h = cc h

of_decoded : (s : List ℕ) (r : Result (List ℕ) FromHexError) → decode_sized s 188 ≡ r → is_some (packet_from (result_ok r)) ≡ true → OfPacket s
of_decoded s (Err e) is h = cc h
of_decoded s (Ok bytes) is h =
    let len : length s ≡ 2 * 188 = decode_sized-ok s 188 bytes is in
    let decoded : decode_of s ≡ Ok bytes = sym (decode_sized-twice s 188 len) ∙ is in
    let even : length s % 2 ≡ 0 = omega arith in
    let half : length s / 2 ≡ 188 = omega arith in
    let pairs : decode_pairs 0 s ≡ Ok bytes = sym (decode_sized-pairs s 188 even half) ∙ is in
    let sync : slice_index bytes 0 ≡ 71 = sync_by (slice_index bytes 0 == 71) (slice_index bytes 0) bytes refl h in
    let first = first_pair s bytes len pairs sync in
    record {
      long = len;
      four = first.0;
      seven = first.1;
      all = sym (all_same s) ∙ list_all-from_AllPass is_hex_digit s (decode_of-ok s bytes decoded).1;
    }

of_packet : (s : List ℕ) → is_some (packet_of s) ≡ true → OfPacket s
unfolding packet_of
of_packet s h = of_decoded s (decode_sized s 188) refl h

refused : (s : List ℕ) (some : Bool) → is_some (packet_of s) ≡ some → (OfPacket s → ⊥) → is_some (packet_of s) ≡ false
refused s true is none = absurd (none (of_packet s is))
refused s false is none = is

pub other_length : (s : List ℕ) → length s ≢ 376 → is_some (packet_of s) ≡ false
other_length s h = refused s (is_some (packet_of s)) refl (λ p. h p.long)

pub other_first : (s : List ℕ) → slice_index s 0 ≢ 52 → is_some (packet_of s) ≡ false
other_first s h = refused s (is_some (packet_of s)) refl (λ p. h p.four)

pub other_second : (s : List ℕ) → slice_index s 1 ≢ 55 → is_some (packet_of s) ≡ false
other_second s h = refused s (is_some (packet_of s)) refl (λ p. h p.seven)

pub not_all_digits : (s : List ℕ) → list_all is_ascii_hexdigit s ≡ false → is_some (packet_of s) ≡ false
not_all_digits s h = refused s (is_some (packet_of s)) refl (λ p. let same : true ≡ false = sym p.all ∙ h in cc same)

pub ruleset packet_tests = (yes_packet, other_length, other_first, other_second, not_all_digits)
