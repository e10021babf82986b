-- Texts that are cut at the first place of a byte.
use Rattle.std.proofs.Common.{◌≡◌, ℕ, ◌+◌, ◌*◌, ◌<◌, Bool, true, false, List, [], ◌∷◌, ◌++◌, length, length-append, take, Option, None, Some, Result, Ok, Err, refl, sym, ap, ◌∙◌, subst, arith}
use Rattle.std.specs.List.{list_any, position_or_len}
use Rattle.std.proofs.lemmas.Bool.{or_parts, false_from_ne_true}
use Rattle.std.proofs.lemmas.Bool.Decides.{nat_tests}
use Rattle.std.proofs.lemmas.List.{take_at}
use Rattle.std.proofs.lemmas.List.Sums.{position_or_len_is}
use Rattle.std.specs.Prelude.{MatchResult}
use Rattle.hex.specs.Hex.{IsBytes, decode_sized, encode_lower, lower_digits}
use Rattle.hex.specs.declared.error.FromHexError.{FromHexError}
use Rattle.hex.proofs.HexLemmas.{decode_sized-encode_lower, length-encode_with}
use Rattle.memchr.specs.Find.{IsFirstByte}
use Rattle.satip_audit.specs.Cuts.{is_byte}

pub same_byte : (byte : ℕ) → is_byte byte byte ≡ true
same_byte byte = grind (arith, nat_tests)

-- the first element that passes stands behind those that don't
place_behind : (p : ℕ → Bool) (piece : List ℕ) (y : ℕ) (rest : List ℕ) → list_any p piece ≡ false → p y ≡ true
    → position_or_len p (piece ++ y ∷ rest) ≡ length piece
place_behind p [] y rest none here = rw here refl
place_behind p (x ∷ xs) y rest none here =
    let both = or_parts (p x) (list_any p xs) none in
    let more = place_behind p xs y rest both.1 here in
    rw both.0 (omega (arith, more))

-- what a search answers
pub found_is : (p : ℕ → Bool) (text : List ℕ) (r : Option ℕ) → IsFirstByte p text r → position_or_len p text < length text → r ≡ Some (position_or_len p text)
found_is p text None h inside =
    let e : position_or_len p text ≡ length text =
    position_or_len_is p text (length text) 0 (omega arith) (λ k l. false_from_ne_true _ (h k (omega arith) l)) (λ l. absurd (omega (arith, l))) in
    absurd (omega (arith, e, inside))
found_is p text (Some k) h inside =
    let high : k < length text = h.0.high in
    let e : position_or_len p text ≡ k =
    position_or_len_is p text k 0 (omega (arith, high)) (λ j l. false_from_ne_true _ (h.0.before j (omega arith) l)) (λ l. h.1) in
    ap (λ (n : ℕ). Some n) (sym e)

pub finds : (at : ℕ) (text : List ℕ) (r : Option ℕ) → IsFirstByte (is_byte at) text r → (piece rest : List ℕ) → list_any (is_byte at) piece ≡ false
    → text ≡ piece ++ at ∷ rest → r ≡ Some (length piece)
finds at text r h piece rest none e =
    let place : position_or_len (is_byte at) text ≡ length piece = ap (λ (t : List ℕ). position_or_len (is_byte at) t) e
    ∙ place_behind (is_byte at) piece at rest none (same_byte at) in
    let long : length text ≡ length piece + (1 + length rest) = ap length e ∙ length-append piece (at ∷ rest) ∙ omega arith in
    found_is (is_byte at) text r h (omega (arith, place, long)) ∙ ap (λ (n : ℕ). Some n) place

-- ---- digits

pub length-digits : (digits bytes : List ℕ) → digits ≡ encode_lower bytes → length digits ≡ 2 * length bytes
length-digits digits bytes e = ap length e ∙ length-encode_with lower_digits bytes

-- what the digits of some bytes decode to
pub decoded : (digits bytes out : List ℕ) (n : ℕ) (r : Result Unit FromHexError) → IsBytes bytes → digits ≡ encode_lower bytes → n ≡ length bytes
    → MatchResult (decode_sized digits n) (λ bs. (r ≡ Ok tt) × (out ≡ bs)) (λ e. r ≡ Err e) → (r ≡ Ok tt) × (out ≡ bytes)
decoded digits bytes out n r are e long h =
    let sized : decode_sized digits n ≡ Ok bytes =
    ap (λ (d : List ℕ). decode_sized d n) e ∙ decode_sized-encode_lower bytes n (sym long) are in
    subst (λ d. MatchResult d (λ bs. (r ≡ Ok tt) × (out ≡ bs)) (λ e. r ≡ Err e)) sized h

pub front_decoded : (bytes out rest : List ℕ) → out ≡ bytes → take (length bytes) (out ++ rest) ≡ bytes
front_decoded bytes out rest e = take_at out rest (length bytes) (ap length e) ∙ e

pub ok_not_err : (r : Result Unit FromHexError) (e : FromHexError) → r ≡ Ok tt → r ≡ Err e → ⊥
ok_not_err r e h k = cc (h, k)
