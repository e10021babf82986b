-- Bytes in hexadecimal digits, cut into parts and joined.
use Rattle.std.proofs.Common.{◌≡◌, ℕ, zero, suc, ◌+◌, ◌*◌, ◌%◌, ◌≤◌, Bool, true, false, List, [], ◌∷◌, ◌++◌, length, take, drop, Option, Some, None, Result, Ok, Err, refl, sym, ap, ◌∙◌, subst, arith, length-take, length-drop}
use Rattle.std.specs.Prelude.{IsOk, MatchResult, ◌≢◌, ◌-◌, ◌&&◌, ◌||◌, nat_le, cond, is_some}
use Rattle.std.specs.Char.{is_ascii_hexdigit}
use Rattle.std.specs.List.{list_all}
use Rattle.std.proofs.lemmas.List.Sums.{AllPass-from_list_all, list_all-from_AllPass}
use Rattle.std.specs.Result.{result_ok, result_unwrap_or}
use Rattle.hex.specs.Hex.{decode_of, decode_pairs, decode_sized, digit_or_error, hex_digit_value, is_hex_digit, pair_value, value_at, encode_with, ◌>>=◌}
use Rattle.hex.specs.declared.error.FromHexError.{FromHexError}
use Rattle.hex.proofs.HexLemmas.{decode_of-even, decode_of-odd, decode_of-digits, decode_of-ok, decode_sized-twice}
use Rattle.hex.proofs.Pairs.{cons_byte, decode_pairs-ok_pair}

pub bind_ok : {A B : Type 0} (r : Result A FromHexError) (f : A → Result B FromHexError) (y : B)
    → (r >>= f) ≡ Ok y → (x : A) × (r ≡ Ok x) × (f x ≡ Ok y)
bind_ok (Ok x) f y h = (x, refl, h)
bind_ok (Err e) f y h = cc h

pub digit_read : (c i : ℕ) (o : Option ℕ) (v : ℕ) → digit_or_error c i o ≡ Ok v → o ≡ Some v
digit_read c i (Some w) v h = ap Some (ap (λ (r : Result ℕ FromHexError). result_unwrap_or r 0) h)
digit_read c i None v h = cc h

-- a pair of digits reads the same at each place
pair_anywhere : (a b i j v : ℕ) → pair_value a b i ≡ Ok v → pair_value a b j ≡ Ok v
pair_anywhere a b i j v h =
    let high = bind_ok (value_at a i) _ v h in
    let low = bind_ok (value_at b (i + 1)) _ v high.2 in
    let ha : value_at a j ≡ Ok high.0 = ap (digit_or_error a j) (digit_read a i (hex_digit_value a) high.0 high.1) in
    let hb : value_at b (j + 1) ≡ Ok low.0 = ap (digit_or_error b (j + 1)) (digit_read b (i + 1) (hex_digit_value b) low.0 low.1) in
    let both : pair_value a b j ≡ Ok (high.0 * 16 + low.0) = rw (ha, hb) refl in
    both ∙ low.2

-- the first byte and the others
pub record Parts (a b : ℕ) (rest bytes : List ℕ) (i : ℕ) : Type 0 where
  pub byte : ℕ
  pub others : List ℕ
  pub is : bytes ≡ byte ∷ others
  pub pair : (j : ℕ) → pair_value a b j ≡ Ok byte
  pub more : decode_pairs (i + 2) rest ≡ Ok others

pub parts_of : (a b i : ℕ) (rest bytes : List ℕ) → decode_pairs i (a ∷ b ∷ rest) ≡ Ok bytes → Parts a b rest bytes i
unfolding decode_pairs
parts_of a b i rest bytes h =
    let first = bind_ok (pair_value a b i) _ bytes h in
    let others = bind_ok (decode_pairs (i + 2) rest) _ bytes first.2 in
    record {
      byte = first.0;
      others = others.0;
      is = sym (ap (λ (r : Result (List ℕ) FromHexError). result_unwrap_or r []) others.2);
      pair = λ j. pair_anywhere a b i j first.0 first.1;
      more = others.1;
    }

-- digits read the same at each place
pairs_anywhere : (i j : ℕ) (s bytes : List ℕ) → decode_pairs i s ≡ Ok bytes → decode_pairs j s ≡ Ok bytes
unfolding decode_pairs
pairs_anywhere i j [] bytes h = h
pairs_anywhere i j (a ∷ []) bytes h = cc h
pairs_anywhere i j (a ∷ b ∷ rest) bytes h =
    let p = parts_of a b i rest bytes h in
    decode_pairs-ok_pair j a b p.byte rest (p.pair j) ∙ ap (cons_byte p.byte) (pairs_anywhere (i + 2) (j + 2) rest p.others p.more)
    ∙ ap (λ (xs : List ℕ). Ok xs) (sym p.is)

pairs_taken : (k i j : ℕ) (s bytes : List ℕ) → decode_pairs i s ≡ Ok bytes → k ≤ length bytes → decode_pairs j (take (2 * k) s) ≡ Ok (take k bytes)
unfolding decode_pairs
pairs_taken zero i j s bytes h within = refl
pairs_taken (suc k) i j [] bytes h within =
    let none : [] ≡ bytes = ap (λ (r : Result (List ℕ) FromHexError). result_unwrap_or r []) h in
    absurd (omega (arith, ap length none))
pairs_taken (suc k) i j (a ∷ []) bytes h within = cc h
pairs_taken (suc k) i j (a ∷ b ∷ rest) bytes h within =
    let p = parts_of a b i rest bytes h in
    let two : 2 * suc k ≡ suc (suc (2 * k)) = omega arith in
    let others = pairs_taken k (i + 2) (j + 2) rest p.others p.more (omega (arith, within, ap length p.is)) in
    ap (λ n. decode_pairs j (take n (a ∷ b ∷ rest))) two
    ∙ decode_pairs-ok_pair j a b p.byte (take (2 * k) rest) (p.pair j) ∙ ap (cons_byte p.byte) others
    ∙ ap (λ (xs : List ℕ). Ok (take (suc k) xs)) (sym p.is)

pairs_dropped : (k i j : ℕ) (s bytes : List ℕ) → decode_pairs i s ≡ Ok bytes → k ≤ length bytes → decode_pairs j (drop (2 * k) s) ≡ Ok (drop k bytes)
unfolding decode_pairs
pairs_dropped zero i j s bytes h within = pairs_anywhere i j s bytes h
pairs_dropped (suc k) i j [] bytes h within =
    let none : [] ≡ bytes = ap (λ (r : Result (List ℕ) FromHexError). result_unwrap_or r []) h in
    absurd (omega (arith, ap length none))
pairs_dropped (suc k) i j (a ∷ []) bytes h within = cc h
pairs_dropped (suc k) i j (a ∷ b ∷ rest) bytes h within =
    let p = parts_of a b i rest bytes h in
    let two : 2 * suc k ≡ suc (suc (2 * k)) = omega arith in
    let others = pairs_dropped k (i + 2) j rest p.others p.more (omega (arith, within, ap length p.is)) in
    ap (λ n. decode_pairs j (drop n (a ∷ b ∷ rest))) two ∙ others
    ∙ ap (λ (xs : List ℕ). Ok (drop (suc k) xs)) (sym p.is)

-- the digits of a text are twice as many as its bytes
pub length-digits : (s bytes : List ℕ) → decode_of s ≡ Ok bytes → length s ≡ 2 * length bytes
length-digits s bytes h = (decode_of-ok s bytes h).2

-- the first bytes stand in the first digits
pub taken : (k : ℕ) (s bytes : List ℕ) → decode_of s ≡ Ok bytes → k ≤ length bytes → decode_of (take (2 * k) s) ≡ Ok (take k bytes)
taken k s bytes h within =
    let len = length-digits s bytes h in
    let even : length s % 2 ≡ 0 = omega arith in
    let short : length (take (2 * k) s) % 2 ≡ 0 = omega (arith, length-take (2 * k) s, len, within) in
    decode_of-even (take (2 * k) s) short ∙ pairs_taken k 0 0 s bytes (sym (decode_of-even s even) ∙ h) within

-- and the others in the others
pub dropped : (k : ℕ) (s bytes : List ℕ) → decode_of s ≡ Ok bytes → k ≤ length bytes → decode_of (drop (2 * k) s) ≡ Ok (drop k bytes)
dropped k s bytes h within =
    let len = length-digits s bytes h in
    let even : length s % 2 ≡ 0 = omega arith in
    let short : length (drop (2 * k) s) % 2 ≡ 0 = omega (arith, length-drop (2 * k) s, len, within) in
    decode_of-even (drop (2 * k) s) short ∙ pairs_dropped k 0 0 s bytes (sym (decode_of-even s even) ∙ h) within

-- what reads has bytes
pub read_bytes : (r : Result (List ℕ) FromHexError) → IsOk r → (bytes : List ℕ) × (r ≡ Ok bytes)
read_bytes (Ok bytes) h = (bytes, refl)
read_bytes (Err e) h = cc h

pub is_read : (r : Result (List ℕ) FromHexError) (bytes : List ℕ) → r ≡ Ok bytes → IsOk r
is_read r bytes h = rw h refl

-- digits of two texts behind each other
pub encode-append : (t xs ys : List ℕ) → encode_with t (xs ++ ys) ≡ encode_with t xs ++ encode_with t ys
unfolding encode_with
encode-append t [] ys = refl
encode-append t (x ∷ xs) ys = rw (encode-append t xs ys) refl

hex_by : (a b d : Bool) (x y z : ℕ) → is_some (cond b (Some x) (cond d (Some y) (cond a (Some z) None))) ≡ ((a || b) || d)
hex_by true true true x y z = refl
hex_by true true false x y z = refl
hex_by true false true x y z = refl
hex_by true false false x y z = refl
hex_by false true true x y z = refl
hex_by false true false x y z = refl
hex_by false false true x y z = refl
hex_by false false false x y z = refl

same_digit : (c : ℕ) → is_hex_digit c ≡ is_ascii_hexdigit c
same_digit c = hex_by (nat_le 48 c && nat_le c 57) (nat_le 65 c && nat_le c 70) (nat_le 97 c && nat_le c 102) (c - 55) (c - 87) (c - 48)

pub all_same : (s : List ℕ) → list_all is_hex_digit s ≡ list_all is_ascii_hexdigit s
all_same [] = refl
all_same (c ∷ s) = rw (same_digit c, all_same s) refl

-- an even number of digits reads
pub digits_read : (s : List ℕ) → length s % 2 ≡ 0 → list_all is_ascii_hexdigit s ≡ true → IsOk (decode_of s)
digits_read s even all =
    let r = decode_of-digits s even (AllPass-from_list_all is_hex_digit s (all_same s ∙ all)) in
    rw r.1 refl

-- where a byte is no digit nothing is read
pub no_digits_read : (s : List ℕ) → list_all is_ascii_hexdigit s ≡ false → result_ok (decode_of s) ≡ None
no_digits_read s none = by_result (decode_of s) (λ bytes h.
    let all = list_all-from_AllPass is_hex_digit s (decode_of-ok s bytes h).1 in
    let yes : true ≡ false = sym all ∙ all_same s ∙ none in
    cc yes)
  where
    by_result : (r : Result (List ℕ) FromHexError) → ((bytes : List ℕ) → r ≡ Ok bytes → ⊥) → result_ok r ≡ None
    by_result (Ok bytes) h = absurd (h bytes refl)
    by_result (Err e) h = refl

-- nor of an odd number
pub no_odd_read : (s : List ℕ) → length s % 2 ≢ 0 → result_ok (decode_of s) ≡ None
no_odd_read s odd = rw (decode_of-odd s (omega arith)) refl

pub ruleset digit_tests = (digits_read, no_digits_read, no_odd_read)

-- a beginning and an end of digits that read
pub front_reads : (digits piece : List ℕ) (count : ℕ) → IsOk (decode_of digits) → 2 * count ≤ length digits → piece ≡ take (2 * count) digits
    → IsOk (decode_of piece)
front_reads digits piece count ok within e =
    let r = read_bytes (decode_of digits) ok in
    let len = length-digits digits r.0 r.1 in
    subst (λ s. IsOk (decode_of s)) (sym e) (is_read _ _ (taken count digits r.0 r.1 (omega (arith, len, within))))

pub back_reads : (digits piece : List ℕ) (count : ℕ) → IsOk (decode_of digits) → 2 * count ≤ length digits → piece ≡ drop (2 * count) digits
    → IsOk (decode_of piece)
back_reads digits piece count ok within e =
    let r = read_bytes (decode_of digits) ok in
    let len = length-digits digits r.0 r.1 in
    subst (λ s. IsOk (decode_of s)) (sym e) (is_read _ _ (dropped count digits r.0 r.1 (omega (arith, len, within))))

pub front_read : (digits piece text : List ℕ) (count : ℕ) → decode_of digits ≡ Ok text → 2 * count ≤ length digits → piece ≡ take (2 * count) digits
    → decode_of piece ≡ Ok (take count text)
front_read digits piece text count h within e =
    ap decode_of e ∙ taken count digits text h (omega (arith, length-digits digits text h, within))

pub back_read : (digits piece text : List ℕ) (count : ℕ) → decode_of digits ≡ Ok text → 2 * count ≤ length digits → piece ≡ drop (2 * count) digits
    → decode_of piece ≡ Ok (drop count text)
back_read digits piece text count h within e =
    ap decode_of e ∙ dropped count digits text h (omega (arith, length-digits digits text h, within))

-- what two digits decode to
pub front_is : (s text piece out : List ℕ) (r : Result Unit FromHexError) → decode_of s ≡ Ok text → 2 ≤ length s → piece ≡ take 2 s
    → MatchResult (decode_sized piece 1) (λ bytes. (r ≡ Ok tt) × (out ≡ bytes)) (λ e. r ≡ Err e) → out ≡ take 1 text
front_is s text piece out r h two e x =
    let read : decode_of piece ≡ Ok (take 1 text) = front_read s piece text 1 h (omega arith) e in
    let len : length piece ≡ 2 * 1 = ap length e ∙ (let t : length (take 2 s) ≡ 2 * 1 = omega (arith, length-take 2 s) in t) in
    let sized : decode_sized piece 1 ≡ Ok (take 1 text) = decode_sized-twice piece 1 len ∙ read in
    (subst (λ d. MatchResult d (λ bytes. (r ≡ Ok tt) × (out ≡ bytes)) (λ e. r ≡ Err e)) sized x).1
