-- Texts that are appended one behind the other.
use Rattle.std.proofs.Common.{◌≡◌, ℕ, zero, suc, ◌+◌, ◌/◌, ◌%◌, ◌^◌, ◌<◌, ◌≤◌, List, [], ◌∷◌, ◌++◌, length, take, drop, take-append-drop, Some, flat_map, Result, Ok, Err, append_assoc, append-nil, length-append, add-one, arith, sym, ap, ◌∙◌}
use Rattle.std.specs.Prelude.{slice_get}
use Rattle.hex.specs.Hex.{encode_lower, encode_with, lower_digits}
use Rattle.satip_base.specs.Output.{Datagram}
use Rattle.satip_base.specs.Texts.{address_text}
use Rattle.satip_base.proofs.NumberLemmas.{length-decimal_u8}
use Rattle.satip_script.specs.Printed.{datagram_line}
use Rattle.satip_ts.proofs.HexDigits.{encode-append}
use Rattle.satip_base.specs.declared.outcomes.Want.{Want}
use Rattle.satip_script.specs.Inner.{Appended}

-- one text and then another
pub appended_then : (result : Result Unit Want) (o m n a b : List ℕ) → m ≡ o ++ a → Appended result m b n → Appended result o (a ++ b) n
appended_then (Ok done) o m n a b first second = second ∙ ap (λ (t : List ℕ). t ++ b) first ∙ append_assoc o a b
appended_then (Err want) o m n a b first second =
    (a ++ second.0, second.1 ∙ ap (λ (t : List ℕ). t ++ second.0) first ∙ append_assoc o a second.0)

-- where a part was appended and then memory refused
pub appended_part : (want : Want) (o m n a b c : List ℕ) → m ≡ o ++ a → Appended (Err want) m b n → Appended (Err want) o c n
appended_part want o m n a b c first second =
    (a ++ second.0, second.1 ∙ ap (λ (t : List ℕ). t ++ second.0) first ∙ append_assoc o a second.0)

-- what is appended behind what was appended
pub joined : (o m n a b : List ℕ) → m ≡ o ++ a → n ≡ m ++ b → n ≡ o ++ (a ++ b)
joined o m n a b first second = second ∙ ap (λ (t : List ℕ). t ++ b) first ∙ append_assoc o a b

-- digits of one piece more
pub digits_more : (o m n done piece : List ℕ) → m ≡ o ++ encode_lower done → n ≡ m ++ encode_lower piece → n ≡ o ++ encode_lower (done ++ piece)
digits_more o m n done piece before after =
    joined o m n (encode_lower done) (encode_lower piece) before after ∙ ap (λ (t : List ℕ). o ++ t) (sym (encode-append lower_digits done piece))

-- no digits yet
pub no_digits : (o : List ℕ) → o ≡ o ++ encode_lower []
unfolding encode_with
no_digits o = sym (append-nil o)

-- a piece more of a list was passed
pub passed_more : (all done rest piece more : List ℕ) (k : ℕ) → all ≡ done ++ rest → piece ≡ take k rest → more ≡ drop k rest → all ≡ (done ++ piece) ++ more
passed_more all done rest piece more k whole front back =
    whole ∙ ap (λ (r : List ℕ). done ++ r) (sym (take-append-drop k rest)) ∙ sym (append_assoc done (take k rest) (drop k rest))
    ∙ ap (λ (p : List ℕ). (done ++ p) ++ drop k rest) (sym front) ∙ ap (λ (m : List ℕ). (done ++ piece) ++ m) (sym back)

-- the lines of one datagram more
pub lines_more : (ds : List Datagram) (k : ℕ) (d : Datagram) → slice_get ds k ≡ Some d
    → flat_map datagram_line (take (k + 1) ds) ≡ flat_map datagram_line (take k ds) ++ datagram_line d
lines_more ds k d here = rw add-one (lines_by ds k d here)
  where
    lines_by : (ds : List Datagram) (k : ℕ) (d : Datagram) → slice_get ds k ≡ Some d
        → flat_map datagram_line (take (suc k) ds) ≡ flat_map datagram_line (take k ds) ++ datagram_line d
    lines_by [] k d here = cc here
    lines_by (e ∷ ds) zero d here = let same : e ≡ d = cc in append-nil (datagram_line e) ∙ ap datagram_line same
    lines_by (e ∷ ds) (suc k) d here =
        ap (λ (t : List ℕ). datagram_line e ++ t) (lines_by ds k d here)
        ∙ sym (append_assoc (datagram_line e) (flat_map datagram_line (take k ds)) (datagram_line d))

-- one datagram's line was appended behind those before it
pub lines_added : (o m n : List ℕ) (ds : List Datagram) (k : ℕ) (d : Datagram) → m ≡ o ++ flat_map datagram_line (take k ds) → n ≡ m ++ datagram_line d
    → Some d ≡ slice_get ds k → n ≡ o ++ flat_map datagram_line (take (k + 1) ds)
lines_added o m n ds k d before after here =
    joined o m n (flat_map datagram_line (take k ds)) (datagram_line d) before after
    ∙ ap (λ (t : List ℕ). o ++ t) (sym (lines_more ds k d (sym here)))

-- how long an address is
pub length-address : (ip : ℕ) → ip < 2 ^ 32 → length (address_text ip) ≤ 15
unfolding address_text
length-address ip h =
    let a = length-decimal_u8 (ip / 16777216) (omega arith) in
    let b = length-decimal_u8 (ip / 65536 % 256) (omega arith) in
    let c = length-decimal_u8 (ip / 256 % 256) (omega arith) in
    let d = length-decimal_u8 (ip % 256) (omega arith) in
    omega (arith, length-append {A = ℕ})

pub ruleset address_bounds = (length-address)
