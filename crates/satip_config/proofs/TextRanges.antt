-- The ranges of what is read from the texts of addresses and frequencies.
use Rattle.std.proofs.Common.{◌≡◌, ℕ, ◌+◌, ◌*◌, ◌<◌, ◌≤◌, Bool, true, false, ◌&&◌, nat_le, leb-true, cond, List, [], ◌∷◌, Option, Some, None, Result, Ok, Err, refl, ap, subst, arith}
use Rattle.std.specs.List.{slice_split}
use Rattle.std.specs.Result.{result_ok}
use Rattle.std.specs.Str.Parse.{digits_value}
use Rattle.std.proofs.lemmas.Bool.{and_parts}
use Rattle.std.proofs.lemmas.Option.{cond_some, same_Some}
use Rattle.satip_base.specs.Numbers.{are_digits, number_of, is_dot, octet_of, ip_from, ip_of_parts, ip_of}
use Rattle.satip_tune.specs.declared.faults.ValueFault.{ValueFault}
use Rattle.satip_tune.specs.Frequency.{thousandths_of, frequency_from, frequency_of_parts, frequency_of}
use Rattle.satip_config.specs.Steps.{is_within}
use Rattle.satip_config.specs.Values.{khz_of}
use Rattle.satip_config.specs.Limits.{IsWithin}
use Rattle.satip_config.proofs.Inverses.{is_within-parts}

-- ---- frequencies

allowed_or_fault : (b : Bool) (khz n : ℕ) (e : ValueFault) → is_within 1000 99999999 khz ≡ b → cond b (Ok khz) (Err e) ≡ Ok n → IsWithin 1000 99999999 n
allowed_or_fault true khz n e is h = let same : khz ≡ n = cc in subst (IsWithin 1000 99999999) same (is_within-parts 1000 99999999 khz is)
allowed_or_fault false khz n e is h = absurd cc

frequency_from-range : (mhz khz : Option ℕ) (n : ℕ) → frequency_from mhz khz ≡ Ok n → IsWithin 1000 99999999 n
frequency_from-range (Some mhz) (Some khz) n h = allowed_or_fault (is_within 1000 99999999 (mhz * 1000 + khz)) (mhz * 1000 + khz) n _ refl h
frequency_from-range (Some mhz) None n h = absurd cc
frequency_from-range None (Some khz) n h = absurd cc
frequency_from-range None None n h = absurd cc

frequency_of_parts-range : (parts : List (List ℕ)) (n : ℕ) → frequency_of_parts parts ≡ Ok n → IsWithin 1000 99999999 n
frequency_of_parts-range [] n h = absurd cc
frequency_of_parts-range (mhz ∷ []) n h = frequency_from-range (number_of 18446744073709551615 mhz) (Some 0) n h
frequency_of_parts-range (mhz ∷ digits ∷ []) n h = frequency_from-range (number_of 18446744073709551615 mhz) (thousandths_of digits) n h
frequency_of_parts-range (mhz ∷ digits ∷ more ∷ rest) n h = absurd cc

ok_from_result_ok : (r : Result ℕ ValueFault) (n : ℕ) → result_ok r ≡ Some n → r ≡ Ok n
ok_from_result_ok (Ok m) n h = let same : m ≡ n = cc in ap Ok same
ok_from_result_ok (Err e) n h = absurd cc

pub khz_of-range : (text : List ℕ) (n : ℕ) → khz_of text ≡ Some n → IsWithin 1000 99999999 n
unfolding frequency_of
khz_of-range text n h = frequency_of_parts-range _ n (ok_from_result_ok (frequency_of text) n h)

-- ---- addresses

octet_of-range : (bytes : List ℕ) (n : ℕ) → octet_of bytes ≡ Some n → n ≤ 255
octet_of-range bytes n h =
    let (fine, is) = cond_some (are_digits 3 bytes && nat_le (digits_value 10 bytes) 255) (digits_value 10 bytes) n h in
    let (digits, small) = and_parts (are_digits 3 bytes) (nat_le (digits_value 10 bytes) 255) fine in
    rw (← is) (leb-true _ _ small)

ip_from-range : (a b c d : Option ℕ) (n : ℕ) → ((x : ℕ) → a ≡ Some x → x ≤ 255) → ((x : ℕ) → b ≡ Some x → x ≤ 255) → ((x : ℕ) → c ≡ Some x → x ≤ 255)
    → ((x : ℕ) → d ≡ Some x → x ≤ 255)
    → ip_from a b c d ≡ Some n → n < 4294967296
ip_from-range (Some a) (Some b) (Some c) (Some d) n ha hb hc hd h =
    let is : a * 16777216 + b * 65536 + c * 256 + d ≡ n = same_Some _ _ h in
    omega (arith, is, ha a refl, hb b refl, hc c refl, hd d refl)
ip_from-range None b c d n ha hb hc hd h = absurd cc
ip_from-range (Some a) None c d n ha hb hc hd h = absurd cc
ip_from-range (Some a) (Some b) None d n ha hb hc hd h = absurd cc
ip_from-range (Some a) (Some b) (Some c) None n ha hb hc hd h = absurd cc

ip_of_parts-range : (parts : List (List ℕ)) (n : ℕ) → ip_of_parts parts ≡ Some n → n < 4294967296
ip_of_parts-range (a ∷ b ∷ c ∷ d ∷ []) n h = ip_from-range (octet_of a) (octet_of b) (octet_of c) (octet_of d) n (octet_of-range a) (octet_of-range b)
    (octet_of-range c) (octet_of-range d) h
ip_of_parts-range [] n h = absurd cc
ip_of_parts-range (a ∷ []) n h = absurd cc
ip_of_parts-range (a ∷ b ∷ []) n h = absurd cc
ip_of_parts-range (a ∷ b ∷ c ∷ []) n h = absurd cc
ip_of_parts-range (a ∷ b ∷ c ∷ d ∷ e ∷ rest) n h = absurd cc

pub ip_of-range : (bytes : List ℕ) (n : ℕ) → ip_of bytes ≡ Some n → n < 4294967296
unfolding ip_of
ip_of-range bytes n h = ip_of_parts-range (slice_split is_dot bytes) n h
