-- How large a number is that was read, and how much of a text is left to cut.
use Rattle.std.proofs.Common.{◌≡◌, ℕ, suc, ◌≤◌, ◌&&◌, Bool, true, false, cond, leb, List, Option, Some, None, length, Bor, refl, arith}
use Rattle.std.specs.Str.Parse.{digits_value}
use Rattle.std.proofs.lemmas.Bool.Decides.{nat_tests}
use Rattle.satip_base.specs.Numbers.{number_of, are_digits}

within_by : (digits fits : Bool) (max value n : ℕ) → fits ≡ leb value max → cond (digits && fits) (Some value) None ≡ Some n → n ≤ max
within_by true true max value n fits e = let same : value ≡ n = cc in let le : leb value max ≡ true = cc in grind (arith, nat_tests)
within_by true false max value n fits e = absurd (cc)
within_by false fits max value n is e = absurd (cc)

-- a number that was read is at most the greatest that was allowed
pub number_of-le : (max : ℕ) (bytes : List ℕ) (n : ℕ) → number_of max bytes ≡ Some n → n ≤ max
unfolding number_of
number_of-le max bytes n e = within_by (are_digits 20 bytes) (leb (digits_value 10 bytes) max) max (digits_value 10 bytes) n refl e

pub ruleset bounds = (number_of-le)

abbrev pub bytes_left : Option (Bor (List ℕ)) → ℕ
bytes_left None = 0
bytes_left (Some rest) = suc (length rest.now)
