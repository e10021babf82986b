-- How long the fields of a SES1 text are.
use Rattle.std.proofs.Common.{ℕ, ◌-◌, ◌/◌, ◌%◌, ◌^◌, ◌<◌, ◌≤◌, ◌==◌, Bool, true, false, [], ◌∷◌, length, decimal, Option, Some, None, if◌then◌else◌, length-append, lit≤, arith}
use Rattle.std.specs.List.{suffix_len}
use Rattle.std.proofs.lemmas.Fmt.{length-decimal-le}
use Rattle.std.proofs.lemmas.List.{length-take}
use Rattle.satip_base.proofs.NumberLemmas.{length-decimal_u16, length-decimal_u32, length-decimal_u8}
use Rattle.satip_tune.specs.Words.{pol_text, system_text, modulation_text, pilots_text_of, roll_off_text, fec_text}
use Rattle.satip_tune.specs.Pieces.{is_byte}
use Rattle.satip_tune.specs.Frequency.{frequency_text, fraction_text, without_end_zeros, three_digits}
use Rattle.satip_tune.specs.declared.signal.Pol.{Pol}
use Rattle.satip_tune.specs.declared.signal.Pol.TheVariants.{H, V, L, R}
use Rattle.satip_tune.specs.declared.signal.System.{System}
use Rattle.satip_tune.specs.declared.signal.System.TheVariants.{Dvbs, Dvbs2}
use Rattle.satip_tune.specs.declared.signal.Modulation.{Modulation}
use Rattle.satip_tune.specs.declared.signal.Modulation.TheVariants.{Qpsk, Psk8}
use Rattle.satip_tune.specs.declared.signal.RollOff.{RollOff}
use Rattle.satip_tune.specs.declared.signal.RollOff.TheVariants.{R35, R25, R20}
use Rattle.satip_tune.specs.declared.signal.Fec.{Fec}
use Rattle.satip_tune.specs.declared.signal.Fec.TheVariants.{F12, F23, F34, F56, F78, F89, F35, F45, F910}
use Rattle.satip_rtcp.specs.Ses1.{optional_text, lock_text}

pub length-lock_text : (locked : Bool) → length (lock_text locked) ≤ 12
unfolding lock_text
length-lock_text true = lit≤ tt
length-lock_text false = lit≤ tt

pub length-pol_text : (pol : Pol) → length (pol_text pol) ≤ 12
unfolding pol_text
length-pol_text H = lit≤ tt
length-pol_text V = lit≤ tt
length-pol_text L = lit≤ tt
length-pol_text R = lit≤ tt

pub length-system_text : (system : System) → length (system_text system) ≤ 12
unfolding system_text
length-system_text Dvbs = lit≤ tt
length-system_text Dvbs2 = lit≤ tt

pub length-modulation_field : (modulation : Option Modulation) → length (optional_text modulation_text modulation) ≤ 12
unfolding modulation_text
length-modulation_field None = lit≤ tt
length-modulation_field (Some Qpsk) = lit≤ tt
length-modulation_field (Some Psk8) = lit≤ tt

pub length-pilots_field : (pilots : Option Bool) → length (optional_text pilots_text_of pilots) ≤ 12
unfolding pilots_text_of
length-pilots_field None = lit≤ tt
length-pilots_field (Some true) = lit≤ tt
length-pilots_field (Some false) = lit≤ tt

pub length-roll_off_field : (roll_off : Option RollOff) → length (optional_text roll_off_text roll_off) ≤ 12
unfolding roll_off_text
length-roll_off_field None = lit≤ tt
length-roll_off_field (Some R35) = lit≤ tt
length-roll_off_field (Some R25) = lit≤ tt
length-roll_off_field (Some R20) = lit≤ tt

pub length-fec_field : (fec : Option Fec) → length (optional_text fec_text fec) ≤ 12
unfolding fec_text
length-fec_field None = lit≤ tt
length-fec_field (Some F12) = lit≤ tt
length-fec_field (Some F23) = lit≤ tt
length-fec_field (Some F34) = lit≤ tt
length-fec_field (Some F56) = lit≤ tt
length-fec_field (Some F78) = lit≤ tt
length-fec_field (Some F89) = lit≤ tt
length-fec_field (Some F35) = lit≤ tt
length-fec_field (Some F45) = lit≤ tt
length-fec_field (Some F910) = lit≤ tt

fraction_cases : (khz : ℕ) (b : Bool) → length (if b then [] else 46 ∷ without_end_zeros (three_digits khz)) ≤ 4
fraction_cases khz true = lit≤ tt
fraction_cases khz false =
    let cut = length-take (length (three_digits khz) - suffix_len (is_byte 48) (three_digits khz)) (three_digits khz) in
    omega (arith, cut)

-- a frequency below 2^32 kHz has at most seven digits of MHz, a dot and three digits
pub length-frequency_text : (khz : ℕ) → khz < 2 ^ 32 → length (frequency_text khz) ≤ 12
unfolding frequency_text
length-frequency_text khz small =
    let mhz : length (decimal (khz / 1000)) ≤ 7 = length-decimal-le 7 (khz / 1000) (omega arith) (omega arith) (omega arith) in
    let rest = fraction_cases (khz % 1000) (khz % 1000 == 0) in
    omega (arith, mhz, rest, length-append (decimal (khz / 1000)) (fraction_text (khz % 1000)))

pub ruleset fields = (
  length-lock_text,
  length-pol_text,
  length-system_text,
  length-modulation_field,
  length-pilots_field,
  length-roll_off_field,
  length-fec_field,
  length-frequency_text,
  length-decimal_u8,
  length-decimal_u16,
  length-decimal_u32,
)
