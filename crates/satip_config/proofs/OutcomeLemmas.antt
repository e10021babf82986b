-- The outcome of a status.
use Rattle.std.proofs.Common.{◌≡◌, refl, arith}
use Rattle.satip_config.specs.declared.outcome.Outcome.{Outcome}
use Rattle.satip_config.specs.declared.outcome.Outcome.TheVariants.{Done, InputFault, OutputFault, TooLong, OutOfMemory}
use Rattle.satip_config.specs.Outcomes.{status_of}

pub is_done : (outcome : Outcome) → status_of outcome ≡ 0 → outcome ≡ Done
is_done Done is = refl
is_done _ is = absurd (omega (arith, is))

pub is_input : (outcome : Outcome) → status_of outcome ≡ 5 → outcome ≡ InputFault
is_input InputFault is = refl
is_input _ is = absurd (omega (arith, is))

pub is_output : (outcome : Outcome) → status_of outcome ≡ 6 → outcome ≡ OutputFault
is_output OutputFault is = refl
is_output _ is = absurd (omega (arith, is))

pub is_long : (outcome : Outcome) → status_of outcome ≡ 8 → outcome ≡ TooLong
is_long TooLong is = refl
is_long _ is = absurd (omega (arith, is))

pub is_wanting : (outcome : Outcome) → status_of outcome ≡ 70 → outcome ≡ OutOfMemory
is_wanting OutOfMemory is = refl
is_wanting _ is = absurd (omega (arith, is))
