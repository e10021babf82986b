-- Whether two tunings are the same.
use Rattle.std.specs.Prelude.{ℕ, ◌==◌, ◌&&◌, nat_eq, Bool, List, bytes_eq}
use Rattle.std.specs.Option.{option_eq}
use Rattle.satip_tune.specs.Words.{pol_text, system_text, modulation_text, roll_off_text, fec_text, pilots_text_of}
use Rattle.satip_plain.specs.Types.{Tuning}

-- whether two values have the same text
abbrev pub same_by : {X : Type 0} → (X → List ℕ) → X → X → Bool
same_by text x y = bytes_eq (text x) (text y)

-- whether two tunings have the same values of all keys
abbrev pub tuning_eq : Tuning → Tuning → Bool
tuning_eq a b =
    option_eq nat_eq a.fe b.fe && a.src == b.src && a.freq == b.freq && same_by pol_text a.pol b.pol
    && option_eq (same_by roll_off_text) a.ro b.ro && same_by system_text a.msys b.msys
    && option_eq (same_by modulation_text) a.mtype b.mtype && option_eq (same_by pilots_text_of) a.plts b.plts
    && a.sr == b.sr && option_eq (same_by fec_text) a.fec b.fec
