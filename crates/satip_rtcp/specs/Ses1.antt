-- The SES1 text: the tuning of a stream, and the PIDs that it selects.
use Rattle.std.specs.Prelude.{ℕ, Bool, true, false, List, [], ◌++◌, decimal, codes, Option, Some, None}
use Rattle.satip_pids.specs.Texts.{pids_text}
use Rattle.satip_tune.specs.Words.{pol_text, system_text, modulation_text, pilots_text_of, roll_off_text, fec_text}
use Rattle.satip_tune.specs.Frequency.{frequency_text}
use Rattle.satip_tune.specs.declared.tunings.Tuning.{Tuning}
use Rattle.satip_rtcp.specs.declared.views.StreamView.{StreamView}

-- the text of a value, empty if it isn't given
abbrev pub optional_text : {A : Type 0} → (A → List ℕ) → Option A → List ℕ
optional_text text None = []
optional_text text (Some value) = text value

-- a field after another
abbrev pub field : List ℕ → List ℕ
field text = codes "," ++ text

-- signal level, lock and signal quality
unfoldable pub lock_text : Bool → List ℕ
lock_text true = codes "240,1,15"
lock_text false = codes "0,0,0"

-- the twelve fields of a tuned front end; level, lock and quality are three of them
unfoldable pub tuner_text : ℕ → Bool → Tuning → List ℕ
tuner_text front locked tuning =
    decimal front ++ field (lock_text locked) ++ field (frequency_text tuning.freq) ++ field (pol_text tuning.pol)
    ++ field (system_text tuning.msys) ++ field (optional_text modulation_text tuning.mtype)
    ++ field (optional_text pilots_text_of tuning.plts) ++ field (optional_text roll_off_text tuning.ro)
    ++ field (decimal tuning.sr) ++ field (optional_text fec_text tuning.fec)

-- the source and the tuner's fields; an untuned stream has source 1, no front end and no signal
unfoldable pub signal_text : ℕ → Bool → Option Tuning → List ℕ
signal_text front locked None = codes "1;tuner=0,0,0,0,,,,,,,,"
signal_text front locked (Some tuning) = decimal tuning.src ++ codes ";tuner=" ++ tuner_text front locked tuning

-- the whole text
unfoldable pub ses1 : StreamView → List ℕ
ses1 view =
    codes "ver=1.0;src=" ++ signal_text view.front view.locked view.tuning ++ codes ";pids=" ++ pids_text view.pids
