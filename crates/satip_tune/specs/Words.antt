-- The words of a query: the text of each key and of each value.
use Rattle.std.specs.Prelude.{ℕ, Bool, true, false, List, [], ◌∷◌, Option, find, codes}
use Rattle.std.specs.Str.{bytes_eq}
use Rattle.satip_tune.specs.declared.signal.Pol.{Pol}
use Rattle.satip_tune.specs.declared.signal.Pol.TheVariants.{H, V, L, R}
use Rattle.satip_tune.specs.declared.signal.System.{System}
use Rattle.satip_tune.specs.declared.signal.System.TheVariants.{Dvbs, Dvbs2}
use Rattle.satip_tune.specs.declared.signal.Modulation.{Modulation}
use Rattle.satip_tune.specs.declared.signal.Modulation.TheVariants.{Qpsk, Psk8}
use Rattle.satip_tune.specs.declared.signal.RollOff.{RollOff}
use Rattle.satip_tune.specs.declared.signal.RollOff.TheVariants.{R35, R25, R20}
use Rattle.satip_tune.specs.declared.signal.Fec.{Fec}
use Rattle.satip_tune.specs.declared.signal.Fec.TheVariants.{F12, F23, F34, F56, F78, F89, F35, F45, F910}
use Rattle.satip_tune.specs.declared.keys.Key.{Key}
use Rattle.satip_tune.specs.declared.keys.Key.TheVariants.{Fe, Src, Freq, Pol as PolKey, Ro, Msys, Mtype, Plts, Sr, Fec as FecKey, Pids, Addpids, Delpids}

-- the word of a polarisation
unfoldable pub pol_text : Pol → List ℕ
pol_text H = codes "h"
pol_text V = codes "v"
pol_text L = codes "l"
pol_text R = codes "r"

-- every polarisation
abbrev pub all_pols : List Pol
all_pols = H ∷ V ∷ L ∷ R ∷ []

-- the polarisation of a word
unfoldable pub pol_named : List ℕ → Option Pol
pol_named text = find (λ value. bytes_eq (pol_text value) text) all_pols

-- the word of a delivery system
unfoldable pub system_text : System → List ℕ
system_text Dvbs = codes "dvbs"
system_text Dvbs2 = codes "dvbs2"

-- every delivery system
abbrev pub all_systems : List System
all_systems = Dvbs ∷ Dvbs2 ∷ []

-- the delivery system of a word
unfoldable pub system_named : List ℕ → Option System
system_named text = find (λ value. bytes_eq (system_text value) text) all_systems

-- the word of a modulation
unfoldable pub modulation_text : Modulation → List ℕ
modulation_text Qpsk = codes "qpsk"
modulation_text Psk8 = codes "8psk"

-- every modulation
abbrev pub all_modulations : List Modulation
all_modulations = Qpsk ∷ Psk8 ∷ []

-- the modulation of a word
unfoldable pub modulation_named : List ℕ → Option Modulation
modulation_named text = find (λ value. bytes_eq (modulation_text value) text) all_modulations

-- the word of a roll-off
unfoldable pub roll_off_text : RollOff → List ℕ
roll_off_text R35 = codes "0.35"
roll_off_text R25 = codes "0.25"
roll_off_text R20 = codes "0.20"

-- every roll-off
abbrev pub all_roll_offs : List RollOff
all_roll_offs = R35 ∷ R25 ∷ R20 ∷ []

-- the roll-off of a word
unfoldable pub roll_off_named : List ℕ → Option RollOff
roll_off_named text = find (λ value. bytes_eq (roll_off_text value) text) all_roll_offs

-- the word of a code rate
unfoldable pub fec_text : Fec → List ℕ
fec_text F12 = codes "12"
fec_text F23 = codes "23"
fec_text F34 = codes "34"
fec_text F56 = codes "56"
fec_text F78 = codes "78"
fec_text F89 = codes "89"
fec_text F35 = codes "35"
fec_text F45 = codes "45"
fec_text F910 = codes "910"

-- every code rate
abbrev pub all_fecs : List Fec
all_fecs = F12 ∷ F23 ∷ F34 ∷ F56 ∷ F78 ∷ F89 ∷ F35 ∷ F45 ∷ F910 ∷ []

-- the code rate of a word
unfoldable pub fec_named : List ℕ → Option Fec
fec_named text = find (λ value. bytes_eq (fec_text value) text) all_fecs

-- the word of a key
unfoldable pub key_text : Key → List ℕ
key_text Fe = codes "fe"
key_text Src = codes "src"
key_text Freq = codes "freq"
key_text PolKey = codes "pol"
key_text Ro = codes "ro"
key_text Msys = codes "msys"
key_text Mtype = codes "mtype"
key_text Plts = codes "plts"
key_text Sr = codes "sr"
key_text FecKey = codes "fec"
key_text Pids = codes "pids"
key_text Addpids = codes "addpids"
key_text Delpids = codes "delpids"

-- every key
abbrev pub all_keys : List Key
all_keys = Fe ∷ Src ∷ Freq ∷ PolKey ∷ Ro ∷ Msys ∷ Mtype ∷ Plts ∷ Sr ∷ FecKey ∷ Pids ∷ Addpids ∷ Delpids ∷ []

-- the key of a word
unfoldable pub key_named : List ℕ → Option Key
key_named text = find (λ value. bytes_eq (key_text value) text) all_keys

-- the word for pilot tones on or off
unfoldable pub pilots_text_of : Bool → List ℕ
pilots_text_of true = codes "on"
pilots_text_of false = codes "off"

-- whether pilot tones are on, by a word
unfoldable pub pilots_named_of : List ℕ → Option Bool
pilots_named_of text = find (λ on. bytes_eq (pilots_text_of on) text) (true ∷ false ∷ [])
