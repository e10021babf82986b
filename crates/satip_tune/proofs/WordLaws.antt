-- What prints a word is what reads it.
use Rattle.std.proofs.Common.{◌≡◌, Bool, true, false, Some, refl}
use Rattle.satip_tune.specs.declared.signal.Pol.{Pol}
use Rattle.satip_tune.specs.declared.signal.Pol.TheVariants.{H, V, L, R}
use Rattle.satip_tune.specs.declared.signal.System.{System}
use Rattle.satip_tune.specs.declared.signal.System.TheVariants.{Dvbs, Dvbs2}
use Rattle.satip_tune.specs.declared.signal.Modulation.{Modulation}
use Rattle.satip_tune.specs.declared.signal.Modulation.TheVariants.{Qpsk, Psk8}
use Rattle.satip_tune.specs.declared.signal.RollOff.{RollOff}
use Rattle.satip_tune.specs.declared.signal.RollOff.TheVariants.{R35, R25, R20}
use Rattle.satip_tune.specs.declared.signal.Fec.{Fec}
use Rattle.satip_tune.specs.declared.signal.Fec.TheVariants.{F12, F23, F34, F56, F78, F89, F35, F45, F910}
use Rattle.satip_tune.specs.declared.keys.Key.{Key}
use Rattle.satip_tune.specs.declared.keys.Key.TheVariants.{Fe, Src, Freq, Pol as PolKey, Ro, Msys, Mtype, Plts, Sr, Fec as FecKey, Pids, Addpids, Delpids}
use Rattle.satip_tune.specs.Words.{pol_text, pol_named, system_text, system_named, modulation_text, modulation_named, roll_off_text, roll_off_named, fec_text, fec_named, key_text, key_named, pilots_text_of, pilots_named_of}

-- the text of a polarisation is read as it
pub pol_printed : (value : Pol) → pol_named (pol_text value) ≡ Some value
unfolding pol_named pol_text
pol_printed H = refl
pol_printed V = refl
pol_printed L = refl
pol_printed R = refl

-- the text of a delivery system is read as it
pub system_printed : (value : System) → system_named (system_text value) ≡ Some value
unfolding system_named system_text
system_printed Dvbs = refl
system_printed Dvbs2 = refl

-- the text of a modulation is read as it
pub modulation_printed : (value : Modulation) → modulation_named (modulation_text value) ≡ Some value
unfolding modulation_named modulation_text
modulation_printed Qpsk = refl
modulation_printed Psk8 = refl

-- the text of a roll-off is read as it
pub roll_off_printed : (value : RollOff) → roll_off_named (roll_off_text value) ≡ Some value
unfolding roll_off_named roll_off_text
roll_off_printed R35 = refl
roll_off_printed R25 = refl
roll_off_printed R20 = refl

-- the text of a code rate is read as it
pub fec_printed : (value : Fec) → fec_named (fec_text value) ≡ Some value
unfolding fec_named fec_text
fec_printed F12 = refl
fec_printed F23 = refl
fec_printed F34 = refl
fec_printed F56 = refl
fec_printed F78 = refl
fec_printed F89 = refl
fec_printed F35 = refl
fec_printed F45 = refl
fec_printed F910 = refl

-- the text of a key is read as it
pub key_printed : (value : Key) → key_named (key_text value) ≡ Some value
unfolding key_named key_text
key_printed Fe = refl
key_printed Src = refl
key_printed Freq = refl
key_printed PolKey = refl
key_printed Ro = refl
key_printed Msys = refl
key_printed Mtype = refl
key_printed Plts = refl
key_printed Sr = refl
key_printed FecKey = refl
key_printed Pids = refl
key_printed Addpids = refl
key_printed Delpids = refl

-- the text of the pilot tones is read as them
pub pilots_printed : (on : Bool) → pilots_named_of (pilots_text_of on) ≡ Some on
unfolding pilots_named_of pilots_text_of
pilots_printed true = refl
pilots_printed false = refl
