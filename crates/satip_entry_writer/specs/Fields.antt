-- The bytes of the small parts of a record: numbers, options and values with a few fields. A number has the width of its type, high byte first; a variant is
-- its place from 0 in one byte, and then its fields.
use Rattle.std.specs.Prelude.{ℕ, Bool, true, false, List, [], ◌∷◌, ◌++◌, length, flat_map, Option, Some, None}
use Rattle.std.specs.Int.{to_be_bytes, w16, w32, w64}
use Rattle.satip_base.specs.declared.identity.SessionId.{SessionId}
use Rattle.satip_base.specs.declared.identity.Draw.{Draw}
use Rattle.satip_base.specs.declared.network.Address.{Address}
use Rattle.satip_base.specs.declared.network.Ports.{Ports}
use Rattle.satip_tune.specs.declared.signal.Pol.{Pol}
use Rattle.satip_tune.specs.declared.signal.Pol.TheVariants.{H, V, L, R}
use Rattle.satip_tune.specs.declared.signal.RollOff.{RollOff}
use Rattle.satip_tune.specs.declared.signal.RollOff.TheVariants.{R35, R25, R20}
use Rattle.satip_tune.specs.declared.signal.System.{System}
use Rattle.satip_tune.specs.declared.signal.System.TheVariants.{Dvbs, Dvbs2}
use Rattle.satip_tune.specs.declared.signal.Modulation.{Modulation}
use Rattle.satip_tune.specs.declared.signal.Modulation.TheVariants.{Qpsk, Psk8}
use Rattle.satip_tune.specs.declared.signal.Fec.{Fec}
use Rattle.satip_tune.specs.declared.signal.Fec.TheVariants.{F12, F23, F34, F56, F78, F89, F35, F45, F910}
use Rattle.satip_tune.specs.declared.keys.Key.{Key}
use Rattle.satip_tune.specs.declared.keys.Key.TheVariants.{Fe, Src, Freq, Pol as PolKey, Ro, Msys, Mtype, Plts, Sr, Fec as FecKey, Pids, Addpids, Delpids}

unfoldable pub u8_text : ℕ → List ℕ
u8_text n = n ∷ []

unfoldable pub u16_text : ℕ → List ℕ
u16_text n = to_be_bytes w16 n

unfoldable pub u32_text : ℕ → List ℕ
u32_text n = to_be_bytes w32 n

unfoldable pub u64_text : ℕ → List ℕ
u64_text n = to_be_bytes w64 n

abbrev pub bool_text : Bool → List ℕ
bool_text false = u8_text 0
bool_text true = u8_text 1

-- 0 for None, and 1 before a value
abbrev pub option_text : {T : Type 0} → (T → List ℕ) → Option T → List ℕ
option_text text None = u8_text 0
option_text text (Some x) = u8_text 1 ++ text x

-- the count of values, and each of them
abbrev pub list_text : {T : Type 0} → (T → List ℕ) → List T → List ℕ
list_text text xs = u16_text (length xs) ++ flat_map text xs

abbrev pub pid_list_text : List ℕ → List ℕ
pid_list_text pids = list_text u16_text pids

abbrev pub id_text : SessionId → List ℕ
id_text id = u32_text id.count ++ u32_text id.word

abbrev pub draw_text : Draw → List ℕ
draw_text draw = u32_text draw.word ++ (u32_text draw.ssrc ++ u16_text draw.first)

abbrev pub ports_text : Ports → List ℕ
ports_text ports = u16_text ports.rtp ++ u16_text ports.rtcp

abbrev pub address_text : Address → List ℕ
address_text to = u32_text to.ip ++ u16_text to.port

abbrev pub pol_text : Pol → List ℕ
pol_text H = u8_text 0
pol_text V = u8_text 1
pol_text L = u8_text 2
pol_text R = u8_text 3

abbrev pub roll_off_text : RollOff → List ℕ
roll_off_text R35 = u8_text 0
roll_off_text R25 = u8_text 1
roll_off_text R20 = u8_text 2

abbrev pub system_text : System → List ℕ
system_text Dvbs = u8_text 0
system_text Dvbs2 = u8_text 1

abbrev pub modulation_text : Modulation → List ℕ
modulation_text Qpsk = u8_text 0
modulation_text Psk8 = u8_text 1

abbrev pub fec_text : Fec → List ℕ
fec_text F12 = u8_text 0
fec_text F23 = u8_text 1
fec_text F34 = u8_text 2
fec_text F56 = u8_text 3
fec_text F78 = u8_text 4
fec_text F89 = u8_text 5
fec_text F35 = u8_text 6
fec_text F45 = u8_text 7
fec_text F910 = u8_text 8

abbrev pub key_text : Key → List ℕ
key_text Fe = u8_text 0
key_text Src = u8_text 1
key_text Freq = u8_text 2
key_text PolKey = u8_text 3
key_text Ro = u8_text 4
key_text Msys = u8_text 5
key_text Mtype = u8_text 6
key_text Plts = u8_text 7
key_text Sr = u8_text 8
key_text FecKey = u8_text 9
key_text Pids = u8_text 10
key_text Addpids = u8_text 11
key_text Delpids = u8_text 12
