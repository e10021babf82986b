-- Reading the parts of a record from the front of some bytes: the value and the bytes after it, or None if they begin with none.
use Rattle.std.specs.Prelude.{◌≡◌, ℕ, ◌+◌, ◌*◌, ◌==◌, Bool, true, false, if◌then◌else◌, List, [], ◌∷◌, ◌++◌, Option, Some, None}
use Rattle.satip_base.specs.declared.identity.SessionId.{SessionId}
use Rattle.satip_base.specs.declared.identity.Draw.{Draw}
use Rattle.satip_base.specs.declared.network.Ports.{Ports}
use Rattle.satip_tune.specs.declared.signal.Pol.{Pol}
use Rattle.satip_tune.specs.declared.signal.Pol.TheVariants.{H, V, L, R}
use Rattle.satip_tune.specs.declared.signal.RollOff.{RollOff}
use Rattle.satip_tune.specs.declared.signal.RollOff.TheVariants.{R35, R25, R20}
use Rattle.satip_tune.specs.declared.signal.System.{System}
use Rattle.satip_tune.specs.declared.signal.System.TheVariants.{Dvbs, Dvbs2}
use Rattle.satip_tune.specs.declared.signal.Modulation.{Modulation}
use Rattle.satip_tune.specs.declared.signal.Modulation.TheVariants.{Qpsk, Psk8}
use Rattle.satip_tune.specs.declared.signal.Fec.{Fec}
use Rattle.satip_tune.specs.declared.signal.Fec.TheVariants.{F12, F23, F34, F56, F78, F89, F35, F45, F910}
use Rattle.satip_tune.specs.declared.tunings.Change.{Change}

-- a value that was read, and the bytes after it
abbrev pub behind : {T : Type 0} → Option T → List ℕ → Option (T × List ℕ)
behind None rest = None
behind (Some x) rest = Some (x, rest)

-- the value that was written, if one was read
abbrev pub kept_if : {T : Type 0} → Bool → T → Option T
kept_if false x = None
kept_if true x = Some x

-- the next value is read after another
abbrev pub then_read : {T U : Type 0} → Option (T × List ℕ) → (T → List ℕ → Option (U × List ℕ)) → Option (U × List ℕ)
then_read None next = None
then_read (Some (x, rest)) next = next x rest

-- each value that Is holds of is read again from its text, whatever follows it
abbrev pub ReadsAgain : {T : Type 0} → (T → Type 0) → (T → List ℕ) → (List ℕ → Option (T × List ℕ)) → Type 0
ReadsAgain {T = T} Is text read = (x : T) (rest : List ℕ) → Is x → read (text x ++ rest) ≡ Some (x, rest)

-- no text of a value that Is holds of is a prefix of another's
abbrev pub NoneBegins : {T : Type 0} → (T → Type 0) → (T → List ℕ) → Type 0
NoneBegins {T = T} Is text = (x y : T) (p q : List ℕ) → Is x → Is y → text x ++ p ≡ text y ++ q → (x ≡ y) × (p ≡ q)

unfoldable pub u8_read : List ℕ → Option (ℕ × List ℕ)
u8_read [] = None
u8_read (byte ∷ rest) = Some (byte, rest)

unfoldable pub u16_read : List ℕ → Option (ℕ × List ℕ)
u16_read bytes = then_read (u8_read bytes) (λ high rest. then_read (u8_read rest) (λ low more. Some (high * 256 + low, more)))

unfoldable pub u32_read : List ℕ → Option (ℕ × List ℕ)
u32_read bytes = then_read (u16_read bytes) (λ high rest. then_read (u16_read rest) (λ low more. Some (high * 65536 + low, more)))

unfoldable pub u64_read : List ℕ → Option (ℕ × List ℕ)
u64_read bytes = then_read (u32_read bytes) (λ high rest. then_read (u32_read rest) (λ low more. Some (high * 4294967296 + low, more)))

abbrev pub bool_of : ℕ → Option Bool
bool_of place = if place == 0 then Some false else if place == 1 then Some true else None

unfoldable pub bool_read : List ℕ → Option (Bool × List ℕ)
bool_read bytes = then_read (u8_read bytes) (λ place rest. behind (bool_of place) rest)

abbrev pub option_behind : {T : Type 0} → (List ℕ → Option (T × List ℕ)) → Bool → List ℕ → Option (Option T × List ℕ)
option_behind read false rest = Some (None, rest)
option_behind read true rest = then_read (read rest) (λ x more. Some (Some x, more))

unfoldable pub read_option : {T : Type 0} → (List ℕ → Option (T × List ℕ)) → List ℕ → Option (Option T × List ℕ)
read_option read bytes = then_read (bool_read bytes) (option_behind read)

abbrev pub pol_of : ℕ → Option Pol
pol_of place = if place == 0 then Some H else if place == 1 then Some V else if place == 2 then Some L else if place == 3 then Some R else None

unfoldable pub pol_read : List ℕ → Option (Pol × List ℕ)
pol_read bytes = then_read (u8_read bytes) (λ place rest. behind (pol_of place) rest)

abbrev pub roll_off_of : ℕ → Option RollOff
roll_off_of place = if place == 0 then Some R35 else if place == 1 then Some R25 else if place == 2 then Some R20 else None

unfoldable pub roll_off_read : List ℕ → Option (RollOff × List ℕ)
roll_off_read bytes = then_read (u8_read bytes) (λ place rest. behind (roll_off_of place) rest)

abbrev pub system_of : ℕ → Option System
system_of place = if place == 0 then Some Dvbs else if place == 1 then Some Dvbs2 else None

unfoldable pub system_read : List ℕ → Option (System × List ℕ)
system_read bytes = then_read (u8_read bytes) (λ place rest. behind (system_of place) rest)

abbrev pub modulation_of : ℕ → Option Modulation
modulation_of place = if place == 0 then Some Qpsk else if place == 1 then Some Psk8 else None

unfoldable pub modulation_read : List ℕ → Option (Modulation × List ℕ)
modulation_read bytes = then_read (u8_read bytes) (λ place rest. behind (modulation_of place) rest)

abbrev pub fec_of : ℕ → Option Fec
fec_of place = if place == 0 then Some F12 else if place == 1 then Some F23 else if place == 2 then Some F34 else if place == 3 then Some F56 else if place == 4 then Some F78 else if place == 5 then Some F89 else if place == 6 then Some F35 else if place == 7 then Some F45 else if place == 8 then Some F910 else None

unfoldable pub fec_read : List ℕ → Option (Fec × List ℕ)
fec_read bytes = then_read (u8_read bytes) (λ place rest. behind (fec_of place) rest)

unfoldable pub id_read : List ℕ → Option (SessionId × List ℕ)
id_read bytes =
    then_read (u32_read bytes) (λ count after_count.
    then_read (u32_read after_count) (λ word more. Some (record { count = count; word = word }, more)))

unfoldable pub draw_read : List ℕ → Option (Draw × List ℕ)
draw_read bytes =
    then_read (u32_read bytes) (λ word after_word.
    then_read (u32_read after_word) (λ ssrc after_ssrc.
    then_read (u16_read after_ssrc) (λ first more. Some (record { word = word; ssrc = ssrc; first = first }, more))))

unfoldable pub ports_read : List ℕ → Option (Ports × List ℕ)
ports_read bytes =
    then_read (u16_read bytes) (λ rtp after_rtp.
    then_read (u16_read after_rtp) (λ rtcp more. Some (record { rtp = rtp; rtcp = rtcp }, more)))

unfoldable pub change_read : List ℕ → Option (Change × List ℕ)
change_read bytes =
    then_read (read_option u16_read bytes) (λ fe after_fe.
    then_read (read_option u8_read after_fe) (λ src after_src.
    then_read (read_option u32_read after_src) (λ freq after_freq.
    then_read (read_option pol_read after_freq) (λ pol after_pol.
    then_read (read_option roll_off_read after_pol) (λ ro after_ro.
    then_read (read_option system_read after_ro) (λ msys after_msys.
    then_read (read_option modulation_read after_msys) (λ mtype after_mtype.
    then_read (read_option bool_read after_mtype) (λ plts after_plts.
    then_read (read_option u32_read after_plts) (λ sr after_sr.
    then_read (read_option fec_read after_sr) (λ fec more. Some (record { fe = fe; src = src; freq = freq; pol = pol; ro = ro; msys = msys; mtype = mtype; plts = plts; sr = sr; fec = fec }, more)))))))))))
