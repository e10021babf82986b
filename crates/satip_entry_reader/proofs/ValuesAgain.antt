-- What is written is read again.
use Rattle.std.proofs.Common.{◌≡◌, ℕ, ◌^◌, ◌<◌, true, false, List, [], ◌++◌, append_assoc, Option, Some, None, arith, refl, sym, ◌∙◌, ap}
use Rattle.std.specs.Prelude.{IfSome}
use Rattle.satip_tune.specs.declared.signal.Pol.{Pol}
use Rattle.satip_tune.specs.declared.signal.Pol.TheVariants.{H, V, L, R}
use Rattle.satip_tune.specs.declared.signal.RollOff.{RollOff}
use Rattle.satip_tune.specs.declared.signal.RollOff.TheVariants.{R35, R25, R20}
use Rattle.satip_tune.specs.declared.signal.System.{System}
use Rattle.satip_tune.specs.declared.signal.System.TheVariants.{Dvbs, Dvbs2}
use Rattle.satip_tune.specs.declared.signal.Modulation.{Modulation}
use Rattle.satip_tune.specs.declared.signal.Modulation.TheVariants.{Qpsk, Psk8}
use Rattle.satip_tune.specs.declared.signal.Fec.{Fec}
use Rattle.satip_tune.specs.declared.signal.Fec.TheVariants.{F12, F23, F34, F56, F78, F89, F35, F45, F910}
use Rattle.satip_plain.specs.Values.{IsId, IsDraw, ArePorts, IsChange}
use Rattle.satip_entry_writer.specs.Fields.{u8_text, u16_text, u32_text, u64_text, bool_text, option_text, id_text, draw_text, ports_text, pol_text, roll_off_text, system_text, modulation_text, fec_text}
use Rattle.satip_entry_writer.specs.Requests.{change_text}
use Rattle.satip_entry_reader.specs.Reading.{ReadsAgain, u8_read, u16_read, u32_read, u64_read, bool_read, read_option, id_read, draw_read, ports_read, pol_read, roll_off_read, system_read, modulation_read, fec_read, change_read, NoneBegins}

pub u8_again : ReadsAgain (λ n. n < 2 ^ 8) u8_text u8_read
unfolding u8_read u8_text
u8_again n rest h = refl

pub u16_again : ReadsAgain (λ n. n < 2 ^ 16) u16_text u16_read
unfolding u16_read u8_read u16_text
u16_again n rest h = ap (λ (m : ℕ). Some (m, rest)) (omega (arith, h))

pub u32_again : ReadsAgain (λ n. n < 2 ^ 32) u32_text u32_read
unfolding u32_read u16_read u8_read u32_text
u32_again n rest h = ap (λ (m : ℕ). Some (m, rest)) (omega (arith, h))

pub u64_again : ReadsAgain (λ n. n < 2 ^ 64) u64_text u64_read
unfolding u64_read u32_read u16_read u8_read u64_text
u64_again n rest h = ap (λ (m : ℕ). Some (m, rest)) (omega (arith, h))

pub bool_again : ReadsAgain (λ b. Unit {0}) bool_text bool_read
unfolding bool_read u8_read u8_text
bool_again true rest h = refl
bool_again false rest h = refl

pub option_again : {T : Type 0} (Is : T → Type 0) (text : T → List ℕ) (read : List ℕ → Option (T × List ℕ)) → ReadsAgain Is text read
    → ReadsAgain (λ value. IfSome value Is) (option_text text) (read_option read)
unfolding read_option
option_again Is text read again None rest h = rw (bool_again false rest tt) refl
option_again Is text read again (Some x) rest h =
    rw (append_assoc (u8_text 1) (text x) rest, bool_again true (text x ++ rest) tt, again x rest h) refl

pub pol_again : ReadsAgain (λ (x : Pol). Unit {0}) pol_text pol_read
unfolding pol_read u8_read u8_text
pol_again H rest h = refl
pol_again V rest h = refl
pol_again L rest h = refl
pol_again R rest h = refl

pub roll_off_again : ReadsAgain (λ (x : RollOff). Unit {0}) roll_off_text roll_off_read
unfolding roll_off_read u8_read u8_text
roll_off_again R35 rest h = refl
roll_off_again R25 rest h = refl
roll_off_again R20 rest h = refl

pub system_again : ReadsAgain (λ (x : System). Unit {0}) system_text system_read
unfolding system_read u8_read u8_text
system_again Dvbs rest h = refl
system_again Dvbs2 rest h = refl

pub modulation_again : ReadsAgain (λ (x : Modulation). Unit {0}) modulation_text modulation_read
unfolding modulation_read u8_read u8_text
modulation_again Qpsk rest h = refl
modulation_again Psk8 rest h = refl

pub fec_again : ReadsAgain (λ (x : Fec). Unit {0}) fec_text fec_read
unfolding fec_read u8_read u8_text
fec_again F12 rest h = refl
fec_again F23 rest h = refl
fec_again F34 rest h = refl
fec_again F56 rest h = refl
fec_again F78 rest h = refl
fec_again F89 rest h = refl
fec_again F35 rest h = refl
fec_again F45 rest h = refl
fec_again F910 rest h = refl

pub id_again : ReadsAgain IsId id_text id_read
unfolding id_read
id_again id rest h =
    let t1 : List ℕ = u32_text id.word ++ rest in
    rw (
      append_assoc (u32_text id.count) (u32_text id.word) rest,
      u32_again id.count t1 h.count,
      u32_again id.word rest h.word,
    ) refl

pub draw_again : ReadsAgain IsDraw draw_text draw_read
unfolding draw_read
draw_again draw rest h =
    let t2 : List ℕ = u16_text draw.first ++ rest in
    let t1 : List ℕ = u32_text draw.ssrc ++ t2 in
    let u1 : List ℕ = u32_text draw.ssrc ++ (u16_text draw.first) in
    rw (
      append_assoc (u32_text draw.word) u1 rest,
      append_assoc (u32_text draw.ssrc) (u16_text draw.first) rest,
      u32_again draw.word t1 h.word,
      u32_again draw.ssrc t2 h.ssrc,
      u16_again draw.first rest h.first,
    ) refl

pub ports_again : ReadsAgain ArePorts ports_text ports_read
unfolding ports_read
ports_again ports rest h =
    let t1 : List ℕ = u16_text ports.rtcp ++ rest in
    rw (
      append_assoc (u16_text ports.rtp) (u16_text ports.rtcp) rest,
      u16_again ports.rtp t1 h.rtp,
      u16_again ports.rtcp rest h.rtcp,
    ) refl

-- a value of a type without limits
known : {T : Type 0} (value : Option T) → IfSome value (λ x. Unit {0})
known None = tt
known (Some x) = tt

pub change_again : ReadsAgain IsChange change_text change_read
unfolding change_read change_text
change_again c rest h =
    let t9 : List ℕ = option_text fec_text c.fec ++ rest in
    let t8 : List ℕ = option_text u32_text c.sr ++ t9 in
    let t7 : List ℕ = option_text bool_text c.plts ++ t8 in
    let t6 : List ℕ = option_text modulation_text c.mtype ++ t7 in
    let t5 : List ℕ = option_text system_text c.msys ++ t6 in
    let t4 : List ℕ = option_text roll_off_text c.ro ++ t5 in
    let t3 : List ℕ = option_text pol_text c.pol ++ t4 in
    let t2 : List ℕ = option_text u32_text c.freq ++ t3 in
    let t1 : List ℕ = option_text u8_text c.src ++ t2 in
    let u8 : List ℕ = option_text u32_text c.sr ++ (option_text fec_text c.fec) in
    let u7 : List ℕ = option_text bool_text c.plts ++ u8 in
    let u6 : List ℕ = option_text modulation_text c.mtype ++ u7 in
    let u5 : List ℕ = option_text system_text c.msys ++ u6 in
    let u4 : List ℕ = option_text roll_off_text c.ro ++ u5 in
    let u3 : List ℕ = option_text pol_text c.pol ++ u4 in
    let u2 : List ℕ = option_text u32_text c.freq ++ u3 in
    let u1 : List ℕ = option_text u8_text c.src ++ u2 in
    rw (
      append_assoc (option_text u16_text c.fe) u1 rest,
      append_assoc (option_text u8_text c.src) u2 rest,
      append_assoc (option_text u32_text c.freq) u3 rest,
      append_assoc (option_text pol_text c.pol) u4 rest,
      append_assoc (option_text roll_off_text c.ro) u5 rest,
      append_assoc (option_text system_text c.msys) u6 rest,
      append_assoc (option_text modulation_text c.mtype) u7 rest,
      append_assoc (option_text bool_text c.plts) u8 rest,
      append_assoc (option_text u32_text c.sr) (option_text fec_text c.fec) rest,
      option_again (λ x. x < 2 ^ 16) u16_text u16_read u16_again c.fe t1 h.fe,
      option_again (λ x. x < 2 ^ 8) u8_text u8_read u8_again c.src t2 h.src,
      option_again (λ x. x < 2 ^ 32) u32_text u32_read u32_again c.freq t3 h.freq,
      option_again (λ x. Unit {0}) pol_text pol_read pol_again c.pol t4 (known c.pol),
      option_again (λ x. Unit {0}) roll_off_text roll_off_read roll_off_again c.ro t5 (known c.ro),
      option_again (λ x. Unit {0}) system_text system_read system_again c.msys t6 (known c.msys),
      option_again (λ x. Unit {0}) modulation_text modulation_read modulation_again c.mtype t7 (known c.mtype),
      option_again (λ x. Unit {0}) bool_text bool_read bool_again c.plts t8 (known c.plts),
      option_again (λ x. x < 2 ^ 32) u32_text u32_read u32_again c.sr t9 h.sr,
      option_again (λ x. Unit {0}) fec_text fec_read fec_again c.fec rest (known c.fec),
    ) refl

-- where two texts with something behind them are the same bytes, the values are the same, and so is what stands behind them
pub none_begins : {T : Type 0} (Is : T → Type 0) (text : T → List ℕ) (read : List ℕ → Option (T × List ℕ)) → ReadsAgain Is text read
    → NoneBegins Is text
none_begins {T = T} Is text read again x y p q is_x is_y same =
    let both : ◌≡◌ {A = Option (T × List ℕ)} (Some (x, p)) (Some (y, q)) = sym (again x p is_x) ∙ ap read same ∙ again y q is_y in
    (ap (value x) both, ap rest_of both)
  where
    value : {T : Type 0} → T → Option (T × List ℕ) → T
    value d None = d
    value d (Some (z, r)) = z

    rest_of : {T : Type 0} → Option (T × List ℕ) → List ℕ
    rest_of None = []
    rest_of (Some (z, r)) = r
