-- A printed value is read again as the key's value, and has no `&` in it.
use Rattle.std.proofs.Common.{◌≡◌, ℕ, ◌+◌, ◌/◌, ◌%◌, ◌^◌, ◌<◌, ◌≤◌, Bool, true, false, if◌then◌else◌, List, [], ◌∷◌, decimal, nat_eq, Option, None, Some, Ok, IfSome, All, refl, ap, ◌∙◌, arith}
use Rattle.std.specs.List.{list_any, flat_map}
use Rattle.std.proofs.lemmas.Bool.{le-leb}
use Rattle.std.proofs.lemmas.Bool.Decides.{nat_tests}
use Rattle.std.proofs.lemmas.List.Elements.{All-head, All-tail}
use Rattle.satip_pids.specs.Texts.{next_text}
use Rattle.satip_tune.specs.Frequency.{fraction_text, frequency_text, three_digits, without_end_zeros}
use Rattle.satip_tune.specs.Pieces.{is_byte}
use Rattle.satip_tune.specs.Words.{key_text, pol_text, system_text, modulation_text, roll_off_text, fec_text, pilots_text_of}
use Rattle.satip_tune.specs.declared.keys.Key.{Key}
use Rattle.satip_tune.specs.declared.keys.Key.TheVariants.{Fe, Src, Freq, Pol as PolKey, Ro, Msys, Mtype, Plts, Sr, Fec as FecKey, Pids, Addpids, Delpids}
use Rattle.satip_tune.specs.declared.signal.Fec.{Fec}
use Rattle.satip_tune.specs.declared.signal.Fec.TheVariants.{F12, F23, F34, F56, F78, F89, F35, F45, F910}
use Rattle.satip_tune.specs.declared.signal.Modulation.{Modulation}
use Rattle.satip_tune.specs.declared.signal.Modulation.TheVariants.{Qpsk, Psk8}
use Rattle.satip_tune.specs.declared.signal.Pol.{Pol}
use Rattle.satip_tune.specs.declared.signal.Pol.TheVariants.{H, V, L, R}
use Rattle.satip_tune.specs.declared.signal.RollOff.{RollOff}
use Rattle.satip_tune.specs.declared.signal.RollOff.TheVariants.{R35, R25, R20}
use Rattle.satip_tune.specs.declared.signal.System.{System}
use Rattle.satip_tune.specs.declared.signal.System.TheVariants.{Dvbs, Dvbs2}
use Rattle.satip_tune.proofs.Printed.{list_all-decimal, number_of-decimal}
use Rattle.satip_query.specs.Printing.{AreListed, IsAllowed, IsWithin, MayBeGiven, field_text, list_text, piece_text, pids_text, value_text}
use Rattle.satip_query.specs.Values.{number_in, within}
use Rattle.satip_query.specs.declared.queries.PidsGiven.{PidsGiven}
use Rattle.satip_query.specs.declared.queries.PidsGiven.TheVariants.{Absent, All as Every, Empty, List as Listed}
use Rattle.satip_query.specs.declared.queries.Query.{Query}
use Rattle.satip_query.proofs.Clean.{no-append, no-ampersand, no-cons, no-take}
use Rattle.satip_query.proofs.ListPrinted.{list_text-cons}

-- a printed number is read again
pub number_printed : (low high n : ℕ) → IsWithin low high n → high < 2 ^ 64 → number_in low high (decimal n) ≡ Ok n
number_printed low high n inside fits =
    let below : n < 2 ^ 64 = omega (arith, inside.at_most, fits) in
    ap (within low high) (number_of-decimal 18446744073709551615 n below (omega arith))
    ∙ rw (le-leb low n inside.at_least, le-leb n high inside.at_most) refl

no-number : (n : ℕ) → n < 2 ^ 64 → list_any (is_byte 38) (decimal n) ≡ false
no-number n below = no-ampersand (decimal n) (list_all-decimal n below)

glyph-clean : (d : ℕ) → is_byte 38 (48 + d) ≡ false
glyph-clean d = grind (arith, nat_tests)

three-clean : (k : ℕ) → list_any (is_byte 38) (three_digits k) ≡ false
three-clean k =
    no-cons (is_byte 38) (48 + k / 100) ((48 + k / 10 % 10) ∷ (48 + k % 10) ∷ []) (glyph-clean (k / 100))
    (no-cons (is_byte 38) (48 + k / 10 % 10) ((48 + k % 10) ∷ []) (glyph-clean (k / 10 % 10))
    (no-cons (is_byte 38) (48 + k % 10) [] (glyph-clean (k % 10)) refl))

no-fraction : (k : ℕ) → list_any (is_byte 38) (fraction_text k) ≡ false
no-fraction k =
    elim (nat_eq k 0) as (λ b. list_any (is_byte 38) (if b then [] else 46 ∷ without_end_zeros (three_digits k)) ≡ false) [
      | true ↦ refl
      | false ↦ no-take (is_byte 38) _ (three_digits k) (three-clean k)
    ]

no-frequency : (khz : ℕ) → khz ≤ 99999999 → list_any (is_byte 38) (frequency_text khz) ≡ false
unfolding frequency_text
no-frequency khz high =
    no-append (is_byte 38) (decimal (khz / 1000)) (fraction_text (khz % 1000)) (no-number (khz / 1000) (omega arith)) (no-fraction (khz % 1000))

no-next : (pids : List ℕ) → All (λ pid. pid < 8192) pids → list_any (is_byte 38) (flat_map next_text pids) ≡ false
no-next [] below = refl
no-next (pid ∷ pids) below =
    let here : pid < 8192 = All-head (λ pid. pid < 8192) pid pids below in
    no-append (is_byte 38) (next_text pid) (flat_map next_text pids) (no-number pid (omega arith))
    (no-next pids (All-tail (λ pid. pid < 8192) pid pids below))

no-list : (pids : List ℕ) → AreListed pids → list_any (is_byte 38) (list_text pids) ≡ false
no-list [] listed = absurd (omega (arith, listed.some))
no-list (pid ∷ pids) listed =
    let here : pid < 8192 = All-head (λ pid. pid < 8192) pid pids listed.limits.below in
    ap (list_any (is_byte 38)) (list_text-cons pid pids)
    ∙ no-append (is_byte 38) (decimal pid) (flat_map next_text pids) (no-number pid (omega arith))
    (no-next pids (All-tail (λ pid. pid < 8192) pid pids listed.limits.below))

no-given : (given : PidsGiven) → MayBeGiven given → list_any (is_byte 38) (pids_text given) ≡ false
no-given Absent may = refl
no-given Every may = refl
no-given Empty may = refl
no-given (Listed pids) may = no-list pids may

no-field : {A : Type 0} (text : A → List ℕ) (P : A → Type 0) (o : Option A) → IfSome o P
    → ((value : A) → P value → list_any (is_byte 38) (text value) ≡ false) → list_any (is_byte 38) (field_text text o) ≡ false
no-field text P None allowed each = refl
no-field text P (Some value) allowed each = each value allowed

no-word-field : {A : Type 0} (text : A → List ℕ) (o : Option A)
    → ((value : A) → list_any (is_byte 38) (text value) ≡ false) → list_any (is_byte 38) (field_text text o) ≡ false
no-word-field text None each = refl
no-word-field text (Some value) each = each value

no-pol : (value : Pol) → list_any (is_byte 38) (pol_text value) ≡ false
unfolding pol_text
no-pol H = refl
no-pol V = refl
no-pol L = refl
no-pol R = refl

no-roll_off : (value : RollOff) → list_any (is_byte 38) (roll_off_text value) ≡ false
unfolding roll_off_text
no-roll_off R35 = refl
no-roll_off R25 = refl
no-roll_off R20 = refl

no-system : (value : System) → list_any (is_byte 38) (system_text value) ≡ false
unfolding system_text
no-system Dvbs = refl
no-system Dvbs2 = refl

no-modulation : (value : Modulation) → list_any (is_byte 38) (modulation_text value) ≡ false
unfolding modulation_text
no-modulation Qpsk = refl
no-modulation Psk8 = refl

no-pilots : (value : Bool) → list_any (is_byte 38) (pilots_text_of value) ≡ false
unfolding pilots_text_of
no-pilots true = refl
no-pilots false = refl

no-fec : (value : Fec) → list_any (is_byte 38) (fec_text value) ≡ false
unfolding fec_text
no-fec F12 = refl
no-fec F23 = refl
no-fec F34 = refl
no-fec F56 = refl
no-fec F78 = refl
no-fec F89 = refl
no-fec F35 = refl
no-fec F45 = refl
no-fec F910 = refl

no-within : (high n : ℕ) (low : ℕ) → high < 2 ^ 64 → IsWithin low high n → list_any (is_byte 38) (decimal n) ≡ false
no-within high n low fits inside = no-number n (omega (arith, inside.at_most, fits))

-- no value has a `&`
no-value : (q : Query) (key : Key) → IsAllowed q → list_any (is_byte 38) (value_text q key) ≡ false
no-value q Fe ok = no-field decimal (IsWithin 1 65535) q.change.fe ok.fe (λ n inside. no-within 65535 n 1 (omega arith) inside)
no-value q Src ok = no-field decimal (IsWithin 1 255) q.change.src ok.src (λ n inside. no-within 255 n 1 (omega arith) inside)
no-value q Freq ok = no-field frequency_text (IsWithin 1000 99999999) q.change.freq ok.freq (λ n inside. no-frequency n inside.at_most)
no-value q PolKey ok = no-word-field pol_text q.change.pol no-pol
no-value q Ro ok = no-word-field roll_off_text q.change.ro no-roll_off
no-value q Msys ok = no-word-field system_text q.change.msys no-system
no-value q Mtype ok = no-word-field modulation_text q.change.mtype no-modulation
no-value q Plts ok = no-word-field pilots_text_of q.change.plts no-pilots
no-value q Sr ok = no-field decimal (IsWithin 1 99999) q.change.sr ok.sr (λ n inside. no-within 99999 n 1 (omega arith) inside)
no-value q FecKey ok = no-word-field fec_text q.change.fec no-fec
no-value q Pids ok = no-given q.pids ok.pids
no-value q Addpids ok = no-field list_text AreListed q.addpids ok.addpids no-list
no-value q Delpids ok = no-field list_text AreListed q.delpids ok.delpids no-list

-- a key has neither `&` nor `=`
pub record IsCleanKey (key : Key) : Type 0 where
  pub ampersand : list_any (is_byte 38) (key_text key) ≡ false
  pub equals : list_any (is_byte 61) (key_text key) ≡ false

pub clean_key : (key : Key) → IsCleanKey key
unfolding key_text
clean_key Fe = record { ampersand = refl; equals = refl }
clean_key Src = record { ampersand = refl; equals = refl }
clean_key Freq = record { ampersand = refl; equals = refl }
clean_key PolKey = record { ampersand = refl; equals = refl }
clean_key Ro = record { ampersand = refl; equals = refl }
clean_key Msys = record { ampersand = refl; equals = refl }
clean_key Mtype = record { ampersand = refl; equals = refl }
clean_key Plts = record { ampersand = refl; equals = refl }
clean_key Sr = record { ampersand = refl; equals = refl }
clean_key FecKey = record { ampersand = refl; equals = refl }
clean_key Pids = record { ampersand = refl; equals = refl }
clean_key Addpids = record { ampersand = refl; equals = refl }
clean_key Delpids = record { ampersand = refl; equals = refl }

-- no piece has a `&`
pub no-piece : (q : Query) (key : Key) → IsAllowed q → list_any (is_byte 38) (piece_text q key) ≡ false
no-piece q key ok =
    no-append (is_byte 38) (key_text key) (61 ∷ value_text q key) (clean_key key).ampersand (no-value q key ok)
