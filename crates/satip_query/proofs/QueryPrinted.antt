-- A printed query is read again as it.
use Rattle.std.proofs.Common.{◌≡◌, ℕ, Bool, true, false, cond, List, [], ◌∷◌, map, filter, decimal, codes, Option, None, Some, Ok, IfSome, is_some, refl, ap, ◌∙◌, arith}
use Rattle.std.specs.List.{join_with_byte, slice_split, after_first}
use Rattle.satip_tune.specs.Frequency.{frequency_text}
use Rattle.satip_tune.specs.Pieces.{is_byte}
use Rattle.satip_tune.specs.Words.{all_keys, key_named, key_text, pol_text, system_text, modulation_text, roll_off_text, fec_text, pilots_text_of}
use Rattle.satip_tune.specs.declared.keys.Key.{Key}
use Rattle.satip_tune.specs.declared.keys.Key.TheVariants.{Fe, Src, Freq, Pol as PolKey, Ro, Msys, Mtype, Plts, Sr, Fec as FecKey, Pids, Addpids, Delpids}
use Rattle.satip_tune.specs.declared.signal.Fec.{Fec}
use Rattle.satip_tune.specs.declared.signal.Fec.TheVariants.{F12, F23, F34, F56, F78, F89, F35, F45, F910}
use Rattle.satip_tune.specs.declared.signal.Modulation.{Modulation}
use Rattle.satip_tune.specs.declared.signal.Modulation.TheVariants.{Qpsk, Psk8}
use Rattle.satip_tune.specs.declared.signal.Pol.{Pol}
use Rattle.satip_tune.specs.declared.signal.RollOff.{RollOff}
use Rattle.satip_tune.specs.declared.signal.RollOff.TheVariants.{R35, R25, R20}
use Rattle.satip_tune.specs.declared.signal.System.{System}
use Rattle.satip_tune.proofs.Printed.{frequency_printed}
use Rattle.satip_tune.proofs.WordLaws.{key_printed, pol_printed, system_printed, modulation_printed, roll_off_printed, fec_printed, pilots_printed}
use Rattle.satip_query.specs.Printing.{AreListed, IsAllowed, IsWithin, MayBeGiven, field_text, list_text, piece_text, pids_text, query_text, value_text}
use Rattle.satip_query.specs.Queries.{are_given_by, is_given, new_query}
use Rattle.satip_query.specs.Reading.{and_then, is_left_open, pids_of, query_of, with_key, with_known, with_piece, with_pieces, with_value}
use Rattle.satip_query.specs.declared.queries.PidsGiven.{PidsGiven}
use Rattle.satip_query.specs.declared.queries.PidsGiven.TheVariants.{Absent, All as Every, Empty, List as Listed}
use Rattle.satip_query.specs.declared.queries.Query.{Query}
use Rattle.satip_query.proofs.Clean.{AreClean, after-join, before-join, split-join}
use Rattle.satip_query.proofs.ListPrinted.{pid_list_printed, pids_printed}
use Rattle.satip_query.proofs.ValuePrinted.{clean_key, no-piece, number_printed}

-- the pieces of some keys
abbrev pub pieces : Query → List Key → List (List ℕ)
pieces q keys = map (piece_text q) (filter (is_given q) keys)

-- a known key's value is taken in
known : (q next : Query) (key : Key) (text : List ℕ) → is_left_open key text ≡ false → is_given q key ≡ false
    → with_value q key text ≡ Ok next → with_known q key text ≡ Ok next
known q next key text closed given value = rw (closed, given, value) refl

-- so is its piece
piece : (q from next : Query) (key : Key) → with_known from key (value_text q key) ≡ Ok next → with_piece from (piece_text q key) ≡ Ok next
piece q from next key value =
    ap (λ name. with_key from (key_named name) (after_first (is_byte 61) (piece_text q key)))
    (before-join (is_byte 61) (key_text key) 61 (value_text q key) (clean_key key).equals refl)
    ∙ ap (λ text. with_key from (key_named (key_text key)) text)
    (after-join (is_byte 61) (key_text key) 61 (value_text q key) (clean_key key).equals refl)
    ∙ ap (λ found. with_key from found (value_text q key)) (key_printed key)
    ∙ value

-- a key that is given, and one that isn't
step-given : (q from next : Query) (key : Key) (keys : List Key) → is_given q key ≡ true
    → with_known from key (value_text q key) ≡ Ok next → with_pieces from (pieces q (key ∷ keys)) ≡ with_pieces next (pieces q keys)
step-given q from next key keys given value =
    ap (λ b. with_pieces from (map (piece_text q) (cond b (key ∷ filter (is_given q) keys) (filter (is_given q) keys)))) given
    ∙ ap (λ r. and_then r (λ after. with_pieces after (pieces q keys))) (piece q from next key value)

step-absent : (q from : Query) (key : Key) (keys : List Key) → is_given q key ≡ false
    → with_pieces from (pieces q (key ∷ keys)) ≡ with_pieces from (pieces q keys)
step-absent q from key keys given =
    ap (λ b. with_pieces from (map (piece_text q) (cond b (key ∷ filter (is_given q) keys) (filter (is_given q) keys)))) given

-- a field that is one of two, by what was read before it
step : {A : Type 0} (q : Query) (key : Key) (keys : List Key) (text : A → List ℕ) (P : A → Type 0) (o : Option A)
    (with : Option A → Query) → is_given q key ≡ is_some o → value_text q key ≡ field_text text o → IfSome o P
    → ((value : A) → P value → with_known (with None) key (text value) ≡ Ok (with (Some value)))
    → with_pieces (with None) (pieces q (key ∷ keys)) ≡ with_pieces (with o) (pieces q keys)
step q key keys text P None with given value allowed each = step-absent q (with None) key keys given
step q key keys text P (Some v) with given value allowed each =
    step-given q (with None) (with (Some v)) key keys given (ap (with_known (with None) key) value ∙ each v allowed)

step-word : {A : Type 0} (q : Query) (key : Key) (keys : List Key) (text : A → List ℕ) (o : Option A)
    (with : Option A → Query) → is_given q key ≡ is_some o → value_text q key ≡ field_text text o
    → ((value : A) → with_known (with None) key (text value) ≡ Ok (with (Some value)))
    → with_pieces (with None) (pieces q (key ∷ keys)) ≡ with_pieces (with o) (pieces q keys)
step-word q key keys text None with given value each = step-absent q (with None) key keys given
step-word q key keys text (Some v) with given value each =
    step-given q (with None) (with (Some v)) key keys given (ap (with_known (with None) key) value ∙ each v)

step-pids : (q : Query) (keys : List Key) (given : PidsGiven) (made : PidsGiven → Query) → q.pids ≡ given → MayBeGiven given
    → ((given : PidsGiven) → MayBeGiven given → are_given_by given ≡ true → with_known (made Absent) Pids (pids_text given) ≡ Ok (made given))
    → with_pieces (made Absent) (pieces q (Pids ∷ keys)) ≡ with_pieces (made given) (pieces q keys)
step-pids q keys Absent made at may each = step-absent q (made Absent) Pids keys (ap are_given_by at)
step-pids q keys Every made at may each =
    step-given q (made Absent) (made Every) Pids keys (ap are_given_by at)
    (ap (λ given. with_known (made Absent) Pids (pids_text given)) at ∙ each Every may refl)
step-pids q keys Empty made at may each =
    step-given q (made Absent) (made Empty) Pids keys (ap are_given_by at)
    (ap (λ given. with_known (made Absent) Pids (pids_text given)) at ∙ each Empty may refl)
step-pids q keys (Listed pids) made at may each =
    step-given q (made Absent) (made (Listed pids)) Pids keys (ap are_given_by at)
    (ap (λ given. with_known (made Absent) Pids (pids_text given)) at ∙ each (Listed pids) may refl)

-- the value of `pids` is taken in
closed-pids : (text : List ℕ) → is_left_open Pids text ≡ false
unfolding is_left_open
closed-pids text = refl

pids-known : (from : Query) → from.pids ≡ Absent → (given : PidsGiven) → MayBeGiven given → are_given_by given ≡ true
    → with_known from Pids (pids_text given) ≡ Ok (record from { pids = given })
unfolding pids_of
pids-known from none Absent may some = absurd (cc)
pids-known from none Every may some = known from _ Pids (codes "all") (closed-pids (codes "all")) (ap are_given_by none) refl
pids-known from none Empty may some = known from _ Pids (codes "none") (closed-pids (codes "none")) (ap are_given_by none) refl
pids-known from none (Listed pids) may some =
    known from _ Pids (list_text pids) (closed-pids (list_text pids)) (ap are_given_by none) (rw (pids_printed pids may) refl)

-- no printed word is `auto`
closed-roll_off : (value : RollOff) → is_left_open Ro (roll_off_text value) ≡ false
unfolding is_left_open roll_off_text
closed-roll_off R35 = refl
closed-roll_off R25 = refl
closed-roll_off R20 = refl

closed-modulation : (value : Modulation) → is_left_open Mtype (modulation_text value) ≡ false
unfolding is_left_open modulation_text
closed-modulation Qpsk = refl
closed-modulation Psk8 = refl

closed-pilots : (value : Bool) → is_left_open Plts (pilots_text_of value) ≡ false
unfolding is_left_open pilots_text_of
closed-pilots true = refl
closed-pilots false = refl

closed-fec : (value : Fec) → is_left_open FecKey (fec_text value) ≡ false
unfolding is_left_open fec_text
closed-fec F12 = refl
closed-fec F23 = refl
closed-fec F34 = refl
closed-fec F56 = refl
closed-fec F78 = refl
closed-fec F89 = refl
closed-fec F35 = refl
closed-fec F45 = refl
closed-fec F910 = refl

-- a query by its fields
abbrev by_fields : Option ℕ → Option ℕ → Option ℕ → Option Pol → Option RollOff → Option System → Option Modulation → Option Bool
    → Option ℕ → Option Fec → PidsGiven → Option (List ℕ) → Option (List ℕ) → Query
by_fields fe src freq pol ro msys mtype plts sr fec pids add del = record {
  change = record { fe = fe; src = src; freq = freq; pol = pol; ro = ro; msys = msys; mtype = mtype; plts = plts; sr = sr; fec = fec };
  pids = pids;
  addpids = add;
  delpids = del;
}

abbrev behind_fe : List Key
behind_fe = Src ∷ Freq ∷ PolKey ∷ Ro ∷ Msys ∷ Mtype ∷ Plts ∷ Sr ∷ FecKey ∷ Pids ∷ Addpids ∷ Delpids ∷ []

abbrev behind_src : List Key
behind_src = Freq ∷ PolKey ∷ Ro ∷ Msys ∷ Mtype ∷ Plts ∷ Sr ∷ FecKey ∷ Pids ∷ Addpids ∷ Delpids ∷ []

abbrev behind_freq : List Key
behind_freq = PolKey ∷ Ro ∷ Msys ∷ Mtype ∷ Plts ∷ Sr ∷ FecKey ∷ Pids ∷ Addpids ∷ Delpids ∷ []

abbrev behind_pol : List Key
behind_pol = Ro ∷ Msys ∷ Mtype ∷ Plts ∷ Sr ∷ FecKey ∷ Pids ∷ Addpids ∷ Delpids ∷ []

abbrev behind_ro : List Key
behind_ro = Msys ∷ Mtype ∷ Plts ∷ Sr ∷ FecKey ∷ Pids ∷ Addpids ∷ Delpids ∷ []

abbrev behind_msys : List Key
behind_msys = Mtype ∷ Plts ∷ Sr ∷ FecKey ∷ Pids ∷ Addpids ∷ Delpids ∷ []

abbrev behind_mtype : List Key
behind_mtype = Plts ∷ Sr ∷ FecKey ∷ Pids ∷ Addpids ∷ Delpids ∷ []

abbrev behind_plts : List Key
behind_plts = Sr ∷ FecKey ∷ Pids ∷ Addpids ∷ Delpids ∷ []

abbrev behind_sr : List Key
behind_sr = FecKey ∷ Pids ∷ Addpids ∷ Delpids ∷ []

abbrev behind_fec : List Key
behind_fec = Pids ∷ Addpids ∷ Delpids ∷ []

abbrev behind_pids : List Key
behind_pids = Addpids ∷ Delpids ∷ []

abbrev behind_addpids : List Key
behind_addpids = Delpids ∷ []

abbrev behind_delpids : List Key
behind_delpids = []

read-fe : (q : Query) → IsAllowed q → with_pieces (by_fields None None None None None None None None None None Absent None None) (pieces q (Fe ∷ behind_fe))
    ≡ with_pieces (by_fields q.change.fe None None None None None None None None None Absent None None) (pieces q behind_fe)
unfolding is_left_open
read-fe q ok =
    step q Fe behind_fe decimal (IsWithin 1 65535) q.change.fe (λ o. by_fields o None None None None None None None None None Absent None None) refl refl ok.fe
    (λ n inside. known (by_fields None None None None None None None None None None Absent None None)
    (by_fields (Some n) None None None None None None None None None Absent None None) Fe (decimal n) refl refl
    (rw (number_printed 1 65535 n inside (omega arith)) refl))

read-src : (q : Query) → IsAllowed q → with_pieces (by_fields q.change.fe None None None None None None None None None Absent None None)
    (pieces q (Src ∷ behind_src)) ≡ with_pieces (by_fields q.change.fe q.change.src None None None None None None None None Absent None None)
    (pieces q behind_src)
unfolding is_left_open
read-src q ok =
    step q Src behind_src decimal (IsWithin 1 255) q.change.src (λ o. by_fields q.change.fe o None None None None None None None None Absent None None)
    refl refl ok.src
    (λ n inside. known (by_fields q.change.fe None None None None None None None None None Absent None None)
    (by_fields q.change.fe (Some n) None None None None None None None None Absent None None) Src (decimal n) refl refl
    (rw (number_printed 1 255 n inside (omega arith)) refl))

read-freq : (q : Query) → IsAllowed q → with_pieces (by_fields q.change.fe q.change.src None None None None None None None None Absent None None)
    (pieces q (Freq ∷ behind_freq)) ≡ with_pieces (by_fields q.change.fe q.change.src q.change.freq None None None None None None None Absent None None)
    (pieces q behind_freq)
unfolding is_left_open
read-freq q ok =
    step q Freq behind_freq frequency_text (IsWithin 1000 99999999) q.change.freq
    (λ o. by_fields q.change.fe q.change.src o None None None None None None None Absent None None) refl refl ok.freq
    (λ n inside. known (by_fields q.change.fe q.change.src None None None None None None None None Absent None None)
    (by_fields q.change.fe q.change.src (Some n) None None None None None None None Absent None None) Freq (frequency_text n) refl refl
    (rw (frequency_printed n inside.at_least inside.at_most) refl))

read-pol : (q : Query) → IsAllowed q → with_pieces (by_fields q.change.fe q.change.src q.change.freq None None None None None None None Absent None None)
    (pieces q (PolKey ∷ behind_pol)) ≡ with_pieces
    (by_fields q.change.fe q.change.src q.change.freq q.change.pol None None None None None None Absent None None) (pieces q behind_pol)
unfolding is_left_open
read-pol q ok =
    step-word q PolKey behind_pol pol_text q.change.pol
    (λ o. by_fields q.change.fe q.change.src q.change.freq o None None None None None None Absent None None) refl refl
    (λ v. known (by_fields q.change.fe q.change.src q.change.freq None None None None None None None Absent None None)
    (by_fields q.change.fe q.change.src q.change.freq (Some v) None None None None None None Absent None None) PolKey (pol_text v) refl refl
    (rw (pol_printed v) refl))

read-ro : (q : Query) → IsAllowed q → with_pieces (by_fields q.change.fe q.change.src q.change.freq q.change.pol None None None None None None Absent None None)
    (pieces q (Ro ∷ behind_ro))
    ≡ with_pieces (by_fields q.change.fe q.change.src q.change.freq q.change.pol q.change.ro None None None None None Absent None None) (pieces q behind_ro)
read-ro q ok =
    step-word q Ro behind_ro roll_off_text q.change.ro
    (λ o. by_fields q.change.fe q.change.src q.change.freq q.change.pol o None None None None None Absent None None) refl refl
    (λ v. known (by_fields q.change.fe q.change.src q.change.freq q.change.pol None None None None None None Absent None None)
    (by_fields q.change.fe q.change.src q.change.freq q.change.pol (Some v) None None None None None Absent None None) Ro (roll_off_text v) (closed-roll_off v)
    refl (rw (roll_off_printed v) refl))

read-msys : (q : Query) → IsAllowed q
    → with_pieces (by_fields q.change.fe q.change.src q.change.freq q.change.pol q.change.ro None None None None None Absent None None)
    (pieces q (Msys ∷ behind_msys)) ≡ with_pieces
    (by_fields q.change.fe q.change.src q.change.freq q.change.pol q.change.ro q.change.msys None None None None Absent None None) (pieces q behind_msys)
unfolding is_left_open
read-msys q ok =
    step-word q Msys behind_msys system_text q.change.msys
    (λ o. by_fields q.change.fe q.change.src q.change.freq q.change.pol q.change.ro o None None None None Absent None None) refl refl
    (λ v. known (by_fields q.change.fe q.change.src q.change.freq q.change.pol q.change.ro None None None None None Absent None None)
    (by_fields q.change.fe q.change.src q.change.freq q.change.pol q.change.ro (Some v) None None None None Absent None None) Msys (system_text v) refl refl
    (rw (system_printed v) refl))

read-mtype : (q : Query) → IsAllowed q
    → with_pieces (by_fields q.change.fe q.change.src q.change.freq q.change.pol q.change.ro q.change.msys None None None None Absent None None)
    (pieces q (Mtype ∷ behind_mtype)) ≡ with_pieces
    (by_fields q.change.fe q.change.src q.change.freq q.change.pol q.change.ro q.change.msys q.change.mtype None None None Absent None None)
    (pieces q behind_mtype)
read-mtype q ok =
    step-word q Mtype behind_mtype modulation_text q.change.mtype
    (λ o. by_fields q.change.fe q.change.src q.change.freq q.change.pol q.change.ro q.change.msys o None None None Absent None None) refl refl
    (λ v. known (by_fields q.change.fe q.change.src q.change.freq q.change.pol q.change.ro q.change.msys None None None None Absent None None)
    (by_fields q.change.fe q.change.src q.change.freq q.change.pol q.change.ro q.change.msys (Some v) None None None Absent None None) Mtype (modulation_text v)
    (closed-modulation v) refl (rw (modulation_printed v) refl))

read-plts : (q : Query) → IsAllowed q
    → with_pieces (by_fields q.change.fe q.change.src q.change.freq q.change.pol q.change.ro q.change.msys q.change.mtype None None None Absent None None)
    (pieces q (Plts ∷ behind_plts)) ≡ with_pieces
    (by_fields q.change.fe q.change.src q.change.freq q.change.pol q.change.ro q.change.msys q.change.mtype q.change.plts None None Absent None None)
    (pieces q behind_plts)
read-plts q ok =
    step-word q Plts behind_plts pilots_text_of q.change.plts
    (λ o. by_fields q.change.fe q.change.src q.change.freq q.change.pol q.change.ro q.change.msys q.change.mtype o None None Absent None None) refl refl
    (λ v. known (by_fields q.change.fe q.change.src q.change.freq q.change.pol q.change.ro q.change.msys q.change.mtype None None None Absent None None)
    (by_fields q.change.fe q.change.src q.change.freq q.change.pol q.change.ro q.change.msys q.change.mtype (Some v) None None Absent None None) Plts
    (pilots_text_of v) (closed-pilots v) refl (rw (pilots_printed v) refl))

read-sr : (q : Query) → IsAllowed q
    → with_pieces (by_fields q.change.fe q.change.src q.change.freq q.change.pol q.change.ro q.change.msys q.change.mtype q.change.plts None None Absent None
    None) (pieces q (Sr ∷ behind_sr)) ≡ with_pieces
    (by_fields q.change.fe q.change.src q.change.freq q.change.pol q.change.ro q.change.msys q.change.mtype q.change.plts q.change.sr None Absent None None)
    (pieces q behind_sr)
unfolding is_left_open
read-sr q ok =
    step q Sr behind_sr decimal (IsWithin 1 99999) q.change.sr
    (λ o. by_fields q.change.fe q.change.src q.change.freq q.change.pol q.change.ro q.change.msys q.change.mtype q.change.plts o None Absent None None)
    refl refl ok.sr
    (λ n inside. known (by_fields q.change.fe q.change.src q.change.freq q.change.pol q.change.ro q.change.msys q.change.mtype q.change.plts None None Absent
    None None) (by_fields q.change.fe q.change.src q.change.freq q.change.pol q.change.ro q.change.msys q.change.mtype q.change.plts (Some n) None Absent None
    None) Sr (decimal n) refl refl (rw (number_printed 1 99999 n inside (omega arith)) refl))

read-fec : (q : Query) → IsAllowed q
    → with_pieces (by_fields q.change.fe q.change.src q.change.freq q.change.pol q.change.ro q.change.msys q.change.mtype q.change.plts q.change.sr None Absent
    None None) (pieces q (FecKey ∷ behind_fec)) ≡ with_pieces
    (by_fields q.change.fe q.change.src q.change.freq q.change.pol q.change.ro q.change.msys q.change.mtype q.change.plts q.change.sr q.change.fec Absent None
    None) (pieces q behind_fec)
read-fec q ok =
    step-word q FecKey behind_fec fec_text q.change.fec
    (λ o. by_fields q.change.fe q.change.src q.change.freq q.change.pol q.change.ro q.change.msys q.change.mtype q.change.plts q.change.sr o Absent None None)
    refl refl
    (λ v. known (by_fields q.change.fe q.change.src q.change.freq q.change.pol q.change.ro q.change.msys q.change.mtype q.change.plts q.change.sr None Absent
    None None) (by_fields q.change.fe q.change.src q.change.freq q.change.pol q.change.ro q.change.msys q.change.mtype q.change.plts q.change.sr (Some v) Absent
    None None) FecKey (fec_text v) (closed-fec v) refl (rw (fec_printed v) refl))

read-pids : (q : Query) → IsAllowed q
    → with_pieces (by_fields q.change.fe q.change.src q.change.freq q.change.pol q.change.ro q.change.msys q.change.mtype q.change.plts q.change.sr q.change.fec
    Absent None None) (pieces q (Pids ∷ behind_pids))
    ≡ with_pieces (by_fields q.change.fe q.change.src q.change.freq q.change.pol q.change.ro q.change.msys q.change.mtype q.change.plts q.change.sr q.change.fec
    q.pids None None) (pieces q behind_pids)
read-pids q ok =
    step-pids q behind_pids q.pids
    (λ o. by_fields q.change.fe q.change.src q.change.freq q.change.pol q.change.ro q.change.msys q.change.mtype q.change.plts q.change.sr q.change.fec o None
    None) refl ok.pids (pids-known (by_fields q.change.fe q.change.src q.change.freq q.change.pol q.change.ro q.change.msys q.change.mtype q.change.plts
    q.change.sr q.change.fec Absent None None) refl)

read-addpids : (q : Query) → IsAllowed q
    → with_pieces (by_fields q.change.fe q.change.src q.change.freq q.change.pol q.change.ro q.change.msys q.change.mtype q.change.plts q.change.sr q.change.fec
    q.pids None None) (pieces q (Addpids ∷ behind_addpids))
    ≡ with_pieces (by_fields q.change.fe q.change.src q.change.freq q.change.pol q.change.ro q.change.msys q.change.mtype q.change.plts q.change.sr q.change.fec
    q.pids q.addpids None) (pieces q behind_addpids)
unfolding is_left_open
read-addpids q ok =
    step q Addpids behind_addpids list_text AreListed q.addpids
    (λ o. by_fields q.change.fe q.change.src q.change.freq q.change.pol q.change.ro q.change.msys q.change.mtype q.change.plts q.change.sr q.change.fec q.pids o
    None) refl refl ok.addpids
    (λ pids listed. known (by_fields q.change.fe q.change.src q.change.freq q.change.pol q.change.ro q.change.msys q.change.mtype q.change.plts q.change.sr
    q.change.fec q.pids None None)
    (by_fields q.change.fe q.change.src q.change.freq q.change.pol q.change.ro q.change.msys q.change.mtype q.change.plts q.change.sr q.change.fec q.pids
    (Some pids) None) Addpids (list_text pids) refl refl (rw (pid_list_printed pids listed) refl))

read-delpids : (q : Query) → IsAllowed q
    → with_pieces (by_fields q.change.fe q.change.src q.change.freq q.change.pol q.change.ro q.change.msys q.change.mtype q.change.plts q.change.sr q.change.fec
    q.pids q.addpids None) (pieces q (Delpids ∷ behind_delpids))
    ≡ with_pieces (by_fields q.change.fe q.change.src q.change.freq q.change.pol q.change.ro q.change.msys q.change.mtype q.change.plts q.change.sr q.change.fec
    q.pids q.addpids q.delpids) (pieces q behind_delpids)
unfolding is_left_open
read-delpids q ok =
    step q Delpids behind_delpids list_text AreListed q.delpids
    (λ o. by_fields q.change.fe q.change.src q.change.freq q.change.pol q.change.ro q.change.msys q.change.mtype q.change.plts q.change.sr q.change.fec q.pids
    q.addpids o) refl refl ok.delpids
    (λ pids listed. known (by_fields q.change.fe q.change.src q.change.freq q.change.pol q.change.ro q.change.msys q.change.mtype q.change.plts q.change.sr
    q.change.fec q.pids q.addpids None)
    (by_fields q.change.fe q.change.src q.change.freq q.change.pol q.change.ro q.change.msys q.change.mtype q.change.plts q.change.sr q.change.fec q.pids
    q.addpids (Some pids)) Delpids (list_text pids) refl refl (rw (pid_list_printed pids listed) refl))

-- the pieces of a query give it
read_all : (q : Query) → IsAllowed q → with_pieces new_query (pieces q all_keys) ≡ Ok q
read_all q ok =
    read-fe q ok ∙ read-src q ok ∙ read-freq q ok ∙ read-pol q ok ∙ read-ro q ok ∙ read-msys q ok ∙ read-mtype q ok ∙ read-plts q ok ∙ read-sr q ok
    ∙ read-fec q ok ∙ read-pids q ok ∙ read-addpids q ok ∙ read-delpids q ok

clean-pieces : (q : Query) (keys : List Key) → IsAllowed q → AreClean 38 (pieces q keys)
clean-pieces q [] ok = tt
clean-pieces q (key ∷ keys) ok =
    elim (is_given q key) as (λ b. AreClean 38 (map (piece_text q) (cond b (key ∷ filter (is_given q) keys) (filter (is_given q) keys)))) [
      | true ↦ (no-piece q key ok, clean-pieces q keys ok)
      | false ↦ clean-pieces q keys ok
    ]

-- pieces that were joined are read one after another
read-joined : (q : Query) (texts : List (List ℕ)) → AreClean 38 texts → with_pieces new_query texts ≡ Ok q
    → with_pieces new_query (slice_split (is_byte 38) (join_with_byte 38 texts)) ≡ Ok q
unfolding key_named key_text
read-joined q [] clean read = read
read-joined q (text ∷ texts) clean read = ap (with_pieces new_query) (split-join 38 text texts clean) ∙ read

pub query_printed : (q : Query) → IsAllowed q → query_of (query_text q) ≡ Ok q
unfolding query_of query_text
query_printed q ok = read-joined q (pieces q all_keys) (clean-pieces q all_keys ok) (read_all q ok)
