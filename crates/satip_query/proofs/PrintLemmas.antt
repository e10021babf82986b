-- How a query is printed key by key, and how long that is.
use Rattle.std.proofs.Common.{◌≡◌, ℕ, suc, ◌+◌, ◌/◌, ◌%◌, ◌^◌, ◌<◌, ◌≤◌, Bool, true, false, cond, ◌||◌, if◌then◌else◌, List, [], ◌∷◌, ◌++◌, length, drop, map, filter, get_or, add-one, decimal, nat_eq, Option, None, Some, IfSome, refl, sym, ap, subst, ◌∙◌, length-append, length-take, append-nil, arith}
use Rattle.std.specs.List.{join_with_byte, flat_map}
use Rattle.std.proofs.lemmas.Fmt.{length-decimal-le}
use Rattle.std.proofs.Math.Seq.{drop-cons}
use Rattle.std.proofs.lemmas.List.{drop_all}
use Rattle.std.proofs.lemmas.List.Elements.{All-head, All-tail}
use Rattle.satip_base.specs.Output.{Output, Wrote}
use Rattle.satip_base.proofs.Writing.{◌then◌}
use Rattle.satip_pids.specs.Texts.{next_text}
use Rattle.satip_pids.proofs.PidTexts.{length-decimal_pid, length-flat_map_next}
use Rattle.satip_tune.specs.Frequency.{fraction_text, frequency_text, three_digits, without_end_zeros}
use Rattle.satip_tune.specs.Words.{all_keys, key_text, pol_text, system_text, modulation_text, roll_off_text, fec_text, pilots_text_of}
use Rattle.satip_tune.specs.declared.keys.Key.{Key}
use Rattle.satip_tune.specs.declared.keys.Key.TheVariants.{Fe, Src, Freq, Pol as PolKey, Ro, Msys, Mtype, Plts, Sr, Fec as FecKey, Pids, Addpids, Delpids}
use Rattle.satip_tune.specs.declared.signal.Fec.{Fec}
use Rattle.satip_tune.specs.declared.signal.Fec.TheVariants.{F12, F23, F34, F56, F78, F89, F35, F45, F910}
use Rattle.satip_tune.specs.declared.signal.Modulation.{Modulation}
use Rattle.satip_tune.specs.declared.signal.Modulation.TheVariants.{Qpsk, Psk8}
use Rattle.satip_tune.specs.declared.signal.Pol.{Pol}
use Rattle.satip_tune.specs.declared.signal.Pol.TheVariants.{H, V, L, R}
use Rattle.satip_tune.specs.declared.signal.RollOff.{RollOff}
use Rattle.satip_tune.specs.declared.signal.RollOff.TheVariants.{R35, R25, R20}
use Rattle.satip_tune.specs.declared.signal.System.{System}
use Rattle.satip_tune.specs.declared.signal.System.TheVariants.{Dvbs, Dvbs2}
use Rattle.satip_query.specs.Printing.{AreListed, IsAllowed, IsWithin, MayBeGiven, field_text, list_text, part_text, parts_text, piece_text, pids_text, query_text, separator, value_text}
use Rattle.satip_query.specs.Queries.{is_given}
use Rattle.satip_query.specs.declared.queries.PidsGiven.{PidsGiven}
use Rattle.satip_query.specs.declared.queries.PidsGiven.TheVariants.{Absent, All as Every, Empty, List as Listed}
use Rattle.satip_query.specs.declared.queries.Query.{Query}
use Rattle.satip_query.proofs.ListPrinted.{list_text-cons}
use Rattle.satip_query.proofs.QueryPrinted.{pieces}

-- a loop that writes part by part: what is left to write completes the whole
pub behind : (first o m : Output) (whole all part rest : List ℕ) → ((n : Output) → Wrote o all n → Wrote first whole n)
    → all ≡ part ++ rest → Wrote o part m → (n : Output) → Wrote m rest n → Wrote first whole n
behind first o m whole all part rest before parts wrote n more =
    before n (subst (λ bs. Wrote o bs n) (sym parts) (wrote then more))

pub room_behind : (o m : Output) (all part rest : List ℕ) → length all ≤ o.reply_spare → all ≡ part ++ rest → Wrote o part m
    → length rest ≤ m.reply_spare
room_behind o m all part rest room parts wrote =
    let e : length all ≡ length (part ++ rest) = ap length parts in
    omega (arith, e, length-append part rest, room, wrote.reply_spare)

-- what is left of a list at a place
pub drop-next : {X : Type 0} (xs : List X) (i : ℕ) (d : X) → i < length xs → drop i xs ≡ get_or xs i d ∷ drop (i + 1) xs
drop-next xs i d within = rw (add-one, drop-cons xs i d) refl

pub drop-past : {X : Type 0} (xs : List X) (i : ℕ) → length xs ≤ i → drop i xs ≡ []
drop-past xs i past = drop_all i xs past

-- the text of no PIDs, and of one and the others
pub list_text-nil : (pids : List ℕ) → length pids ≡ 0 → list_text pids ≡ []
unfolding list_text
list_text-nil [] none = refl
list_text-nil (pid ∷ pids) none = absurd (omega (arith, none))

pub list_text-parts : (pids : List ℕ) → 0 < length pids → list_text pids ≡ decimal (get_or pids 0 0) ++ flat_map next_text (drop 1 pids)
list_text-parts [] some = absurd (omega (arith, some))
list_text-parts (pid ∷ pids) some = list_text-cons pid pids

-- what pieces add behind a first one
more_text : List (List ℕ) → List ℕ
more_text [] = []
more_text (text ∷ texts) = 38 ∷ (text ++ more_text texts)

parts-started : (q : Query) (keys : List Key) → parts_text q true keys ≡ more_text (pieces q keys)
unfolding more_text
parts-started q [] = refl
parts-started q (key ∷ keys) =
    elim (is_given q key) as (λ b. (if b then separator true ++ piece_text q key else []) ++ parts_text q true keys
    ≡ more_text (map (piece_text q) (cond b (key ∷ filter (is_given q) keys) (filter (is_given q) keys)))) [
      | true ↦ ap (λ rest. 38 ∷ (piece_text q key ++ rest)) (parts-started q keys)
      | false ↦ parts-started q keys
    ]

join-more : (text : List ℕ) (texts : List (List ℕ)) → text ++ more_text texts ≡ join_with_byte 38 (text ∷ texts)
unfolding more_text
join-more text [] = append-nil text
join-more text (next ∷ texts) = ap (λ rest. text ++ (38 ∷ rest)) (join-more next texts)

parts-joined : (q : Query) (keys : List Key) → parts_text q false keys ≡ join_with_byte 38 (pieces q keys)
parts-joined q [] = refl
parts-joined q (key ∷ keys) =
    elim (is_given q key) as (λ b. (if b then separator false ++ piece_text q key else []) ++ parts_text q b keys
    ≡ join_with_byte 38 (map (piece_text q) (cond b (key ∷ filter (is_given q) keys) (filter (is_given q) keys)))) [
      | true ↦ ap (λ rest. piece_text q key ++ rest) (parts-started q keys) ∙ join-more (piece_text q key) (pieces q keys)
      | false ↦ parts-joined q keys
    ]

pub query_text-parts : (q : Query) → parts_text q false all_keys ≡ query_text q
unfolding query_text
query_text-parts q = parts-joined q all_keys

-- the most bytes that a key's value has
most : Key → ℕ
most Pids = 2560
most Addpids = 2560
most Delpids = 2560
most key = 20

short-number : (low high n : ℕ) → high < 10 ^ 5 → IsWithin low high n → length (decimal n) ≤ 20
short-number low high n few inside =
    let h : length (decimal n) ≤ 5 = length-decimal-le 5 n (omega arith) (omega (arith, inside.at_most, few)) (omega (arith, inside.at_most, few)) in
    omega arith

short-fraction : (k : ℕ) → length (fraction_text k) ≤ 4
short-fraction k =
    elim (nat_eq k 0) as (λ b. length (if b then [] else 46 ∷ without_end_zeros (three_digits k)) ≤ 4) [
      | true ↦ omega arith
      | false ↦ omega (arith, length-take {A = ℕ})
    ]

short-frequency : (khz : ℕ) → khz ≤ 99999999 → length (frequency_text khz) ≤ 20
unfolding frequency_text
short-frequency khz high =
    let h : length (decimal (khz / 1000)) ≤ 5 = length-decimal-le 5 (khz / 1000) (omega arith) (omega arith) (omega arith) in
    omega (arith, h, short-fraction (khz % 1000), length-append (decimal (khz / 1000)) (fraction_text (khz % 1000)))

short-list : (pids : List ℕ) → AreListed pids → length (list_text pids) ≤ 2560
short-list [] listed = absurd (omega (arith, listed.some))
short-list (pid ∷ pids) listed =
    let below = listed.limits.below in
    let here = length-decimal_pid pid (All-head (λ pid. pid < 8192) pid pids below) in
    let rest = length-flat_map_next pids (All-tail (λ pid. pid < 8192) pid pids below) in
    let few : suc (length pids) ≤ 512 = listed.limits.few in
    omega (arith, ap length (list_text-cons pid pids), length-append (decimal pid) (flat_map next_text pids), here, rest, few)

short-given : (given : PidsGiven) → MayBeGiven given → length (pids_text given) ≤ 2560
short-given Absent may = omega arith
short-given Every may = omega arith
short-given Empty may = omega arith
short-given (Listed pids) may = short-list pids may

short-field : {A : Type 0} (text : A → List ℕ) (P : A → Type 0) (o : Option A) (n : ℕ) → IfSome o P
    → ((value : A) → P value → length (text value) ≤ n) → length (field_text text o) ≤ n
short-field text P None n allowed each = omega arith
short-field text P (Some value) n allowed each = each value allowed

short-word-field : {A : Type 0} (text : A → List ℕ) (o : Option A) → ((value : A) → length (text value) ≤ 20)
    → length (field_text text o) ≤ 20
short-word-field text None each = omega arith
short-word-field text (Some value) each = each value

short-pol : (value : Pol) → length (pol_text value) ≤ 20
unfolding pol_text
short-pol H = omega arith
short-pol V = omega arith
short-pol L = omega arith
short-pol R = omega arith

short-roll_off : (value : RollOff) → length (roll_off_text value) ≤ 20
unfolding roll_off_text
short-roll_off R35 = omega arith
short-roll_off R25 = omega arith
short-roll_off R20 = omega arith

short-system : (value : System) → length (system_text value) ≤ 20
unfolding system_text
short-system Dvbs = omega arith
short-system Dvbs2 = omega arith

short-modulation : (value : Modulation) → length (modulation_text value) ≤ 20
unfolding modulation_text
short-modulation Qpsk = omega arith
short-modulation Psk8 = omega arith

short-pilots : (value : Bool) → length (pilots_text_of value) ≤ 20
unfolding pilots_text_of
short-pilots true = omega arith
short-pilots false = omega arith

short-fec : (value : Fec) → length (fec_text value) ≤ 20
unfolding fec_text
short-fec F12 = omega arith
short-fec F23 = omega arith
short-fec F34 = omega arith
short-fec F56 = omega arith
short-fec F78 = omega arith
short-fec F89 = omega arith
short-fec F35 = omega arith
short-fec F45 = omega arith
short-fec F910 = omega arith

short-value : (q : Query) (key : Key) → IsAllowed q → length (value_text q key) ≤ most key
unfolding most
short-value q Fe ok = short-field decimal (IsWithin 1 65535) q.change.fe 20 ok.fe (λ n inside. short-number 1 65535 n (omega arith) inside)
short-value q Src ok = short-field decimal (IsWithin 1 255) q.change.src 20 ok.src (λ n inside. short-number 1 255 n (omega arith) inside)
short-value q Freq ok = short-field frequency_text (IsWithin 1000 99999999) q.change.freq 20 ok.freq (λ n inside. short-frequency n inside.at_most)
short-value q PolKey ok = short-word-field pol_text q.change.pol short-pol
short-value q Ro ok = short-word-field roll_off_text q.change.ro short-roll_off
short-value q Msys ok = short-word-field system_text q.change.msys short-system
short-value q Mtype ok = short-word-field modulation_text q.change.mtype short-modulation
short-value q Plts ok = short-word-field pilots_text_of q.change.plts short-pilots
short-value q Sr ok = short-field decimal (IsWithin 1 99999) q.change.sr 20 ok.sr (λ n inside. short-number 1 99999 n (omega arith) inside)
short-value q FecKey ok = short-word-field fec_text q.change.fec short-fec
short-value q Pids ok = short-given q.pids ok.pids
short-value q Addpids ok = short-field list_text AreListed q.addpids 2560 ok.addpids short-list
short-value q Delpids ok = short-field list_text AreListed q.delpids 2560 ok.delpids short-list

short-key : (key : Key) → length (key_text key) ≤ 7
unfolding key_text
short-key Fe = omega arith
short-key Src = omega arith
short-key Freq = omega arith
short-key PolKey = omega arith
short-key Ro = omega arith
short-key Msys = omega arith
short-key Mtype = omega arith
short-key Plts = omega arith
short-key Sr = omega arith
short-key FecKey = omega arith
short-key Pids = omega arith
short-key Addpids = omega arith
short-key Delpids = omega arith

short-separator : (started : Bool) → length (separator started) ≤ 1
short-separator true = omega arith
short-separator false = omega arith

short-part : (q : Query) (started : Bool) (key : Key) → IsAllowed q → length (part_text q started key) ≤ most key + 9
short-part q started key ok =
    elim (is_given q key) as (λ b. length (if b then separator started ++ piece_text q key else []) ≤ most key + 9) [
      | true ↦ omega (
        arith,
        short-separator started,
        short-key key,
        short-value q key ok,
        length-append (separator started) (piece_text q key),
        length-append (key_text key) (61 ∷ value_text q key),
      )
      | false ↦ omega arith
    ]

most_together : List Key → ℕ
most_together [] = 0
most_together (key ∷ keys) = most key + 9 + most_together keys

short-parts : (q : Query) (started : Bool) (keys : List Key) → IsAllowed q → length (parts_text q started keys) ≤ most_together keys
unfolding most_together
short-parts q started [] ok = omega arith
short-parts q started (key ∷ keys) ok =
    omega (
      arith,
      short-part q started key ok,
      short-parts q (started || is_given q key) keys ok,
      length-append (part_text q started key) (parts_text q (started || is_given q key) keys),
    )

-- a query takes less than 8192 bytes
pub short-query : (q : Query) → IsAllowed q → length (parts_text q false all_keys) ≤ 8192
unfolding most most_together
short-query q ok =
    let bound : length (parts_text q false all_keys) ≤ 7997 = short-parts q false all_keys ok in
    omega arith

pub query_fits : (q : Query) (spare : ℕ) → IsAllowed q → 8192 ≤ spare → length (parts_text q false all_keys) ≤ spare
query_fits q spare ok room = omega (arith, short-query q ok, room)
