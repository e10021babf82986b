-- A key is given exactly where a piece of the text gives it.
use Rattle.std.proofs.Common.{◌≡◌, ℕ, Bool, true, false, not, ◌||◌, ◌&&◌, if◌then◌else◌, codes, List, [], ◌∷◌, Option, None, Some, Result, Ok, Err, refl, sym, ap, ◌∙◌}
use Rattle.std.specs.List.{list_any, slice_split}
use Rattle.std.specs.Str.{bytes_eq}
use Rattle.satip_tune.specs.Frequency.{frequency_of}
use Rattle.satip_tune.specs.Pieces.{is_byte}
use Rattle.satip_tune.specs.Words.{pol_named, system_named, modulation_named, fec_named, pilots_named_of}
use Rattle.satip_tune.specs.declared.faults.ValueFault.{ValueFault}
use Rattle.satip_tune.specs.declared.keys.Key.{Key}
use Rattle.satip_tune.specs.declared.keys.Key.TheVariants.{Fe, Src, Freq, Pol as PolKey, Ro, Msys, Mtype, Plts, Sr, Fec as FecKey, Pids, Addpids, Delpids}
use Rattle.satip_tune.specs.declared.signal.Fec.{Fec}
use Rattle.satip_tune.specs.declared.signal.Modulation.{Modulation}
use Rattle.satip_tune.specs.declared.signal.Pol.{Pol}
use Rattle.satip_tune.specs.declared.signal.RollOff.{RollOff}
use Rattle.satip_tune.specs.declared.signal.System.{System}
use Rattle.satip_query.specs.Queries.{are_given_by, is_given, new_query}
use Rattle.satip_query.specs.Reading.{and_then, at_key, is_left_open, piece_gives, pids_of, query_of, result_map, same_key, stands_for, with_change, with_key, with_known, with_piece, with_pieces, with_value, word_of}
use Rattle.satip_query.specs.Values.{number_in, pid_list_of, roll_off_of}
use Rattle.satip_query.specs.declared.faults.QueryFault.TheVariants.{Syntax}
use Rattle.satip_query.specs.declared.queries.PidsGiven.{PidsGiven}
use Rattle.satip_query.specs.declared.queries.PidsGiven.TheVariants.{All as Every, Empty, List as Listed}
use Rattle.satip_query.specs.declared.queries.Query.{Query}

-- what holds of each value that may be put in holds of the query that has one
mapped : {A E : Type 0} (put : A → Query) (found : Result A E) (r : Query) (test : Query → Bool) (b : Bool) → result_map put found ≡ Ok r
    → ((value : A) → found ≡ Ok value → test (put value) ≡ b) → test r ≡ b
mapped put (Ok value) r test b e each = let same : put value ≡ r = cc in sym (ap test same) ∙ each value refl
mapped put (Err fault) r test b e each = absurd (cc)

-- PIDs that are read are given
mapped-list : {E : Type 0} (found : Result (List ℕ) E) (given : PidsGiven) → result_map Listed found ≡ Ok given → are_given_by given ≡ true
mapped-list (Ok pids) given e = let same : Listed pids ≡ given = cc in sym (ap are_given_by same)
mapped-list (Err fault) given e = absurd (cc)

pids-given : (text : List ℕ) (given : PidsGiven) → pids_of text ≡ Ok given → are_given_by given ≡ true
unfolding pids_of
pids-given text given =
    elim (bytes_eq text (codes "all")) as (λ b. (if b then Ok Every else if bytes_eq text (codes "none") then Ok Empty
    else result_map Listed (pid_list_of text)) ≡ Ok given → are_given_by given ≡ true) [
      | true ↦ λ e. (let same : Every ≡ given = cc in sym (ap are_given_by same))
      | false ↦ elim (bytes_eq text (codes "none")) as (λ b. (if b then Ok Empty else result_map Listed (pid_list_of text)) ≡ Ok given
          → are_given_by given ≡ true) [
            | true ↦ λ e. (let same : Empty ≡ given = cc in sym (ap are_given_by same))
            | false ↦ λ e. mapped-list (pid_list_of text) given e
          ]
    ]

-- a value that is put in gives its key, and leaves every other as it was
put-fe : (q : Query) (value : ℕ) (key : Key) → is_given (with_change q (record q.change { fe = Some value })) key ≡ (same_key Fe key || is_given q key)
put-fe q value Fe = refl
put-fe q value _ = refl

put-src : (q : Query) (value : ℕ) (key : Key) → is_given (with_change q (record q.change { src = Some value })) key ≡ (same_key Src key || is_given q key)
put-src q value Src = refl
put-src q value _ = refl

put-freq : (q : Query) (value : ℕ) (key : Key) → is_given (with_change q (record q.change { freq = Some value })) key ≡ (same_key Freq key || is_given q key)
put-freq q value Freq = refl
put-freq q value _ = refl

put-pol : (q : Query) (value : Pol) (key : Key) → is_given (with_change q (record q.change { pol = Some value })) key ≡ (same_key PolKey key || is_given q key)
put-pol q value PolKey = refl
put-pol q value _ = refl

put-ro : (q : Query) (value : RollOff) (key : Key) → is_given (with_change q (record q.change { ro = Some value })) key ≡ (same_key Ro key || is_given q key)
put-ro q value Ro = refl
put-ro q value _ = refl

put-msys : (q : Query) (value : System) (key : Key)
    → is_given (with_change q (record q.change { msys = Some value })) key ≡ (same_key Msys key || is_given q key)
put-msys q value Msys = refl
put-msys q value _ = refl

put-mtype : (q : Query) (value : Modulation) (key : Key)
    → is_given (with_change q (record q.change { mtype = Some value })) key ≡ (same_key Mtype key || is_given q key)
put-mtype q value Mtype = refl
put-mtype q value _ = refl

put-plts : (q : Query) (value : Bool) (key : Key) → is_given (with_change q (record q.change { plts = Some value })) key ≡ (same_key Plts key || is_given q key)
put-plts q value Plts = refl
put-plts q value _ = refl

put-sr : (q : Query) (value : ℕ) (key : Key) → is_given (with_change q (record q.change { sr = Some value })) key ≡ (same_key Sr key || is_given q key)
put-sr q value Sr = refl
put-sr q value _ = refl

put-fec : (q : Query) (value : Fec) (key : Key) → is_given (with_change q (record q.change { fec = Some value })) key ≡ (same_key FecKey key || is_given q key)
put-fec q value FecKey = refl
put-fec q value _ = refl

put-pids : (q : Query) (given : PidsGiven) (key : Key) → are_given_by given ≡ true
    → is_given (record q { pids = given }) key ≡ (same_key Pids key || is_given q key)
put-pids q given Pids some = some
put-pids q given _ some = refl

put-addpids : (q : Query) (pids : List ℕ) (key : Key) → is_given (record q { addpids = Some pids }) key ≡ (same_key Addpids key || is_given q key)
put-addpids q pids Addpids = refl
put-addpids q pids _ = refl

put-delpids : (q : Query) (pids : List ℕ) (key : Key) → is_given (record q { delpids = Some pids }) key ≡ (same_key Delpids key || is_given q key)
put-delpids q pids Delpids = refl
put-delpids q pids _ = refl

given-value : (q r : Query) (named : Key) (text : List ℕ) (key : Key) → with_value q named text ≡ Ok r
    → is_given r key ≡ (same_key named key || is_given q key)
given-value q r Fe text key e =
    mapped (λ (v : ℕ). with_change q (record q.change { fe = Some v })) (number_in 1 65535 text) r (λ query. is_given query key)
    (same_key Fe key || is_given q key) e (λ v found. put-fe q v key)
given-value q r Src text key e =
    mapped (λ (v : ℕ). with_change q (record q.change { src = Some v })) (number_in 1 255 text) r (λ query. is_given query key)
    (same_key Src key || is_given q key) e (λ v found. put-src q v key)
given-value q r Freq text key e =
    mapped (λ (v : ℕ). with_change q (record q.change { freq = Some v })) (frequency_of text) r (λ query. is_given query key)
    (same_key Freq key || is_given q key) e (λ v found. put-freq q v key)
given-value q r PolKey text key e =
    mapped (λ (v : Pol). with_change q (record q.change { pol = Some v })) (word_of pol_named text) r (λ query. is_given query key)
    (same_key PolKey key || is_given q key) e (λ v found. put-pol q v key)
given-value q r Ro text key e =
    mapped (λ (v : RollOff). with_change q (record q.change { ro = Some v })) (roll_off_of text) r (λ query. is_given query key)
    (same_key Ro key || is_given q key) e (λ v found. put-ro q v key)
given-value q r Msys text key e =
    mapped (λ (v : System). with_change q (record q.change { msys = Some v })) (word_of system_named text) r (λ query. is_given query key)
    (same_key Msys key || is_given q key) e (λ v found. put-msys q v key)
given-value q r Mtype text key e =
    mapped (λ (v : Modulation). with_change q (record q.change { mtype = Some v })) (word_of modulation_named text) r (λ query. is_given query key)
    (same_key Mtype key || is_given q key) e (λ v found. put-mtype q v key)
given-value q r Plts text key e =
    mapped (λ (v : Bool). with_change q (record q.change { plts = Some v })) (word_of pilots_named_of text) r (λ query. is_given query key)
    (same_key Plts key || is_given q key) e (λ v found. put-plts q v key)
given-value q r Sr text key e =
    mapped (λ (v : ℕ). with_change q (record q.change { sr = Some v })) (number_in 1 99999 text) r (λ query. is_given query key)
    (same_key Sr key || is_given q key) e (λ v found. put-sr q v key)
given-value q r FecKey text key e =
    mapped (λ (v : Fec). with_change q (record q.change { fec = Some v })) (word_of fec_named text) r (λ query. is_given query key)
    (same_key FecKey key || is_given q key) e (λ v found. put-fec q v key)
given-value q r Pids text key e =
    mapped (λ (given : PidsGiven). record q { pids = given }) (pids_of text) r (λ query. is_given query key)
    (same_key Pids key || is_given q key) e (λ given found. put-pids q given key (pids-given text given found))
given-value q r Addpids text key e =
    mapped (λ (pids : List ℕ). record q { addpids = Some pids }) (pid_list_of text) r (λ query. is_given query key)
    (same_key Addpids key || is_given q key) e (λ pids found. put-addpids q pids key)
given-value q r Delpids text key e =
    mapped (λ (pids : List ℕ). record q { delpids = Some pids }) (pid_list_of text) r (λ query. is_given query key)
    (same_key Delpids key || is_given q key) e (λ pids found. put-delpids q pids key)

at-key : (named : Key) (found : Result Query ValueFault) (r : Query) → at_key named found ≡ Ok r → found ≡ Ok r
at-key named (Ok query) r e = let same : query ≡ r = cc in ap Ok same
at-key named (Err fault) r e = absurd (cc)

and-true : (b : Bool) → (b && true) ≡ b
and-true true = refl
and-true false = refl

and-false : (b : Bool) → (b && false) ≡ false
and-false true = refl
and-false false = refl

given-known : (q r : Query) (named : Key) (text : List ℕ) (key : Key) → with_known q named text ≡ Ok r
    → is_given r key ≡ ((same_key named key && not (is_left_open named text)) || is_given q key)
given-known q r named text key =
    elim (is_left_open named text) as (λ open_. (if open_ then Ok q else if is_given q named then Err (Syntax named)
    else at_key named (with_value q named text)) ≡ Ok r
    → is_given r key ≡ ((same_key named key && not open_) || is_given q key)) [
      | true ↦ λ e. (let same : q ≡ r = cc in sym (ap (λ query. is_given query key) same)
          ∙ ap (λ b. b || is_given q key) (sym (and-false (same_key named key))))
      | false ↦ elim (is_given q named) as (λ given. (if given then Err (Syntax named) else at_key named (with_value q named text)) ≡ Ok r
          → is_given r key ≡ ((same_key named key && true) || is_given q key)) [
            | true ↦ λ e. absurd (cc)
            | false ↦ λ e. given-value q r named text key (at-key named (with_value q named text) r e)
                ∙ ap (λ b. b || is_given q key) (sym (and-true (same_key named key)))
          ]
    ]

given-key : (q r : Query) (named : Option Key) (text : List ℕ) (key : Key) → with_key q named text ≡ Ok r
    → is_given r key ≡ (stands_for key named text || is_given q key)
given-key q r None text key e = let same : q ≡ r = cc in sym (ap (λ query. is_given query key) same)
given-key q r (Some named) text key e = given-known q r named text key e

or-middle : (a b c : Bool) → (b || (a || c)) ≡ ((a || b) || c)
or-middle true true c = refl
or-middle true false c = refl
or-middle false b c = refl

given-pieces : (pieces : List (List ℕ)) (q r : Query) (key : Key) → with_pieces q pieces ≡ Ok r
    → is_given r key ≡ (list_any (piece_gives key) pieces || is_given q key)
given-pieces [] q r key e = let same : q ≡ r = cc in sym (ap (λ query. is_given query key) same)
given-pieces (piece ∷ pieces) q r key e =
    elim (with_piece q piece) as (λ found. with_piece q piece ≡ found → and_then found (λ next. with_pieces next pieces) ≡ Ok r
    → is_given r key ≡ (list_any (piece_gives key) (piece ∷ pieces) || is_given q key)) [
      | Ok next ↦ λ here rest. given-pieces pieces next r key rest
          ∙ ap (λ b. list_any (piece_gives key) pieces || b) (given-key q next _ _ key here)
          ∙ or-middle (piece_gives key piece) (list_any (piece_gives key) pieces) (is_given q key)
      | Err fault ↦ λ here rest. absurd (cc)
    ] refl e

none-given : (key : Key) → is_given new_query key ≡ false
none-given Fe = refl
none-given _ = refl

or-none : (b : Bool) → (b || false) ≡ b
or-none true = refl
or-none false = refl

pub given_by_pieces : (text : List ℕ) (r : Query) (key : Key) → query_of text ≡ Ok r
    → is_given r key ≡ list_any (piece_gives key) (slice_split (is_byte 38) text)
unfolding query_of
given_by_pieces text r key e =
    given-pieces (slice_split (is_byte 38) text) new_query r key e
    ∙ ap (λ b. list_any (piece_gives key) (slice_split (is_byte 38) text) || b) (none-given key)
    ∙ or-none (list_any (piece_gives key) (slice_split (is_byte 38) text))
