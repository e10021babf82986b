-- The query of a text: its pieces are read one after another, up to the first fault.
use Rattle.std.specs.Prelude.{◌≡◌, ℕ, Bool, true, false, not, ◌&&◌, if◌then◌else◌, codes, List, [], ◌∷◌, Option, None, Some, Result, Ok, Err}
use Rattle.std.specs.List.{after_first, before_first, slice_split}
use Rattle.std.specs.Str.{bytes_eq}
use Rattle.satip_tune.specs.Frequency.{frequency_of}
use Rattle.satip_tune.specs.Pieces.{is_byte}
use Rattle.satip_tune.specs.Words.{key_named, pol_named, system_named, modulation_named, fec_named, pilots_named_of}
use Rattle.satip_tune.specs.declared.faults.ValueFault.{ValueFault}
use Rattle.satip_tune.specs.declared.faults.ValueFault.TheVariants.{Malformed, NotAllowed}
use Rattle.satip_tune.specs.declared.keys.Key.{Key}
use Rattle.satip_tune.specs.declared.keys.Key.TheVariants.{Fe, Src, Freq, Pol, Ro, Msys, Mtype, Plts, Sr, Fec, Pids, Addpids, Delpids}
use Rattle.satip_tune.specs.declared.tunings.Change.{Change}
use Rattle.satip_query.specs.Queries.{is_given, new_query}
use Rattle.satip_query.specs.Values.{is_word_text, named_or, number_in, pid_list_of, roll_off_of}
use Rattle.satip_query.specs.declared.faults.QueryFault.{QueryFault}
use Rattle.satip_query.specs.declared.faults.QueryFault.TheVariants.{Syntax, Range}
use Rattle.satip_query.specs.declared.queries.PidsGiven.{PidsGiven}
use Rattle.satip_query.specs.declared.queries.PidsGiven.TheVariants.{All, Empty, List as Listed}
use Rattle.satip_query.specs.declared.queries.Query.{Query}

-- a result with its value changed
abbrev pub result_map : {A B E : Type 0} → (A → B) → Result A E → Result B E
result_map f (Ok value) = Ok (f value)
result_map f (Err fault) = Err fault

-- the PIDs that the value of `pids` gives
unfoldable pub pids_of : List ℕ → Result PidsGiven ValueFault
pids_of text =
    if bytes_eq text (codes "all") then Ok All
    else if bytes_eq text (codes "none") then Ok Empty
    else result_map Listed (pid_list_of text)

-- the value of a text that has to be a word
abbrev pub word_of : {A : Type 0} → (List ℕ → Option A) → List ℕ → Result A ValueFault
word_of named text = named_or (named text) (is_word_text text)

-- a query with its change replaced
abbrev pub with_change : Query → Change → Query
with_change query change = record query { change = change }

-- a query with a key's value added
abbrev pub with_value : Query → Key → List ℕ → Result Query ValueFault
with_value q Fe text = result_map (λ n. with_change q (record q.change { fe = Some n })) (number_in 1 65535 text)
with_value q Src text = result_map (λ n. with_change q (record q.change { src = Some n })) (number_in 1 255 text)
with_value q Freq text = result_map (λ n. with_change q (record q.change { freq = Some n })) (frequency_of text)
with_value q Pol text = result_map (λ v. with_change q (record q.change { pol = Some v })) (word_of pol_named text)
with_value q Ro text = result_map (λ v. with_change q (record q.change { ro = Some v })) (roll_off_of text)
with_value q Msys text = result_map (λ v. with_change q (record q.change { msys = Some v })) (word_of system_named text)
with_value q Mtype text = result_map (λ v. with_change q (record q.change { mtype = Some v })) (word_of modulation_named text)
with_value q Plts text = result_map (λ v. with_change q (record q.change { plts = Some v })) (word_of pilots_named_of text)
with_value q Sr text = result_map (λ n. with_change q (record q.change { sr = Some n })) (number_in 1 99999 text)
with_value q Fec text = result_map (λ v. with_change q (record q.change { fec = Some v })) (word_of fec_named text)
with_value q Pids text = result_map (λ given. record q { pids = given }) (pids_of text)
with_value q Addpids text = result_map (λ list. record q { addpids = Some list }) (pid_list_of text)
with_value q Delpids text = result_map (λ list. record q { delpids = Some list }) (pid_list_of text)

-- whether `auto` may be the value of a key
abbrev pub may_be_open : Key → Bool
may_be_open Ro = true
may_be_open Mtype = true
may_be_open Plts = true
may_be_open Fec = true
may_be_open key = false

-- whether a piece has the value `auto` for such a key, and so gives nothing
unfoldable pub is_left_open : Key → List ℕ → Bool
is_left_open key text = may_be_open key && bytes_eq text (codes "auto")

-- the fault of a query at a key, from the fault of the key's value
abbrev pub fault_at : Key → ValueFault → QueryFault
fault_at key Malformed = Syntax key
fault_at key NotAllowed = Range key

-- a result, with the key added to its fault
abbrev pub at_key : Key → Result Query ValueFault → Result Query QueryFault
at_key key (Ok query) = Ok query
at_key key (Err fault) = Err (fault_at key fault)

-- a query with the piece of a known key added
abbrev pub with_known : Query → Key → List ℕ → Result Query QueryFault
with_known query key text =
    if is_left_open key text then Ok query
    else if is_given query key then Err (Syntax key)
    else at_key key (with_value query key text)

-- a query with a piece added; the piece of an unknown key is skipped
abbrev pub with_key : Query → Option Key → List ℕ → Result Query QueryFault
with_key query None text = Ok query
with_key query (Some key) text = with_known query key text

-- a query with a piece added: its key is the text before the first `=`, its value the text after it
abbrev pub with_piece : Query → List ℕ → Result Query QueryFault
with_piece query piece = with_key query (key_named (before_first (is_byte 61) piece)) (after_first (is_byte 61) piece)

-- the next step of a result, unless that is a fault
abbrev pub and_then : {A B E : Type 0} → Result A E → (A → Result B E) → Result B E
and_then (Ok value) next = next value
and_then (Err fault) next = Err fault

-- a query with pieces added, one after another
abbrev pub with_pieces : Query → List (List ℕ) → Result Query QueryFault
with_pieces query [] = Ok query
with_pieces query (piece ∷ pieces) = and_then (with_piece query piece) (λ next. with_pieces next pieces)

-- the answer of a call that leaves the query in place: success with the query, or the fault
abbrev pub Answers : {U E : Type 0} → Result U E → Result Query E → Query → Type 0
Answers (Ok done) found left = found ≡ Ok left
Answers (Err fault) found left = found ≡ Err fault

-- the query of a text: `&` separates its pieces
unfoldable pub query_of : List ℕ → Result Query QueryFault
query_of text = with_pieces new_query (slice_split (is_byte 38) text)

-- whether two keys are the same
abbrev pub same_key : Key → Key → Bool
same_key Fe Fe = true
same_key Src Src = true
same_key Freq Freq = true
same_key Pol Pol = true
same_key Ro Ro = true
same_key Msys Msys = true
same_key Mtype Mtype = true
same_key Plts Plts = true
same_key Sr Sr = true
same_key Fec Fec = true
same_key Pids Pids = true
same_key Addpids Addpids = true
same_key Delpids Delpids = true
same_key _ _ = false

-- whether a piece gives this key's value, from the piece's key if that is known
abbrev pub stands_for : Key → Option Key → List ℕ → Bool
stands_for key None text = false
stands_for key (Some named) text = same_key named key && not (is_left_open named text)

-- whether a piece gives a key's value
abbrev pub piece_gives : Key → List ℕ → Bool
piece_gives key piece = stands_for key (key_named (before_first (is_byte 61) piece)) (after_first (is_byte 61) piece)
