-- How a query changes a stream, and how streams and front ends are freed.
use Rattle.std.specs.Prelude.{ℕ, ◌==◌, ◌&&◌, ◌+◌, ◌%◌, ◌^◌, not, true, false, [], filter, Option, None, Some, option_and_then, Result, Ok, Err, if◌then◌else◌}
use Rattle.std.specs.List.{list_any}
use Rattle.std.specs.Option.{option_map_or}
use Rattle.satip_tune.specs.Tunings.{merge_of, first_of, gives_any}
use Rattle.satip_tune.specs.Frontends.{mux_for}
use Rattle.satip_pids.specs.declared.fault.PidFault.{PidFault}
use Rattle.satip_pids.specs.Pids.{Choice, Unsaid, AllPids, Listed as ListedPids, apply}
use Rattle.satip_query.specs.declared.queries.PidsGiven.{PidsGiven}
use Rattle.satip_query.specs.declared.queries.PidsGiven.TheVariants.{Absent, All, Empty, List as Listed}
use Rattle.satip_plain.specs.Types.{Tuning, Change, Key, Query, Config, Pids}
use Rattle.satip_plain.specs.State.{Stream, Row, State, is_at, stream_of, row_of, served_by, change_where}
use Rattle.satip_plain.specs.Sending.{Move, settle, then_move, each_of, let_go}
use Rattle.satip_fronts.specs.declared.choice.Place.{Place}
use Rattle.satip_fronts.specs.Choice.{Outlook, choose}
use Rattle.satip_plain.specs.SameTuning.{tuning_eq}

-- the tuning after a change with at least one key, from the old tuning or from none
abbrev pub changed_tuning : Option Tuning → Change → Result Tuning Key
changed_tuning None change = first_of change
changed_tuning (Some old) change = Ok (merge_of old change)

-- the new tuning, if it differs from the old one
abbrev pub other_than : Option Tuning → Tuning → Option Tuning
other_than None new = Some new
other_than (Some old) new = if tuning_eq old new then None else Some new

abbrev pub to_set_of : Option Tuning → Result Tuning Key → Option Tuning
to_set_of old (Ok new) = other_than old new
to_set_of old (Err key) = None

-- the tuning to set: it is asked for, and differs from the old one
abbrev pub to_set : Option Tuning → Change → Option Tuning
to_set old change = if gives_any change then to_set_of old (changed_tuning old change) else None

-- the state of the front ends for a choice for this stream
abbrev pub outlook_of : Config → State → ℕ → Outlook
outlook_of c st number = record {
  fronts = c.fronts;
  mux_at = λ f. option_and_then (λ r. r.mux) (row_of st f);
  own = option_and_then (λ t. t.front) (stream_of st number);
  shared = λ f. list_any (λ t. not (t.number == number)) (served_by st f);
}

-- a front end that serves no stream is tuned to no multiplex
abbrev pub freed : Row → Row
freed r = record r { mux = None; ended = false }

-- removes streams without sessions, and frees front ends without streams
abbrev pub sweep : State → State
sweep st =
    let streams = filter (λ t. list_any (λ s. s.stream == t.number) st.sessions) st.streams in
    record st {
      streams = streams;
      rows = change_where (λ r. not (list_any (λ t. is_at t.front r.number) streams)) freed st.rows;
    }

-- a front end that is tuned: its tune number is one more, and its recording plays from the beginning
abbrev pub tuned : Option ℕ → Row → Row
tuned mux r = record r { mux = mux; tune = (r.tune + 1) % 2 ^ 64; ended = false }

-- applies f to the stream of this number
abbrev pub change_stream : ℕ → (Stream → Stream) → State → State
change_stream number f st = record st { streams = change_where (λ t. t.number == number) f st.streams }

-- gives the stream this tuning and this place
abbrev pub put_at : Config → ℕ → Tuning → State → Place → State
put_at c number tuning st place =
    let placed = change_stream number (λ t. record t { tuning = Some tuning; front = Some place.front }) st in
    sweep (record placed { rows = change_where (λ r. place.anew && r.number == place.front) (tuned (mux_for c.muxes tuning)) placed.rows })

-- the held packets of the stream's sessions leave, then the stream gets its place
abbrev pub retune : Config → ℕ → State → Tuning → Move
retune c number st tuning =
    then_move (each_of (λ s. s.stream == number && not s.http) (let_go true st.clock) st) (λ now.
    settle (option_map_or (put_at c number tuning now) (choose (outlook_of c now number) (mux_for c.muxes tuning) tuning) now))

-- the PIDs that a query gives, as a choice
abbrev pub choice_of : PidsGiven → Choice
choice_of Absent = Unsaid
choice_of All = AllPids
choice_of Empty = ListedPids []
choice_of (Listed pids) = ListedPids pids

-- the PIDs that a query makes of the old ones, or the first fault
abbrev pub asked_pids : Pids → Query → Result Pids PidFault
asked_pids old query = apply old (choice_of query.pids) query.addpids query.delpids

-- the new PIDs; the old ones if there is a fault
abbrev pub pids_or : Pids → Result Pids PidFault → Pids
pids_or old (Ok new) = new
pids_or old (Err fault) = old

-- the PIDs of a stream after an accepted query
abbrev pub new_pids : Pids → Query → Pids
new_pids old query = pids_or old (asked_pids old query)

-- changes a stream by a query: tuning first, then PIDs
abbrev pub change_by : Config → ℕ → Query → State → Move
change_by c number query st =
    let old = option_and_then (λ t. t.tuning) (stream_of st number) in
    then_move (option_map_or (retune c number st) (to_set old query.change) (settle st)) (λ now.
    settle (change_stream number (λ t. record t { pids = new_pids t.pids query }) now))
