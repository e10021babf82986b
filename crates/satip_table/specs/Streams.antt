-- Streams, by rising number.
use Rattle.std.specs.Prelude.{ℕ, ◌+◌, ◌==◌, nat_lt, not, suc, Bool, if◌then◌else◌, List, [], ◌∷◌, ◌++◌, Option, None, find, filter, map, unwrap_or}
use Rattle.std.specs.List.{list_any, range_with_len}
use Rattle.satip_base.specs.declared.identity.SessionId.{SessionId}
use Rattle.satip_pids.specs.Pids.{Pids, Only}
use Rattle.satip_tune.specs.declared.tunings.Tuning.{Tuning}
use Rattle.satip_table.specs.declared.session.Seat.{Seat}
use Rattle.satip_table.specs.declared.stream.Stream.{Stream}
use Rattle.satip_table.specs.Sessions.{is_in, owner_of}

-- whether the stream has this number
abbrev pub has_number : ℕ → Stream → Bool
has_number number stream = stream.number == number

-- whether a stream of this number lives
abbrev pub is_live : List Stream → ℕ → Bool
is_live streams number = list_any (has_number number) streams

-- the least number from 1 to 64 that isn't living, by a test of those that are; 65 if all are
abbrev pub least_number : (ℕ → Bool) → ℕ
least_number lives = unwrap_or (find (λ number. not (lives number)) (range_with_len 1 64)) 65

-- a stream that isn't tuned and selects no PID
unfoldable pub fresh : ℕ → SessionId → Stream
fresh number owner = record { number = number; owner = owner; tuning = None; front = None; pids = Only [] }

-- the streams with one more, after those of lesser numbers
unfoldable pub put_stream : Stream → List Stream → List Stream
put_stream stream streams =
    filter (λ (other : Stream). nat_lt other.number stream.number) streams
    ++ stream ∷ filter (λ (other : Stream). nat_lt stream.number other.number) streams

-- whether a session is at the stream
abbrev pub lasts : List Seat → Stream → Bool
lasts seats stream = list_any (is_in stream.number) seats

-- the stream, owned by the first of its sessions
unfoldable pub re_owned : List Seat → Stream → Stream
re_owned seats stream = record stream { owner = unwrap_or (owner_of seats stream.number) stream.owner }

-- the streams that have sessions, each owned by the first of them
unfoldable pub kept_streams : List Seat → List Stream → List Stream
kept_streams seats streams = map (re_owned seats) (filter (lasts seats) streams)

-- the stream, with another tuning, front end and PID set if it has this number
unfoldable pub stream_where : ℕ → Option Tuning → Option ℕ → Pids → Stream → Stream
stream_where number tuning front pids stream =
    if has_number number stream then record stream { tuning = tuning; front = front; pids = pids } else stream

-- the streams after that of this number got another tuning, front end and PID set
abbrev pub with_stream : ℕ → Option Tuning → Option ℕ → Pids → List Stream → List Stream
with_stream number tuning front pids streams = map (stream_where number tuning front pids) streams

-- the count of streams whose numbers are consecutive from `from` on
abbrev pub gap : ℕ → List Stream → ℕ
gap from [] = 0
gap from (stream ∷ streams) = if stream.number == from then suc (gap (from + 1) streams) else 0
