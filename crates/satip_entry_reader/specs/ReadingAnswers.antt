-- Reading answers from the front of some bytes.
use Rattle.std.specs.Prelude.{ℕ, ◌==◌, if◌then◌else◌, List, Option, Some, None}
use Rattle.satip_plain.specs.declared.answers.Answer.{Answer}
use Rattle.satip_plain.specs.declared.answers.Answer.TheVariants.{Replied as RepliedIs, Get as GetIs, Beat as BeatIs, Work as WorkIs, Pulled as PulledIs, Closed as ClosedIs}
use Rattle.satip_plain.specs.declared.answers.Replied.{Replied}
use Rattle.satip_plain.specs.declared.answers.GetAnswer.{GetAnswer}
use Rattle.satip_plain.specs.declared.answers.GetAnswer.TheVariants.{Started, Refused}
use Rattle.satip_plain.specs.declared.answers.Beat.{Beat}
use Rattle.satip_plain.specs.declared.answers.Beat.TheVariants.{Going, Stopping as BeatStopping}
use Rattle.satip_plain.specs.declared.answers.Work.{Work}
use Rattle.satip_plain.specs.declared.answers.Work.TheVariants.{Tune, Nothing, Stopping}
use Rattle.satip_plain.specs.declared.answers.Pulled.{Pulled}
use Rattle.satip_plain.specs.declared.answers.Pulled.TheVariants.{Bytes, Empty, Gone as PulledGone}
use Rattle.satip_plain.specs.declared.answers.Closed.{Closed}
use Rattle.satip_plain.specs.declared.answers.Closed.TheVariants.{Yes, Gone}
pub use Rattle.satip_entry_writer.specs.Entries.{IsReplied, IsGet, IsWork, IsPulled, IsAnswer}
use Rattle.satip_entry_reader.specs.Reading.{behind, then_read, u8_read, u16_read, u64_read, bool_read, id_read}

unfoldable pub replied_read : List ℕ → Option (Replied × List ℕ)
replied_read bytes =
    then_read (u16_read bytes) (λ status rest. then_read (bool_read rest) (λ closing more. Some (record { status = status; closing = closing }, more)))

-- the fields after a variant's place
abbrev pub get_behind : ℕ → List ℕ → Option (GetAnswer × List ℕ)
get_behind place rest =
    if place == 0 then then_read (id_read rest) (λ id more. Some (Started id, more))
    else if place == 1 then then_read (u16_read rest) (λ status more. Some (Refused status, more))
    else None

unfoldable pub get_read : List ℕ → Option (GetAnswer × List ℕ)
get_read bytes = then_read (u8_read bytes) get_behind

abbrev pub beat_of : ℕ → Option Beat
beat_of place = if place == 0 then Some Going else if place == 1 then Some BeatStopping else None

unfoldable pub beat_read : List ℕ → Option (Beat × List ℕ)
beat_read bytes = then_read (u8_read bytes) (λ place rest. behind (beat_of place) rest)

abbrev pub work_behind : ℕ → List ℕ → Option (Work × List ℕ)
work_behind place rest =
    if place == 0 then then_read (u16_read rest) (λ mux after. then_read (u64_read after) (λ tune more. Some (Tune mux tune, more)))
    else if place == 1 then Some (Nothing, rest)
    else if place == 2 then Some (Stopping, rest)
    else None

unfoldable pub work_read : List ℕ → Option (Work × List ℕ)
work_read bytes = then_read (u8_read bytes) work_behind

abbrev pub pulled_behind : ℕ → List ℕ → Option (Pulled × List ℕ)
pulled_behind place rest =
    if place == 0 then then_read (u64_read rest) (λ count more. Some (Bytes count, more))
    else if place == 1 then Some (Empty, rest)
    else if place == 2 then Some (PulledGone, rest)
    else None

unfoldable pub pulled_read : List ℕ → Option (Pulled × List ℕ)
pulled_read bytes = then_read (u8_read bytes) pulled_behind

abbrev pub closed_of : ℕ → Option Closed
closed_of place = if place == 0 then Some Yes else if place == 1 then Some Gone else None

unfoldable pub closed_read : List ℕ → Option (Closed × List ℕ)
closed_read bytes = then_read (u8_read bytes) (λ place rest. behind (closed_of place) rest)

abbrev pub answer_behind : ℕ → List ℕ → Option (Answer × List ℕ)
answer_behind place rest =
    if place == 0 then then_read (replied_read rest) (λ replied more. Some (RepliedIs replied, more))
    else if place == 1 then then_read (get_read rest) (λ get more. Some (GetIs get, more))
    else if place == 2 then then_read (beat_read rest) (λ beat more. Some (BeatIs beat, more))
    else if place == 3 then then_read (work_read rest) (λ work more. Some (WorkIs work, more))
    else if place == 4 then then_read (pulled_read rest) (λ pulled more. Some (PulledIs pulled, more))
    else if place == 5 then then_read (closed_read rest) (λ closed more. Some (ClosedIs closed, more))
    else None

unfoldable pub answer_read : List ℕ → Option (Answer × List ℕ)
answer_read bytes = then_read (u8_read bytes) answer_behind
