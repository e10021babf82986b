-- Answers are read again.
use Rattle.std.proofs.Common.{◌≡◌, ℕ, List, ◌++◌, append_assoc, Some, refl}
use Rattle.satip_plain.specs.declared.answers.Answer.TheVariants.{Replied as RepliedIs, Get as GetIs, Beat as BeatIs, Work as WorkIs, Pulled as PulledIs, Closed as ClosedIs}
use Rattle.satip_plain.specs.declared.answers.GetAnswer.TheVariants.{Started, Refused}
use Rattle.satip_plain.specs.declared.answers.Beat.{Beat}
use Rattle.satip_plain.specs.declared.answers.Beat.TheVariants.{Going, Stopping as BeatStopping}
use Rattle.satip_plain.specs.declared.answers.Work.TheVariants.{Tune, Nothing, Stopping}
use Rattle.satip_plain.specs.declared.answers.Pulled.TheVariants.{Bytes, Empty, Gone as PulledGone}
use Rattle.satip_plain.specs.declared.answers.Closed.{Closed}
use Rattle.satip_plain.specs.declared.answers.Closed.TheVariants.{Yes, Gone}
use Rattle.satip_entry_writer.specs.Fields.{u8_text, u16_text, u64_text, bool_text, id_text}
use Rattle.satip_entry_writer.specs.Records.{answer_text, beat_text, closed_text, get_text, pulled_text, replied_text, work_text}
use Rattle.satip_entry_reader.specs.Reading.{ReadsAgain, u8_read}
use Rattle.satip_entry_reader.specs.ReadingAnswers.{IsAnswer, IsGet, IsPulled, IsReplied, IsWork, answer_read, beat_read, closed_read, get_read, pulled_read, replied_read, work_read}
use Rattle.satip_entry_reader.proofs.ValuesAgain.{bool_again, id_again, u16_again, u64_again}

-- the place of a variant
place_again : (place : ℕ) (rest : List ℕ) → u8_read (u8_text place ++ rest) ≡ Some (place, rest)
unfolding u8_read u8_text
place_again place rest = refl

replied_again : ReadsAgain IsReplied replied_text replied_read
unfolding replied_read
replied_again r rest h =
    rw (append_assoc (u16_text r.status) (bool_text r.closing) rest, u16_again r.status (bool_text r.closing ++ rest) h, bool_again r.closing rest tt) refl

get_again : ReadsAgain IsGet get_text get_read
unfolding get_read
get_again (Started id) rest h = rw (append_assoc (u8_text 0) (id_text id) rest, place_again 0 (id_text id ++ rest), id_again id rest h) refl
get_again (Refused status) rest h = rw (append_assoc (u8_text 1) (u16_text status) rest, place_again 1 (u16_text status ++ rest), u16_again status rest h) refl

beat_again : ReadsAgain (λ (x : Beat). Unit {0}) beat_text beat_read
unfolding beat_read
beat_again Going rest h = rw (place_again 0 rest) refl
beat_again BeatStopping rest h = rw (place_again 1 rest) refl

work_again : ReadsAgain IsWork work_text work_read
unfolding work_read
work_again (Tune mux tune) rest h =
    rw (
      append_assoc (u8_text 0) (u16_text mux ++ u64_text tune) rest,
      append_assoc (u16_text mux) (u64_text tune) rest,
      place_again 0 (u16_text mux ++ (u64_text tune ++ rest)),
      u16_again mux (u64_text tune ++ rest) h.0,
      u64_again tune rest h.1,
    ) refl
work_again Nothing rest h = rw (place_again 1 rest) refl
work_again Stopping rest h = rw (place_again 2 rest) refl

pulled_again : ReadsAgain IsPulled pulled_text pulled_read
unfolding pulled_read
pulled_again (Bytes count) rest h = rw (append_assoc (u8_text 0) (u64_text count) rest, place_again 0 (u64_text count ++ rest), u64_again count rest h) refl
pulled_again Empty rest h = rw (place_again 1 rest) refl
pulled_again PulledGone rest h = rw (place_again 2 rest) refl

closed_again : ReadsAgain (λ (x : Closed). Unit {0}) closed_text closed_read
unfolding closed_read
closed_again Yes rest h = rw (place_again 0 rest) refl
closed_again Gone rest h = rw (place_again 1 rest) refl

pub answer_again : ReadsAgain IsAnswer answer_text answer_read
unfolding answer_read answer_text
answer_again (RepliedIs replied) rest h =
    rw (append_assoc (u8_text 0) (replied_text replied) rest, place_again 0 (replied_text replied ++ rest), replied_again replied rest h) refl
answer_again (GetIs get) rest h =
    rw (append_assoc (u8_text 1) (get_text get) rest, place_again 1 (get_text get ++ rest), get_again get rest h) refl
answer_again (BeatIs beat) rest h =
    rw (append_assoc (u8_text 2) (beat_text beat) rest, place_again 2 (beat_text beat ++ rest), beat_again beat rest tt) refl
answer_again (WorkIs work) rest h =
    rw (append_assoc (u8_text 3) (work_text work) rest, place_again 3 (work_text work ++ rest), work_again work rest h) refl
answer_again (PulledIs pulled) rest h =
    rw (append_assoc (u8_text 4) (pulled_text pulled) rest, place_again 4 (pulled_text pulled ++ rest), pulled_again pulled rest h) refl
answer_again (ClosedIs closed) rest h =
    rw (append_assoc (u8_text 5) (closed_text closed) rest, place_again 5 (closed_text closed ++ rest), closed_again closed rest tt) refl
