-- The printed run: a line for each answer, and after it one for each datagram of its event.
use Rattle.std.specs.Prelude.{ℕ, Bool, true, false, List, ◌++◌, flat_map, codes, decimal}
use Rattle.hex.specs.Hex.{encode_lower}
use Rattle.satip_base.specs.Output.{Output, Datagram}
use Rattle.satip_base.specs.Texts.{address_text, id_text}
use Rattle.satip_plain.specs.declared.answers.Answer.{Answer}
use Rattle.satip_plain.specs.declared.answers.Answer.TheVariants.{Replied as RepliedIs, Get, Beat as BeatIs, Work as WorkIs, Pulled as PulledIs, Closed as ClosedIs}
use Rattle.satip_plain.specs.declared.answers.Replied.{Replied}
use Rattle.satip_plain.specs.declared.answers.GetAnswer.{GetAnswer}
use Rattle.satip_plain.specs.declared.answers.GetAnswer.TheVariants.{Started, Refused}
use Rattle.satip_plain.specs.declared.answers.Beat.{Beat}
use Rattle.satip_plain.specs.declared.answers.Beat.TheVariants.{Going, Stopping as BeatStopping}
use Rattle.satip_plain.specs.declared.answers.Work.{Work}
use Rattle.satip_plain.specs.declared.answers.Work.TheVariants.{Tune, Nothing, Stopping as WorkStopping}
use Rattle.satip_plain.specs.declared.answers.Pulled.{Pulled}
use Rattle.satip_plain.specs.declared.answers.Pulled.TheVariants.{Bytes, Empty, Gone as PulledGone}
use Rattle.satip_plain.specs.declared.answers.Closed.{Closed}
use Rattle.satip_plain.specs.declared.answers.Closed.TheVariants.{Yes, Gone as ClosedGone}
use Rattle.satip_plain.specs.Histories.{Item}

-- LF
abbrev pub end_of_line : List ℕ
end_of_line = codes "\n"

-- a line whose last word is bytes in lower-case hexadecimal digits
unfoldable pub hex_line : List ℕ → List ℕ → List ℕ
hex_line front bytes = front ++ encode_lower bytes ++ end_of_line

-- a line of words only
unfoldable pub plain_line : List ℕ → List ℕ
plain_line words = words ++ end_of_line

-- 1 if the reply closes the connection, else 0
abbrev pub closing_text : Bool → List ℕ
closing_text true = codes "1"
closing_text false = codes "0"

-- `reply STATUS CLOSING `
unfoldable pub replied_front : Replied → List ℕ
replied_front r = codes "reply " ++ decimal r.status ++ codes " " ++ closing_text r.closing ++ codes " "

-- the line of an RTSP reply
abbrev pub replied_line : Replied → List ℕ → List ℕ
replied_line r reply = hex_line (replied_front r) reply

-- `started SESSION ` or `refused STATUS `
unfoldable pub get_front : GetAnswer → List ℕ
get_front (Started session) = codes "started " ++ id_text session ++ codes " "
get_front (Refused status) = codes "refused " ++ decimal status ++ codes " "

-- the line of the answer to a GET
abbrev pub get_line : GetAnswer → List ℕ → List ℕ
get_line g reply = hex_line (get_front g) reply

-- the line of the answer to a tick or a stop
abbrev pub beat_line : Beat → List ℕ
beat_line Going = plain_line (codes "going")
beat_line BeatStopping = plain_line (codes "stopping")

-- `tune MUX TUNE`, `nothing` or `stopping`
unfoldable pub work_words : Work → List ℕ
work_words (Tune mux tune) = codes "tune " ++ decimal mux ++ codes " " ++ decimal tune
work_words Nothing = codes "nothing"
work_words WorkStopping = codes "stopping"

-- the line of the answer to an ask
abbrev pub work_line : Work → List ℕ
work_line work = plain_line (work_words work)

-- the line of the answer to a pull
abbrev pub pulled_line : Pulled → List ℕ → List ℕ
pulled_line (Bytes count) reply = hex_line (codes "bytes ") reply
pulled_line Empty reply = plain_line (codes "empty")
pulled_line PulledGone reply = plain_line (codes "gone")

-- the line of the answer to a close
abbrev pub closed_line : Closed → List ℕ
closed_line Yes = plain_line (codes "closed")
closed_line ClosedGone = plain_line (codes "gone")

-- the line of an answer, with the reply that was written
abbrev pub answer_line : Answer → List ℕ → List ℕ
answer_line (RepliedIs r) reply = replied_line r reply
answer_line (Get g) reply = get_line g reply
answer_line (BeatIs b) reply = beat_line b
answer_line (WorkIs w) reply = work_line w
answer_line (PulledIs p) reply = pulled_line p reply
answer_line (ClosedIs c) reply = closed_line c

-- `datagram IP:PORT `
unfoldable pub datagram_front : ℕ → ℕ → List ℕ
datagram_front ip port = codes "datagram " ++ address_text ip ++ codes ":" ++ decimal port ++ codes " "

-- the line of a datagram
abbrev pub datagram_line : Datagram → List ℕ
datagram_line d = hex_line (datagram_front d.to.ip d.to.port) d.bytes

-- the lines of an entry: its answer, and its datagrams in order
abbrev pub entry_text : Answer → Output → List ℕ
entry_text answer out = answer_line answer out.reply ++ flat_map datagram_line out.datagrams

-- the printed run
abbrev pub printed : List Item → List ℕ
printed h = flat_map (λ (e : Item). entry_text e.answer e.out) h
