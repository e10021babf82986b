-- The record of an entry of a history: its event, its answer, the reply and the datagrams.
use Rattle.std.specs.Prelude.{ℕ, List, ◌++◌, length}
use Rattle.satip_base.specs.Output.{Datagram}
use Rattle.satip_plain.specs.declared.events.Event.{Event}
use Rattle.satip_plain.specs.declared.events.Event.TheVariants.{Request as Asked, Get as Got, Tick, Packet, Ended, Ask, Pull, Close, Stop}
use Rattle.satip_plain.specs.declared.answers.Answer.{Answer}
use Rattle.satip_plain.specs.declared.answers.Answer.TheVariants.{Replied as RepliedIs, Get as GetIs, Beat as BeatIs, Work as WorkIs, Pulled as PulledIs, Closed as ClosedIs}
use Rattle.satip_plain.specs.declared.answers.Replied.{Replied}
use Rattle.satip_plain.specs.declared.answers.GetAnswer.{GetAnswer}
use Rattle.satip_plain.specs.declared.answers.GetAnswer.TheVariants.{Started, Refused}
use Rattle.satip_plain.specs.declared.answers.Beat.{Beat}
use Rattle.satip_plain.specs.declared.answers.Beat.TheVariants.{Going, Stopping as BeatStopping}
use Rattle.satip_plain.specs.declared.answers.Work.{Work}
use Rattle.satip_plain.specs.declared.answers.Work.TheVariants.{Tune, Nothing, Stopping}
use Rattle.satip_plain.specs.declared.answers.Pulled.{Pulled}
use Rattle.satip_plain.specs.declared.answers.Pulled.TheVariants.{Bytes, Empty, Gone as PulledGone}
use Rattle.satip_plain.specs.declared.answers.Closed.{Closed}
use Rattle.satip_plain.specs.declared.answers.Closed.TheVariants.{Yes, Gone}
use Rattle.satip_entry_writer.specs.Fields.{u8_text, u16_text, u32_text, u64_text, bool_text, list_text, id_text, draw_text, address_text}
use Rattle.satip_entry_writer.specs.Requests.{request_text, http_request_text}

-- an event: its place in the type, then its fields; a packet is its 188 bytes
unfoldable pub event_text : Event → List ℕ
event_text (Asked peer draw r) = u8_text 0 ++ (u32_text peer.ip ++ (draw_text draw ++ request_text r))
event_text (Got peer draw r) = u8_text 1 ++ (u32_text peer.ip ++ (draw_text draw ++ http_request_text r))
event_text (Tick now) = u8_text 2 ++ u64_text now
event_text (Packet front tune packet) = u8_text 3 ++ (u16_text front ++ (u64_text tune ++ packet))
event_text (Ended front tune) = u8_text 4 ++ (u16_text front ++ u64_text tune)
event_text (Ask front) = u8_text 5 ++ u16_text front
event_text (Pull id) = u8_text 6 ++ id_text id
event_text (Close id) = u8_text 7 ++ id_text id
event_text Stop = u8_text 8

abbrev pub replied_text : Replied → List ℕ
replied_text r = u16_text r.status ++ bool_text r.closing

abbrev pub get_text : GetAnswer → List ℕ
get_text (Started id) = u8_text 0 ++ id_text id
get_text (Refused status) = u8_text 1 ++ u16_text status

abbrev pub beat_text : Beat → List ℕ
beat_text Going = u8_text 0
beat_text BeatStopping = u8_text 1

abbrev pub work_text : Work → List ℕ
work_text (Tune mux tune) = u8_text 0 ++ (u16_text mux ++ u64_text tune)
work_text Nothing = u8_text 1
work_text Stopping = u8_text 2

abbrev pub pulled_text : Pulled → List ℕ
pulled_text (Bytes count) = u8_text 0 ++ u64_text count
pulled_text Empty = u8_text 1
pulled_text PulledGone = u8_text 2

abbrev pub closed_text : Closed → List ℕ
closed_text Yes = u8_text 0
closed_text Gone = u8_text 1

-- an answer: its place in the type, then its fields
unfoldable pub answer_text : Answer → List ℕ
answer_text (RepliedIs replied) = u8_text 0 ++ replied_text replied
answer_text (GetIs get) = u8_text 1 ++ get_text get
answer_text (BeatIs beat) = u8_text 2 ++ beat_text beat
answer_text (WorkIs work) = u8_text 3 ++ work_text work
answer_text (PulledIs pulled) = u8_text 4 ++ pulled_text pulled
answer_text (ClosedIs closed) = u8_text 5 ++ closed_text closed

-- the count of bytes, and the bytes
abbrev pub bytes_text : List ℕ → List ℕ
bytes_text bytes = u32_text (length bytes) ++ bytes

-- a datagram: its address, the count of its bytes, and the bytes
abbrev pub datagram_text : Datagram → List ℕ
datagram_text datagram = address_text datagram.to ++ bytes_text datagram.bytes

-- a record: the event, the answer, the reply with its length, and the datagrams with their count
unfoldable pub record_text : Event → Answer → List ℕ → List Datagram → List ℕ
record_text event answer reply datagrams =
    event_text event ++ (answer_text answer ++ (bytes_text reply ++ list_text datagram_text datagrams))
