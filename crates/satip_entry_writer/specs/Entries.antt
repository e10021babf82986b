-- Entries whose values are of their types.
use Rattle.std.specs.Prelude.{ℕ, ◌≤◌, ◌<◌, ◌^◌, List, length}
use Rattle.satip_base.specs.declared.limits.TheConstants.{REPLY_BYTES, EVENT_BYTES, EVENT_DATAGRAMS}
use Rattle.satip_base.specs.Lists.{Each}
use Rattle.satip_base.specs.Output.{Datagram, datagram_bytes}
use Rattle.satip_plain.specs.declared.answers.Answer.{Answer}
use Rattle.satip_plain.specs.declared.answers.Answer.TheVariants.{Replied as RepliedIs, Get as GetIs, Beat as BeatIs, Work as WorkIs, Pulled as PulledIs, Closed as ClosedIs}
use Rattle.satip_plain.specs.declared.answers.Replied.{Replied}
use Rattle.satip_plain.specs.declared.answers.GetAnswer.{GetAnswer}
use Rattle.satip_plain.specs.declared.answers.GetAnswer.TheVariants.{Started, Refused}
use Rattle.satip_plain.specs.declared.answers.Work.{Work}
use Rattle.satip_plain.specs.declared.answers.Work.TheVariants.{Tune, Nothing, Stopping}
use Rattle.satip_plain.specs.declared.answers.Pulled.{Pulled}
use Rattle.satip_plain.specs.declared.answers.Pulled.TheVariants.{Bytes, Empty, Gone as PulledGone}
use Rattle.satip_plain.specs.declared.events.Event.{Event}
use Rattle.satip_plain.specs.Histories.{Item}
use Rattle.satip_plain.specs.Values.{AreBytes, IsEvent, IsId}
use Rattle.satip_entry_writer.specs.Records.{record_text}

-- the numbers of an answer are within their types
abbrev pub IsReplied : Replied → Type 0
IsReplied replied = replied.status < 2 ^ 16

abbrev pub IsGet : GetAnswer → Type 0
IsGet (Started id) = IsId id
IsGet (Refused status) = status < 2 ^ 16

abbrev pub IsWork : Work → Type 0
IsWork (Tune mux tune) = (mux < 2 ^ 16) × (tune < 2 ^ 64)
IsWork Nothing = Unit {0}
IsWork Stopping = Unit {0}

abbrev pub IsPulled : Pulled → Type 0
IsPulled (Bytes count) = count < 2 ^ 64
IsPulled Empty = Unit {0}
IsPulled PulledGone = Unit {0}

abbrev pub IsAnswer : Answer → Type 0
IsAnswer (RepliedIs replied) = IsReplied replied
IsAnswer (GetIs get) = IsGet get
IsAnswer (BeatIs beat) = Unit {0}
IsAnswer (WorkIs work) = IsWork work
IsAnswer (PulledIs pulled) = IsPulled pulled
IsAnswer (ClosedIs closed) = Unit {0}

-- the content of a record
pub record Entry : Type 0 where
  pub event : Event
  pub answer : Answer
  pub reply : List ℕ
  pub datagrams : List Datagram

-- the bytes of an entry's record
abbrev pub entry_text : Entry → List ℕ
entry_text e = record_text e.event e.answer e.reply e.datagrams

pub record IsTarget (datagram : Datagram) : Type 0 where
  pub ip : datagram.to.ip < 2 ^ 32
  pub port : datagram.to.port < 2 ^ 16

-- its numbers are within their types, and its reply and its datagrams fit the room of one event
pub record IsEntry (e : Entry) : Type 0 where
  pub event : IsEvent e.event
  pub answer : IsAnswer e.answer
  pub reply : length e.reply ≤ REPLY_BYTES
  pub targets : Each IsTarget e.datagrams
  pub count : length e.datagrams ≤ EVENT_DATAGRAMS
  pub bytes : datagram_bytes e.datagrams ≤ EVENT_BYTES

-- the content of an entry's record
abbrev pub told : Item → Entry
told e = record { event = e.event; answer = e.answer; reply = e.out.reply; datagrams = e.out.datagrams }

-- a datagram's bytes are below 256
abbrev pub IsOfBytes : Datagram → Type 0
IsOfBytes datagram = AreBytes datagram.bytes

-- its numbers are within their types, its reply and its datagrams fit the room of one event, and they are of bytes
pub record IsTyped (e : Item) : Type 0 where
  pub entry : IsEntry (told e)
  pub reply : AreBytes e.out.reply
  pub datagrams : Each IsOfBytes e.out.datagrams
