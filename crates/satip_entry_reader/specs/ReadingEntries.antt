-- Reading whole entries: an event, an answer, a reply and datagrams.
use Rattle.std.specs.Prelude.{◌≡◌, ℕ, zero, suc, ◌-◌, List, [], ◌∷◌, length, nat_le, if◌then◌else◌, Option, Some, None}
use Rattle.satip_base.specs.declared.network.Address.{Address}
use Rattle.satip_base.specs.declared.limits.TheConstants.{REPLY_BYTES, EVENT_BYTES, EVENT_DATAGRAMS}
use Rattle.satip_base.specs.Output.{Datagram, Output}
use Rattle.satip_plain.specs.declared.events.Event.{Event}
use Rattle.satip_plain.specs.declared.answers.Answer.{Answer}
pub use Rattle.satip_entry_writer.specs.Entries.{Entry, IsEntry, IsTarget, entry_text}
use Rattle.satip_entry_reader.specs.Reading.{then_read, u16_read, u32_read}
use Rattle.satip_entry_reader.specs.ReadingAnswers.{answer_read}
use Rattle.satip_entry_reader.specs.ReadingLists.{read_bytes}
use Rattle.satip_entry_reader.specs.ReadingEvents.{event_read}

-- a count within the room, and that many bytes
unfoldable pub read_counted : ℕ → List ℕ → Option (List ℕ × List ℕ)
read_counted room bytes = then_read (u32_read bytes) (λ count rest. if nat_le count room then read_bytes count rest else None)

unfoldable pub read_address : List ℕ → Option (Address × List ℕ)
read_address bytes =
    then_read (u32_read bytes) (λ ip after_ip.
    then_read (u16_read after_ip) (λ port more. Some (record { ip = ip; port = port }, more)))

-- a datagram whose bytes fit a room
unfoldable pub datagram_read : ℕ → List ℕ → Option (Datagram × List ℕ)
datagram_read room bytes =
    then_read (read_address bytes) (λ to after_to.
    then_read (read_counted room after_to) (λ payload more. Some (record { to = to; bytes = payload }, more)))

-- count datagrams, within a room that they share
unfoldable pub datagrams_read : ℕ → ℕ → List ℕ → Option (List Datagram × List ℕ)
datagrams_read zero room bytes = Some ([], bytes)
datagrams_read (suc count) room bytes =
    then_read (datagram_read room bytes) (λ d rest.
    then_read (datagrams_read count (room - length d.bytes) rest) (λ ds more. Some (d ∷ ds, more)))

-- the count of datagrams, and the datagrams, if they fit the room of one event
unfoldable pub read_datagram_list : List ℕ → Option (List Datagram × List ℕ)
read_datagram_list bytes =
    then_read (u16_read bytes) (λ count rest. if nat_le count EVENT_DATAGRAMS then datagrams_read count EVENT_BYTES rest else None)

-- a whole entry
unfoldable pub entry_read : List ℕ → Option (Entry × List ℕ)
entry_read bytes =
    then_read (event_read bytes) (λ event after_event.
    then_read (answer_read after_event) (λ answer after_answer.
    then_read (read_counted REPLY_BYTES after_answer) (λ reply after_reply.
    then_read (read_datagram_list after_reply) (λ datagrams more. Some (record { event = event; answer = answer; reply = reply; datagrams = datagrams }, more)))))

-- the bytes are no record: no entry has them as its record
abbrev pub IsNoRecord : List ℕ → Type 0
IsNoRecord bytes = (entry : Entry) → IsEntry entry → bytes ≡ entry_text entry → ⊥

-- an entry of the event and the answer that were read, and of the output after them
abbrev pub entry_behind : Event → Option Answer → Output → List ℕ → Option (Entry × List ℕ)
entry_behind event None out rest = None
entry_behind event (Some answer) out rest =
    Some (record { event = event; answer = answer; reply = out.reply; datagrams = out.datagrams }, rest)
