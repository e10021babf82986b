-- Events are read again.
use Rattle.std.proofs.Common.{◌≡◌, ◌++◌, append_assoc, Some, refl, subst}
use Rattle.satip_plain.specs.declared.events.Event.TheVariants.{Request as Asked, Get as Got, Tick, Packet, Ended, Ask, Pull, Close, Stop}
use Rattle.satip_plain.specs.Values.{IsEvent, IsPacketOfBytes}
use Rattle.satip_entry_writer.specs.Fields.{u8_text, u16_text, u32_text, u64_text, id_text, draw_text}
use Rattle.satip_entry_writer.specs.Requests.{http_request_text, request_text}
use Rattle.satip_entry_writer.specs.Records.{event_text}
use Rattle.satip_entry_reader.specs.Reading.{ReadsAgain}
use Rattle.satip_entry_reader.proofs.ValuesAgain.{draw_again, id_again, u16_again, u32_again, u64_again}
use Rattle.satip_entry_reader.specs.ReadingLists.{read_bytes}
use Rattle.satip_entry_reader.specs.ReadingEvents.{ask_read, asked_read, close_read, ended_read, event_read, got_read, packet_read, pull_read, taken_read, tick_read}
use Rattle.satip_entry_reader.proofs.ListsAgain.{bytes_again}
use Rattle.satip_entry_reader.proofs.Again.{http_request_again, place_again, request_again}

packet_again : ReadsAgain IsPacketOfBytes (λ packet. packet) packet_read
unfolding packet_read
packet_again packet rest h =
    rw (subst (λ n. read_bytes n (packet ++ rest) ≡ Some (packet, rest)) h.packet_is.whole (bytes_again packet rest), h.packet_is.synchronized) refl

pub event_again : ReadsAgain IsEvent event_text event_read
unfolding event_read event_text asked_read got_read tick_read taken_read ended_read ask_read pull_read close_read
event_again (Asked peer draw r) rest h =
    rw (
      append_assoc (u8_text 0) (u32_text peer.ip ++ (draw_text draw ++ request_text r)) rest,
      append_assoc (u32_text peer.ip) (draw_text draw ++ request_text r) rest,
      append_assoc (draw_text draw) (request_text r) rest,
      place_again 0 (u32_text peer.ip ++ (draw_text draw ++ (request_text r ++ rest))),
      u32_again peer.ip (draw_text draw ++ (request_text r ++ rest)) h.0,
      draw_again draw (request_text r ++ rest) h.1,
      request_again r rest h.2,
    ) refl
event_again (Got peer draw r) rest h =
    rw (
      append_assoc (u8_text 1) (u32_text peer.ip ++ (draw_text draw ++ http_request_text r)) rest,
      append_assoc (u32_text peer.ip) (draw_text draw ++ http_request_text r) rest,
      append_assoc (draw_text draw) (http_request_text r) rest,
      place_again 1 (u32_text peer.ip ++ (draw_text draw ++ (http_request_text r ++ rest))),
      u32_again peer.ip (draw_text draw ++ (http_request_text r ++ rest)) h.0,
      draw_again draw (http_request_text r ++ rest) h.1,
      http_request_again r rest h.2,
    ) refl
event_again (Tick now) rest h =
    rw (append_assoc (u8_text 2) (u64_text now) rest, place_again 2 (u64_text now ++ rest), u64_again now rest h) refl
event_again (Packet front tune packet) rest h =
    rw (
      append_assoc (u8_text 3) (u16_text front ++ (u64_text tune ++ packet)) rest,
      append_assoc (u16_text front) (u64_text tune ++ packet) rest,
      append_assoc (u64_text tune) packet rest,
      place_again 3 (u16_text front ++ (u64_text tune ++ (packet ++ rest))),
      u16_again front (u64_text tune ++ (packet ++ rest)) h.0,
      u64_again tune (packet ++ rest) h.1,
      packet_again packet rest h.2,
    ) refl
event_again (Ended front tune) rest h =
    rw (
      append_assoc (u8_text 4) (u16_text front ++ u64_text tune) rest,
      append_assoc (u16_text front) (u64_text tune) rest,
      place_again 4 (u16_text front ++ (u64_text tune ++ rest)),
      u16_again front (u64_text tune ++ rest) h.0,
      u64_again tune rest h.1,
    ) refl
event_again (Ask front) rest h =
    rw (append_assoc (u8_text 5) (u16_text front) rest, place_again 5 (u16_text front ++ rest), u16_again front rest h) refl
event_again (Pull id) rest h =
    rw (append_assoc (u8_text 6) (id_text id) rest, place_again 6 (id_text id ++ rest), id_again id rest h) refl
event_again (Close id) rest h =
    rw (append_assoc (u8_text 7) (id_text id) rest, place_again 7 (id_text id ++ rest), id_again id rest h) refl
event_again Stop rest h = rw (place_again 8 rest) refl
