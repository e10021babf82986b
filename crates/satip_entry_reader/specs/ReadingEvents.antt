-- Reading events from the front of some bytes.
use Rattle.std.specs.Prelude.{ℕ, ◌==◌, if◌then◌else◌, List, slice_index, Option, Some, None}
use Rattle.satip_plain.specs.declared.events.Event.{Event}
use Rattle.satip_plain.specs.declared.events.Event.TheVariants.{Request as Asked, Get as Got, Tick, Packet, Ended, Ask, Pull, Close, Stop}
use Rattle.satip_entry_reader.specs.Reading.{then_read, u8_read, u16_read, u32_read, u64_read, id_read, draw_read}
use Rattle.satip_entry_reader.specs.ReadingLists.{read_bytes}
use Rattle.satip_entry_reader.specs.ReadingRequests.{http_request_read, request_read}

-- 188 bytes, of which the first is the sync byte 0x47
unfoldable pub packet_read : List ℕ → Option (List ℕ × List ℕ)
packet_read bytes = then_read (read_bytes 188 bytes) (λ packet rest. if slice_index packet 0 == 71 then Some (packet, rest) else None)

-- the fields after the place of each variant
unfoldable pub asked_read : List ℕ → Option (Event × List ℕ)
asked_read bytes =
    then_read (u32_read bytes) (λ ip after_ip.
    then_read (draw_read after_ip) (λ draw after_draw.
    then_read (request_read after_draw) (λ request more. Some (Asked (record { ip = ip }) draw request, more))))

unfoldable pub got_read : List ℕ → Option (Event × List ℕ)
got_read bytes =
    then_read (u32_read bytes) (λ ip after_ip.
    then_read (draw_read after_ip) (λ draw after_draw.
    then_read (http_request_read after_draw) (λ request more. Some (Got (record { ip = ip }) draw request, more))))

unfoldable pub tick_read : List ℕ → Option (Event × List ℕ)
tick_read bytes = then_read (u64_read bytes) (λ now more. Some (Tick now, more))

unfoldable pub taken_read : List ℕ → Option (Event × List ℕ)
taken_read bytes =
    then_read (u16_read bytes) (λ front after_front.
    then_read (u64_read after_front) (λ tune after_tune.
    then_read (packet_read after_tune) (λ packet more. Some (Packet front tune packet, more))))

unfoldable pub ended_read : List ℕ → Option (Event × List ℕ)
ended_read bytes =
    then_read (u16_read bytes) (λ front after_front.
    then_read (u64_read after_front) (λ tune more. Some (Ended front tune, more)))

unfoldable pub ask_read : List ℕ → Option (Event × List ℕ)
ask_read bytes = then_read (u16_read bytes) (λ front more. Some (Ask front, more))

unfoldable pub pull_read : List ℕ → Option (Event × List ℕ)
pull_read bytes = then_read (id_read bytes) (λ id more. Some (Pull id, more))

unfoldable pub close_read : List ℕ → Option (Event × List ℕ)
close_read bytes = then_read (id_read bytes) (λ id more. Some (Close id, more))

abbrev pub event_behind : ℕ → List ℕ → Option (Event × List ℕ)
event_behind place rest =
    if place == 0 then asked_read rest
    else if place == 1 then got_read rest
    else if place == 2 then tick_read rest
    else if place == 3 then taken_read rest
    else if place == 4 then ended_read rest
    else if place == 5 then ask_read rest
    else if place == 6 then pull_read rest
    else if place == 7 then close_read rest
    else if place == 8 then Some (Stop, rest)
    else None

unfoldable pub event_read : List ℕ → Option (Event × List ℕ)
event_read bytes = then_read (u8_read bytes) event_behind
