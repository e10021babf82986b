-- The channels that a Transport header asks for (RFC 2326, 10.12 and 12.39), as ports: channel c is port c + 1.
use Rattle.std.specs.Prelude.{ℕ, ◌==◌, ◌+◌, Bool, List, drop, map, find, codes, Option, Some, None, option_map, option_and_then, if◌then◌else◌}
use Rattle.std.specs.List.{after_first, before_first, list_any, slice_split}
use Rattle.std.specs.Str.{str_eq_ignore_ascii_case}
use Rattle.satip_base.specs.Numbers.{number_of}
use Rattle.satip_base.specs.declared.network.Ports.{Ports}
use Rattle.satip_tune.specs.Pieces.{is_byte}
use Rattle.satip_rtsp.specs.Blanks.{text_trimmed}
use Rattle.satip_frame.specs.Origins.{is_begun_like}
use Rattle.satip_rtsp.specs.Transports.{first_of, parameters}

-- two channels, if they are different
abbrev pub both_channels : Option ℕ → Option ℕ → Option Ports
both_channels (Some a) (Some b) = if a == b then None else Some (record { rtp = a + 1; rtcp = b + 1 })
both_channels a b = None

-- the channel of a text, and the next one
abbrev pub channels_beginning : List ℕ → Option Ports
channels_beginning text = option_map (λ a. record { rtp = a + 1; rtcp = a + 2 }) (number_of 254 text)

-- the channels of a text: two with a dash between them, or the first alone
unfoldable pub channels_text : List ℕ → Option Ports
channels_text text =
    if list_any (is_byte 45) text
    then both_channels (number_of 255 (before_first (is_byte 45) text)) (number_of 255 (after_first (is_byte 45) text))
    else channels_beginning text

-- whether a parameter is RTP over TCP
unfoldable pub is_tcp_text : List ℕ → Bool
is_tcp_text parameter = str_eq_ignore_ascii_case (text_trimmed parameter) (codes "RTP/AVP/TCP")

-- whether a parameter gives the channels
unfoldable pub is_channel_text : List ℕ → Bool
is_channel_text parameter = is_begun_like (codes "interleaved=") (text_trimmed parameter)

-- the channels of the first parameter that gives any
abbrev pub channels_first : List (List ℕ) → Option Ports
channels_first parameters = option_and_then (λ parameter. channels_text (drop 12 (text_trimmed parameter))) (find is_channel_text parameters)

-- the channels of a transport that is acceptable: RTP over TCP, with channels
unfoldable pub channels_by : List ℕ → Option Ports
channels_by transport = if is_tcp_text (before_first (is_byte 59) transport) then channels_first (parameters transport) else None

-- the channels of the first acceptable transport of a header's value
unfoldable pub interleaved_by : List ℕ → Option Ports
interleaved_by value = first_of (map channels_by (slice_split (is_byte 44) value))
