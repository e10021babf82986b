-- The ports that a Transport header asks for (RFC 2326, 12.39).
use Rattle.std.specs.Prelude.{ℕ, ◌==◌, ◌||◌, ◌&&◌, ◌+◌, Bool, List, [], ◌∷◌, drop, map, find, codes, Option, Some, None, option_map, option_and_then, if◌then◌else◌}
use Rattle.std.specs.List.{after_first, before_first, list_any, slice_split}
use Rattle.std.specs.Str.{str_eq_ignore_ascii_case}
use Rattle.satip_base.specs.Numbers.{number_of}
use Rattle.satip_base.specs.declared.network.Ports.{Ports}
use Rattle.satip_tune.specs.Pieces.{is_byte}
use Rattle.satip_rtsp.specs.Blanks.{text_trimmed}
use Rattle.satip_frame.specs.Origins.{is_begun_like}

-- a port from 1 to `most`
abbrev pub port_at_most : ℕ → List ℕ → Option ℕ
port_at_most most text = option_and_then (λ n. if n == 0 then None else Some n) (number_of most text)

-- the two ports, if both are given
abbrev pub both_ports : Option ℕ → Option ℕ → Option Ports
both_ports (Some rtp) (Some rtcp) = Some (record { rtp = rtp; rtcp = rtcp })
both_ports a b = None

-- the port of a text, and the next port
abbrev pub ports_beginning : List ℕ → Option Ports
ports_beginning text = option_map (λ n. record { rtp = n; rtcp = n + 1 }) (port_at_most 65534 text)

-- the ports of a text: two with a dash between them, or the first alone
unfoldable pub ports_text : List ℕ → Option Ports
ports_text text =
    if list_any (is_byte 45) text
    then both_ports (port_at_most 65535 (before_first (is_byte 45) text)) (port_at_most 65535 (after_first (is_byte 45) text))
    else ports_beginning text

-- whether a parameter is RTP over UDP
unfoldable pub is_rtp_text : List ℕ → Bool
is_rtp_text parameter =
    str_eq_ignore_ascii_case (text_trimmed parameter) (codes "RTP/AVP") || str_eq_ignore_ascii_case (text_trimmed parameter) (codes "RTP/AVP/UDP")

-- whether a parameter is `unicast`
unfoldable pub is_unicast_text : List ℕ → Bool
is_unicast_text parameter = str_eq_ignore_ascii_case (text_trimmed parameter) (codes "unicast")

-- whether a parameter gives the client's ports
unfoldable pub is_port_text : List ℕ → Bool
is_port_text parameter = is_begun_like (codes "client_port=") (text_trimmed parameter)

-- the ports of the first parameter that gives any
abbrev pub ports_first : List (List ℕ) → Option Ports
ports_first parameters = option_and_then (λ parameter. ports_text (drop 12 (text_trimmed parameter))) (find is_port_text parameters)

-- the parameters of a transport, which `;` separates
abbrev pub parameters : List ℕ → List (List ℕ)
parameters transport = slice_split (is_byte 59) transport

-- the ports of a transport that is acceptable: RTP over UDP, unicast, with ports
unfoldable pub ports_by : List ℕ → Option Ports
ports_by transport =
    if is_rtp_text (before_first (is_byte 59) transport) && list_any is_unicast_text (parameters transport)
    then ports_first (parameters transport)
    else None

-- the first ports that are given
abbrev pub first_of : List (Option Ports) → Option Ports
first_of [] = None
first_of (None ∷ others) = first_of others
first_of (Some ports ∷ others) = Some ports

-- the ports of the first acceptable transport of a header's value
unfoldable pub ports_accepted : List ℕ → Option Ports
ports_accepted value = first_of (map ports_by (slice_split (is_byte 44) value))
