-- Replies whose transport has channels instead of UDP ports.
use Rattle.std.specs.Prelude.{◌≡◌, ℕ, ◌-◌, ◌<◌, List, [], ◌∷◌, ◌++◌, length, drop, take, codes, decimal, Option, Some, None, option_and_then, nat_eq, Bool, if◌then◌else◌}
use Rattle.std.specs.List.{after_first, before_first, ends_with, join_with_byte, slice_split}
use Rattle.std.specs.Option.{option_map_or}
use Rattle.std.specs.Str.{bytes_eq}
use Rattle.satip_base.specs.declared.network.Ports.{Ports}
use Rattle.satip_tune.specs.Pieces.{is_byte}
use Rattle.satip_rtsp.specs.Targets.{is_begun_with}
use Rattle.satip_rtsp.specs.Transports.{both_ports, port_at_most}

-- the start of a line that has UDP ports
abbrev pub ports_name : List ℕ
ports_name = codes "Transport: RTP/AVP;unicast;client_port="

-- the ports p and q of `p-q`, neither of them 0
abbrev pub ports_beside : List ℕ → Option Ports
ports_beside text = both_ports (port_at_most 65535 (before_first (is_byte 45) text)) (port_at_most 65535 (after_first (is_byte 45) text))

-- a line without the carriage return at its end, if it ends in one
abbrev pub before_return : List ℕ → Option (List ℕ)
before_return line = if ends_with nat_eq line (13 ∷ []) then Some (take (length line - 1) line) else None

-- the rest of a line after the start that announces UDP ports, if it begins so
abbrev pub after_ports_name : List ℕ → Option (List ℕ)
after_ports_name line = if is_begun_with ports_name line then Some (drop 39 line) else None

-- the UDP ports of a line, which ends with its carriage return
unfoldable pub told_ports : List ℕ → Option Ports
told_ports line = option_and_then ports_beside (option_and_then before_return (after_ports_name line))

-- the line of these channels, without its line feed
unfoldable pub channel_line : Ports → List ℕ
channel_line ports =
    codes "Transport: RTP/AVP/TCP;unicast;interleaved=" ++ decimal (ports.rtp - 1) ++ codes "-" ++ decimal (ports.rtcp - 1) ++ 13 ∷ []

-- a line with channels instead of its ports, if it has ports; any other as it is
abbrev pub turned_line : List ℕ → List ℕ
turned_line line = option_map_or channel_line (told_ports line) line

-- the line that ends a head, without its line feed
abbrev pub is_empty_line : List ℕ → Bool
is_empty_line line = bytes_eq line (13 ∷ [])

-- the lines of a head turned, and those after its empty line as they are; the last piece, after the last line feed, is no line
abbrev pub turned_lines : List (List ℕ) → List (List ℕ)
turned_lines [] = []
turned_lines (last ∷ []) = last ∷ []
turned_lines (line ∷ next ∷ others) = if is_empty_line line then line ∷ next ∷ others else turned_line line ∷ turned_lines (next ∷ others)

-- a reply with channels instead of UDP ports
unfoldable pub turned : List ℕ → List ℕ
turned reply = join_with_byte 10 (turned_lines (slice_split (is_byte 10) reply))

-- the first line of a text without its line feed, and the text after it
pub record IsFirstLine (text line rest : List ℕ) : Type 0 where
  pub pieces : slice_split (is_byte 10) text ≡ line ∷ slice_split (is_byte 10) rest
  pub shorter : length rest < length text

-- a text without a line feed is one piece
pub record HasNoLine (text : List ℕ) : Type 0 where
  pub piece : List ℕ
  pub pieces : slice_split (is_byte 10) text ≡ piece ∷ []
