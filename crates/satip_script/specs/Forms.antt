-- The form of a line, by its words: an event, or a text of bytes that is for the server.
use Rattle.std.specs.Prelude.{ℕ, List, [], ◌∷◌, Option, None, Some, option_map, codes, if◌then◌else◌}
use Rattle.std.specs.Str.{bytes_eq}
use Rattle.satip_base.specs.Numbers.{number_of, ip_of}
use Rattle.satip_base.specs.Texts.{id_of}
use Rattle.satip_plain.specs.declared.events.Event.{Event}
use Rattle.satip_plain.specs.declared.events.Event.TheVariants.{Tick, Packet, Ended, Ask, Pull, Close, Stop}
use Rattle.satip_plain.specs.Types.{Draw, Peer}
use Rattle.satip_script.specs.Lines.{one_word_of, two_words_of, three_words_of}
use Rattle.satip_ts.specs.Digits.{bytes_of, packet_of}
use Rattle.satip_script.specs.Parts.{greatest, draw_of}

-- a text of bytes, with its sender and the draw that goes with it
pub record Call : Type 0 where
  pub peer : Peer
  pub draw : Draw
  pub text : List ℕ

-- a text over RTSP, a text over HTTP, or an event that has none
pub data Form : Type 0 where
  Rtsp : Call → Form
  Http : Call → Form
  Other : Event → Form

-- the call, if all three words are right
abbrev pub call_from : Option ℕ → Option Draw → Option (List ℕ) → Option Call
call_from (Some ip) (Some draw) (Some text) = Some (record { peer = record { ip = ip }; draw = draw; text = text })
call_from ip draw text = None

-- the call in the words PEER DRAW HEX
abbrev pub call_by : Option (List ℕ × List ℕ × List ℕ) → Option Call
call_by None = None
call_by (Some words) = call_from (ip_of words.0) (draw_of words.1) (bytes_of words.2)

-- the event of the word NOW
abbrev pub tick_by : Option (List ℕ) → Option Event
tick_by None = None
tick_by (Some now) = option_map Tick (number_of greatest now)

-- the event of a packet, if all three words are right
abbrev pub packet_event : Option ℕ → Option ℕ → Option (List ℕ) → Option Event
packet_event (Some front) (Some tune) (Some packet) = Some (Packet front tune packet)
packet_event front tune packet = None

-- the event of the words FRONT TUNE HEX
abbrev pub packet_by : Option (List ℕ × List ℕ × List ℕ) → Option Event
packet_by None = None
packet_by (Some words) = packet_event (number_of 65535 words.0) (number_of greatest words.1) (packet_of words.2)

-- the event of a recording's end, if both words are right
abbrev pub ended_event : Option ℕ → Option ℕ → Option Event
ended_event (Some front) (Some tune) = Some (Ended front tune)
ended_event front tune = None

-- the event of the words FRONT TUNE
abbrev pub ended_by : Option (List ℕ × List ℕ) → Option Event
ended_by None = None
ended_by (Some words) = ended_event (number_of 65535 words.0) (number_of greatest words.1)

-- the event of the word FRONT
abbrev pub ask_by : Option (List ℕ) → Option Event
ask_by None = None
ask_by (Some front) = option_map Ask (number_of 65535 front)

-- the event of the word SESSION
abbrev pub pull_by : Option (List ℕ) → Option Event
pull_by None = None
pull_by (Some session) = option_map Pull (id_of session)

-- the event of the word SESSION
abbrev pub close_by : Option (List ℕ) → Option Event
close_by None = None
close_by (Some session) = option_map Close (id_of session)

-- the event of `stop`, which has no other word
abbrev pub stop_by : List (List ℕ) → Option Event
stop_by [] = Some Stop
stop_by (word ∷ words) = None

-- the event of a kind and the words after it
unfoldable pub event_of : List ℕ → List (List ℕ) → Option Event
event_of kind words =
    if bytes_eq kind (codes "tick") then tick_by (one_word_of words)
    else if bytes_eq kind (codes "packet") then packet_by (three_words_of words)
    else if bytes_eq kind (codes "ended") then ended_by (two_words_of words)
    else if bytes_eq kind (codes "ask") then ask_by (one_word_of words)
    else if bytes_eq kind (codes "pull") then pull_by (one_word_of words)
    else if bytes_eq kind (codes "close") then close_by (one_word_of words)
    else if bytes_eq kind (codes "stop") then stop_by words
    else None

-- the form of a kind and the words after it
unfoldable pub form_named : List ℕ → List (List ℕ) → Option Form
form_named kind words =
    if bytes_eq kind (codes "rtsp") then option_map Rtsp (call_by (three_words_of words))
    else if bytes_eq kind (codes "http") then option_map Http (call_by (three_words_of words))
    else option_map Other (event_of kind words)

-- the form of a line of these words
abbrev pub form_of : List (List ℕ) → Option Form
form_of [] = None
form_of (kind ∷ words) = form_named kind words
