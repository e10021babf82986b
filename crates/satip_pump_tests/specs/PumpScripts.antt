-- The service of the tests.
use Rattle.std.specs.Prelude.{ℕ, ◌==◌, if◌then◌else◌, Bool, true, false, List, [], ◌∷◌, length, Option, Some, None}
use Rattle.satip_base.specs.Output.{Output, empty}
use Rattle.satip_base.specs.History.{entry}
use Rattle.satip_plain.specs.declared.answers.Answer.{Answer}
use Rattle.satip_plain.specs.declared.events.Event.{Event}
use Rattle.satip_plain.specs.declared.events.Event.TheVariants.{Packet, Ended, Ask, Tick}
use Rattle.satip_plain.specs.declared.setting.Setting.{Setting}
use Rattle.satip_plain.specs.Histories.{Item}
use Rattle.satip_plain.specs.Known.{Known}

abbrev pub test_setting : Setting
test_setting = record {
  config = record { address = 0; rtsp_port = 0; http_port = 0; timeout = 0; workers = 0; fronts = []; muxes = []; files = [] };
  start = 0;
}

-- the events of pumps and of a ticker
abbrev pub AsksOrTicks : Event → Type 0
AsksOrTicks (Packet front tune packet) = Unit {0}
AsksOrTicks (Ended front tune) = Unit {0}
AsksOrTicks (Ask front) = Unit {0}
AsksOrTicks (Tick now) = Unit {0}
AsksOrTicks _ = ⊥

-- what an event writes: nothing, or one datagram without bytes
abbrev pub out_of : Bool → Output
out_of false = empty
out_of true = record empty { datagrams = record { to = record { ip = 2130706433; port = 1400 }; bytes = [] } ∷ []; count_spare = 255 }

-- an event by its kind
abbrev pub event_of : ℕ → ℕ → ℕ → Option (List ℕ) → Event
event_of kind front number (Some packet) = Packet front number packet
event_of kind front number None = if kind == 0 then Ask front else (if kind == 1 then Ended front number else Tick number)

-- an entry of the one caller
abbrev pub item_of : ℕ → ℕ → ℕ → Option (List ℕ) → Answer → Bool → Item
item_of kind front number packet answer sends = entry 0 (event_of kind front number packet) answer (out_of sends)

-- what the caller of all entries knows
abbrev pub known_of : List Item → Known
known_of h = record { seen = h; own = h; length = length h }
