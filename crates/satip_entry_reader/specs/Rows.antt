-- Records whose bytes were worked out by hand.
use Rattle.std.specs.Prelude.{◌≡◌, ℕ, List, [], ◌∷◌, Some, None}
use Rattle.satip_plain.specs.declared.events.Event.TheVariants.{Tick, Stop}
use Rattle.satip_entry_writer.specs.Rows.{setup_event}
use Rattle.satip_entry_reader.specs.ReadingLists.{pid_read, pid_list_read}
use Rattle.satip_entry_reader.specs.ReadingEvents.{event_read}

abbrev pub setup_bytes : List ℕ
setup_bytes =
    0 ∷ 10 ∷ 0 ∷ 0 ∷ 2 ∷ 1 ∷ 2 ∷ 3 ∷ 4 ∷ 5 ∷ 6 ∷ 7 ∷ 8 ∷ 9 ∷ 10 ∷ 1 ∷ 0 ∷ 0 ∷ 0 ∷ 2 ∷ 0 ∷ 2 ∷ 1 ∷ 0 ∷ 7 ∷ 1 ∷ 0 ∷ 0 ∷ 0 ∷ 3 ∷ 0 ∷ 0 ∷ 0 ∷ 4 ∷ 0 ∷ 1 ∷ 1 ∷ 1 ∷ 0 ∷ 175 ∷ 98 ∷ 112 ∷ 1 ∷ 2 ∷ 1 ∷ 2 ∷ 1 ∷ 1 ∷ 1 ∷ 1 ∷ 1 ∷ 1 ∷ 1 ∷ 0 ∷ 0 ∷ 85 ∷ 240 ∷ 1 ∷ 8 ∷ 3 ∷ 0 ∷ 2 ∷ 0 ∷ 0 ∷ 0 ∷ 16 ∷ 1 ∷ 0 ∷ 2 ∷ 31 ∷ 255 ∷ 31 ∷ 255 ∷ 0 ∷ 1 ∷ 19 ∷ 136 ∷ 19 ∷ 137 ∷ []

abbrev pub StopIsRead : Type 0
StopIsRead = event_read (8 ∷ 2 ∷ 1 ∷ []) ≡ Some (Stop, 2 ∷ 1 ∷ [])

abbrev pub TickIsRead : Type 0
TickIsRead = event_read (2 ∷ 0 ∷ 0 ∷ 0 ∷ 0 ∷ 0 ∷ 0 ∷ 0 ∷ 10 ∷ 2 ∷ []) ≡ Some (Tick 10, 2 ∷ [])

-- a SETUP with a session, most fields of a tuning, two lists of PIDs and ports
abbrev pub SetupIsRead : Type 0
SetupIsRead = event_read setup_bytes ≡ Some (setup_event, [])

-- a PID has 13 bits
abbrev pub LargePidIsNone : Type 0
LargePidIsNone = pid_read (32 ∷ 0 ∷ []) ≡ None

-- the list of two PIDs, of which only one is there
abbrev pub ShortListIsNone : Type 0
ShortListIsNone = pid_list_read (0 ∷ 2 ∷ 0 ∷ 16 ∷ []) ≡ None

-- the place of a tenth kind of event
abbrev pub TenthKindIsNone : Type 0
TenthKindIsNone = event_read (9 ∷ []) ≡ None
