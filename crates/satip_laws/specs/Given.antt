-- The packets that a session is given: those that arrive while it plays, whether or not its queue has room for them.
use Rattle.std.specs.Prelude.{ℕ, ◌&&◌, Bool, false, List, [], ◌∷◌, ◌++◌, if◌then◌else◌}
use Rattle.std.specs.List.{list_any}
use Rattle.satip_plain.specs.Types.{SessionId, Config}
use Rattle.satip_plain.specs.declared.events.Event.{Event}
use Rattle.satip_plain.specs.declared.events.Event.TheVariants.{Packet}
use Rattle.satip_plain.specs.declared.setting.Setting.{Setting}
use Rattle.satip_plain.specs.State.{State, same_id, served_by}
use Rattle.satip_plain.specs.Steps.{step, is_current, picks}
use Rattle.satip_plain.specs.Histories.{Item, opening}

-- whether the event is a packet that this living session is given, whether or not its queue is full
abbrev pub gives_to : State → Event → SessionId → Bool
gives_to st (Packet front tune packet) s =
    is_current st front tune
    && list_any (λ t. list_any (λ x. same_id x.id s && picks t packet x) st.sessions) (served_by st front)
gives_to st _ s = false

-- the packet of an event, if it is one
abbrev pub packet_of : Event → List (List ℕ)
packet_of (Packet front tune packet) = packet ∷ []
packet_of _ = []

-- the packet if it is given, else nothing
abbrev pub given_in : State → Event → SessionId → List (List ℕ)
given_in st e s = if gives_to st e s then packet_of e else []

-- the packets that all the entries give it, in order
abbrev pub given_from : Config → State → List Item → SessionId → List (List ℕ)
given_from c st [] s = []
given_from c st (e ∷ es) s = given_in st e.event s ++ given_from c (step c st e.event).state es s

-- the packets that a history gives the session, in order
abbrev pub given : Setting → List Item → SessionId → List (List ℕ)
given c h s = given_from c.config (opening c) h s
