-- The packets that HTTP sessions take from their queues.
use Rattle.std.specs.Prelude.{ℕ, List, [], ◌∷◌, ◌++◌, take, if◌then◌else◌}
use Rattle.std.specs.Option.{option_map_or}
use Rattle.satip_plain.specs.declared.events.Event.{Event}
use Rattle.satip_plain.specs.declared.events.Event.TheVariants.{Pull}
use Rattle.satip_plain.specs.Types.{SessionId, Config}
use Rattle.satip_plain.specs.declared.setting.Setting.{Setting}
use Rattle.satip_plain.specs.State.{State, same_id, http_session, held}
use Rattle.satip_plain.specs.Steps.{step, most_pulled}
use Rattle.satip_plain.specs.Histories.{Item, opening}

-- the packets that a pull of the session moves out of its queue
abbrev pub taken_in : State → Event → SessionId → List (List ℕ)
taken_in st (Pull id) s = if same_id id s then option_map_or (λ x. take most_pulled (held x)) (http_session st id) [] else []
taken_in st _ s = []

abbrev pub taken_from : Config → State → List Item → SessionId → List (List ℕ)
taken_from c st [] s = []
taken_from c st (e ∷ es) s = taken_in st e.event s ++ taken_from c (step c st e.event).state es s

-- the packets that the session's pulls took, in order
abbrev pub taken : Setting → List Item → SessionId → List (List ℕ)
taken c h s = taken_from c.config (opening c) h s
