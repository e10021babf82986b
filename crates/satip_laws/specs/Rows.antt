-- Worked examples of the definitions of this crate.
use Rattle.std.specs.Prelude.{ℕ, Bool, false, List, map}
use Rattle.satip_base.specs.Lists.{Each}
use Rattle.satip_ts.specs.Packet.{pid_of}
use Rattle.satip_plain.specs.Types.{SessionId}
use Rattle.satip_plain.specs.declared.setting.Setting.{Setting}
use Rattle.satip_plain.specs.declared.events.Event.{Event}
use Rattle.satip_plain.specs.declared.events.Event.TheVariants.{Request as Asked}
use Rattle.satip_plain.specs.Refusals.{front_missing}
use Rattle.satip_plain.specs.Steps.{step}
use Rattle.satip_plain.specs.Histories.{Item, Legal}
use Rattle.satip_plain.specs.Values.{IsEvent}
use Rattle.satip_plain.specs.Readings.{Readings, outlook_in, readings}
use Rattle.satip_plain.specs.Examples.{config, run, state_last, entry_of, id_of}
use Rattle.satip_laws.specs.Given.{given}
use Rattle.satip_laws.specs.Ownership.{is_asked_by_owner}
use Rattle.satip_laws.specs.Busy.{home_meant}
use Rattle.satip_laws.specs.Ending.{is_ended_by}

abbrev pub setting : Setting
setting = record { config = config; start = 0 }

abbrev pub entries : List Event → List Item
entries es = map entry_of (run es)

abbrev pub told : List Event → Readings
told es = readings setting (entries es)

-- the PIDs of the packets that a session was given
abbrev pub given_pids : List Event → SessionId → List ℕ
given_pids es s = map pid_of (given setting (entries es) s)

-- the entry of one more event
abbrev pub one_more : List Event → Event → Item
one_more es e = let st = state_last (run es) in entry_of (record { met = st; event = e; outcome = step config st e })

abbrev pub ends_session : List Event → Event → SessionId → Bool
ends_session es e s = is_ended_by config (told es) (one_more es e) s

abbrev pub asks_as_owner : List Event → Event → SessionId → Bool
asks_as_owner es e home = is_asked_by_owner (told es) (one_more es e) home

-- the stream of a request, and whether no front end is available for it
abbrev pub is_about : List Event → Event → SessionId
is_about es (Asked peer draw r) = home_meant (told es) draw r
is_about es _ = id_of 0 0

abbrev pub finds_none : List Event → Event → Bool
finds_none es (Asked peer draw r) =
    let g = told es in
    let home = home_meant g draw r in
    front_missing config (outlook_in config g home) (g.tuned home) r.query.change
finds_none es _ = false

-- the entries of a run are a legal history, if the values of its events are within their types
abbrev pub RunsAreLegal : Type 0
RunsAreLegal = (es : List Event) → Each IsEvent es → Legal setting (entries es)
