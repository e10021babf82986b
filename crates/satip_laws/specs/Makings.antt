-- The sessions that a history creates, each as it is created.
use Rattle.std.specs.Prelude.{◌≡◌, ◌&&◌, true, false, List, [], ◌∷◌, ◌++◌, map, length, find, Option, Some, None, is_none, unwrap_or, option_to_list, if◌then◌else◌}
use Rattle.std.specs.List.{range_with_len}
use Rattle.satip_plain.specs.declared.events.Event.{Event}
use Rattle.satip_plain.specs.declared.events.Event.TheVariants.{Request as Asked, Get as Got}
use Rattle.satip_plain.specs.Types.{SessionId, Config}
use Rattle.satip_plain.specs.declared.setting.Setting.{Setting}
use Rattle.satip_plain.specs.State.{Session, State}
use Rattle.satip_plain.specs.Refusals.{decide, decide_get, makes_session}
use Rattle.satip_plain.specs.Steps.{step, is_session, new_session, no_ports, setup_number, least_free}
use Rattle.satip_plain.specs.Histories.{Item, opening, after}

-- the session that an event creates: an accepted SETUP that names no session, or an accepted GET
abbrev pub made_by : Config → State → Event → Option Session
made_by c st (Asked peer draw r) =
    if makes_session r && is_none (decide c st r) then Some (new_session st false peer draw (unwrap_or r.ports no_ports) (setup_number r st)) else None
made_by c st (Got peer draw r) =
    if is_none (decide_get c st r) then Some (new_session st true peer draw no_ports (least_free st.streams)) else None
made_by c st _ = None

-- the sessions that these entries create, from this state on
abbrev pub made_from : Config → State → List Item → List Session
made_from c st [] = []
made_from c st (e ∷ es) = option_to_list (made_by c st e.event) ++ made_from c (step c st e.event).state es

-- the sessions that were created, in order of creation
abbrev pub made : Setting → List Item → List Session
made c h = made_from c.config (opening c) h

-- the session of this id, as it was created
abbrev pub made_as : Setting → List Item → SessionId → Option Session
made_as c h s = find (is_session s) (made c h)

-- the living session of this id, if there is one
abbrev pub living : State → SessionId → Option Session
living st s = find (is_session s) st.sessions

-- the n-th session created has the count n
abbrev pub SessionsAreCounted : Type 0
SessionsAreCounted = (c : Setting) (h : List Item) → map (λ x. x.id.count) (made c h) ≡ range_with_len 1 (length (made c h))

-- the fields that a session keeps from its creation on, as long as it lives
pub record IsKept (x y : Session) : Type 0 where
  pub id : y.id ≡ x.id
  pub http : y.http ≡ x.http
  pub stream : y.stream ≡ x.stream
  pub ssrc : y.ssrc ≡ x.ssrc
  pub first : y.first ≡ x.first

-- a living session was created, and keeps its kind, its stream, its SSRC and its first sequence number
abbrev pub LivingAreMade : Type 0
LivingAreMade = (c : Setting) (h : List Item) (s : SessionId) (y : Session) → living (after c h) s ≡ Some y
    → (x : Session) × (made_as c h s ≡ Some x) × IsKept x y
