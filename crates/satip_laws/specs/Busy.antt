-- When a request is refused because no front end is available.
use Rattle.std.specs.Prelude.{ℕ, ◌≡◌, true, List, [], ◌∷◌, ◌++◌, Option, Some, None, option_and_then, unwrap_or}
use Rattle.std.specs.Option.{option_map_or}
use Rattle.satip_pids.specs.Pids.{Only}
use Rattle.satip_tune.specs.Frontends.{mux_for}
use Rattle.satip_fronts.specs.Choice.{blocked}
use Rattle.satip_query.specs.declared.bodies.RefusalBody.TheVariants.{NoMoreFrontends}
use Rattle.satip_rtsp.specs.Replies.{text_reply}
use Rattle.satip_http.specs.Heads.{http_refusal}
use Rattle.satip_plain.specs.Types.{SessionId, Config, Draw, Tuning, Query, Request, HttpRequest}
use Rattle.satip_plain.specs.declared.setting.Setting.{Setting}
use Rattle.satip_plain.specs.declared.events.Event.{Event}
use Rattle.satip_plain.specs.declared.events.Event.TheVariants.{Request as Asked, Get as Got}
use Rattle.satip_plain.specs.State.{State, Stream}
use Rattle.satip_plain.specs.Streams.{to_set}
use Rattle.satip_plain.specs.Refusals.{Refused, first_given, message_before, change_before, get_before, stream_meant, makes_session}
use Rattle.satip_rtsp.specs.Methods.{changes}
use Rattle.satip_plain.specs.Histories.{Item, Legal, after}
use Rattle.satip_plain.specs.Readings.{Readings, home_of_number, named_in, next_made, outlook_in, readings}

-- the refusals of a SETUP's or PLAY's query before a front end is looked for: the lines of the decision but its last
abbrev pub query_before : State → Request → Option Stream → List (Option Refused)
query_before st r None = change_before st None (Only []) (makes_session r) r.query
query_before st r (Some t) = change_before st t.tuning t.pids (makes_session r) r.query

-- the refusals of a request before a front end is looked for
abbrev pub all_before : State → Request → List (Option Refused)
all_before st r = message_before st r ++ query_before st r (stream_meant st r)

-- the stream of a SETUP or PLAY, from the readings: that of the named number, else that of the named session, else the one that it would create
abbrev pub home_meant : Readings → Draw → Request → SessionId
home_meant g draw r = unwrap_or (option_and_then (home_of_number g) r.stream) (option_map_or (λ m. m.home) (named_in g r.session) (next_made g draw.word))

-- a tuning is to be set for this stream, and each front end that fits is taken, by the readings
pub record IsBlocked (c : Config) (g : Readings) (home : SessionId) (query : Query) : Type 0 where
  pub tuning : Tuning
  pub set : to_set (g.tuned home) query.change ≡ Some tuning
  pub taken : blocked (outlook_in c g home) (mux_for c.muxes tuning) tuning ≡ true

-- a SETUP or PLAY without an earlier refusal, for which no front end is available
pub record IsBlockedRequest (c : Config) (st : State) (g : Readings) (draw : Draw) (r : Request) : Type 0 where
  pub changes_stream : changes r.method ≡ true
  pub before : first_given (all_before st r) ≡ None
  pub blocked : IsBlocked c g (home_meant g draw r) r.query

-- a GET without an earlier refusal, for which no front end is available
pub record IsBlockedGet (c : Config) (st : State) (g : Readings) (draw : Draw) (r : HttpRequest) : Type 0 where
  pub before : first_given (get_before st r) ≡ None
  pub blocked : IsBlocked c g (next_made g draw.word) r.query

-- the event is a request for which no front end is available
abbrev pub IsBlockedHere : Config → State → Readings → Event → Type 0
IsBlockedHere c st g (Asked peer draw r) = IsBlockedRequest c st g draw r
IsBlockedHere c st g (Got peer draw r) = IsBlockedGet c st g draw r
IsBlockedHere c st g _ = ⊥

-- the reply to the event says `No-More:frontends`
abbrev pub IsToldBusy : Event → List ℕ → Type 0
IsToldBusy (Asked peer draw r) reply = reply ≡ text_reply r.cseq 503 NoMoreFrontends
IsToldBusy (Got peer draw r) reply = reply ≡ http_refusal 503 (Some NoMoreFrontends)
IsToldBusy _ reply = ⊥

-- the busy law, by the readings of the entries before: the reply of a legal entry says `No-More:frontends` exactly if three things hold;
-- no other refusal comes first, a tuning is to be set, and no front end is available for it
abbrev pub BusyWhereBlocked : Type 0
BusyWhereBlocked =
    (c : Setting) (h : List Item) (e : Item) → Legal c (h ++ e ∷ [])
    → (IsToldBusy e.event e.out.reply → IsBlockedHere c.config (after c h) (readings c h) e.event)
    × (IsBlockedHere c.config (after c h) (readings c h) e.event → IsToldBusy e.event e.out.reply)
