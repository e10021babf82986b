-- The server never makes more sessions than it counts with 32 bits.
use Rattle.std.proofs.Common.{◌≡◌, ◌∙◌, ℕ, ◌+◌, ◌≤◌, ◌&&◌, ◌||◌, nat_le, Bool, true, false, cond, [], length, Option, Some, None, is_none, option_to_list, arith, refl, sym, ap, subst, if◌then◌else◌, unwrap_or}
use Rattle.std.proofs.lemmas.Bool.{and_parts}
use Rattle.std.proofs.lemmas.Bool.Decides.{nat_tests}
use Rattle.satip_base.specs.Lists.{Each}
use Rattle.satip_fronts.specs.Choice.{Outlook}
use Rattle.satip_pids.specs.Pids.{Pids, Only}
use Rattle.satip_query.specs.declared.bodies.RefusalBody.TheVariants.{NoMoreSessions}
use Rattle.satip_rtsp.specs.Methods.{changes, is_setup, names_none}
use Rattle.satip_rtsp.specs.declared.requests.Method.{Method}
use Rattle.satip_rtsp.specs.declared.requests.Method.TheVariants.{Options, Describe, Setup, Play, Teardown}
use Rattle.satip_plain.specs.declared.events.Event.{Event}
use Rattle.satip_plain.specs.declared.events.Event.TheVariants.{Request as Asked, Get as Got, Tick, Packet, Ended, Ask, Pull, Close, Stop}
use Rattle.satip_plain.specs.Types.{Config, HttpRequest, Query, Request, Tuning}
use Rattle.satip_plain.specs.State.{Session, State, Stream, most_made, most_sessions}
use Rattle.satip_plain.specs.Streams.{outlook_of}
use Rattle.satip_plain.specs.Refusals.{Refused, decide, decide_get, is_full, makes_session, new_outlook, of_change, of_query, stream_meant, telling}
use Rattle.satip_plain.specs.Steps.{least_free, new_session, no_ports, setup_number}
use Rattle.satip_laws.specs.Makings.{made_by}
use Rattle.satip_laws.proofs.Deciding.{IsNone, all_none, get_causes, passes, where_none}

-- a server that isn't full
not_either : (a b : Bool) → (a || b) ≡ false → b ≡ false
not_either true b e = absurd (cc e)
not_either false b e = e

under : (n : ℕ) → nat_le 4294967295 n ≡ false → n + 1 ≤ 4294967295
under n more = grind (arith, nat_tests)

room_left : (st : State) → is_full st ≡ false → st.made + 1 ≤ 4294967295
room_left st free = under st.made (not_either (nat_le most_sessions (length st.sessions)) (nat_le most_made st.made) free)

-- a query that makes a session is accepted by such a server alone
query_room : (c : Config) (st : State) (o : Outlook) (tuning : Option Tuning) (pids : Pids) (makes : Bool) (query : Query) → makes ≡ true
    → Each IsNone (of_change c st o tuning pids makes query) → st.made + 1 ≤ 4294967295
query_room c st o tuning pids makes query is none =
    room_left st (ap (λ b. b && is_full st) (sym is) ∙ where_none (makes && is_full st) (telling 503 NoMoreSessions) none.1.1.0)

stream_room : (c : Config) (st : State) (r : Request) (o : Option Stream) → makes_session r ≡ true → Each IsNone (of_query c st r o)
    → st.made + 1 ≤ 4294967295
stream_room c st r None makes none = query_room c st (new_outlook c st) None (Only []) (makes_session r) r.query makes none
stream_room c st r (Some t) makes none = query_room c st (outlook_of c st t.number) t.tuning t.pids (makes_session r) r.query makes none

setup_changes : (m : Method) → is_setup m ≡ true → changes m ≡ true
setup_changes Setup is = refl
setup_changes Options is = absurd (cc is)
setup_changes Describe is = absurd (cc is)
setup_changes Play is = absurd (cc is)
setup_changes Teardown is = absurd (cc is)

request_room : (c : Config) (st : State) (r : Request) → makes_session r ≡ true → decide c st r ≡ None → st.made + 1 ≤ 4294967295
request_room c st r makes accepted =
    let meant : Option Stream = stream_meant st r in
    let change : changes r.method ≡ true = setup_changes r.method (and_parts (is_setup r.method) (names_none r.session) makes).0 in
    stream_room c st r meant makes (subst (λ b. Each IsNone (cond b (of_query c st r meant) [])) change (passes c st r accepted).query)

get_room : (c : Config) (st : State) (r : HttpRequest) → decide_get c st r ≡ None → st.made + 1 ≤ 4294967295
get_room c st r accepted = query_room c st (new_outlook c st) None (Only []) true r.query refl (all_none (get_causes c st r) accepted).1.1

-- the session that an event makes, if it makes one, is counted too
pub made_room : (c : Config) (st : State) (e : Event) → st.made ≤ 4294967295 → st.made + length (option_to_list (made_by c st e)) ≤ 4294967295
made_room c st (Asked peer draw r) few = by (makes_session r) refl (decide c st r) refl
  where
    new : Session
    new = new_session st false peer draw (unwrap_or r.ports no_ports) (setup_number r st)

    by : (b : Bool) → makes_session r ≡ b → (o : Option Refused) → decide c st r ≡ o
        → st.made + length (option_to_list (if b && is_none o then Some new else None)) ≤ 4294967295
    by true makes None accepted = request_room c st r makes accepted
    by true makes (Some x) refused = omega (arith, few)
    by false makes o decided = omega (arith, few)
made_room c st (Got peer draw r) few = by (decide_get c st r) refl
  where
    new : Session
    new = new_session st true peer draw no_ports (least_free st.streams)

    by : (o : Option Refused) → decide_get c st r ≡ o → st.made + length (option_to_list (if is_none o then Some new else None)) ≤ 4294967295
    by None accepted = get_room c st r accepted
    by (Some x) refused = omega (arith, few)
made_room c st (Tick now) few = omega (arith, few)
made_room c st (Packet front tune packet) few = omega (arith, few)
made_room c st (Ended front tune) few = omega (arith, few)
made_room c st (Ask front) few = omega (arith, few)
made_room c st (Pull id) few = omega (arith, few)
made_room c st (Close id) few = omega (arith, few)
made_room c st Stop few = omega (arith, few)
