-- The reply to a request of a legal history has the form of a reply.
use Rattle.std.proofs.Common.{◌≡◌, ◌∙◌, ℕ, ◌==◌, ◌≤◌, ◌<◌, ◌^◌, Bool, true, false, cond, List, [], ◌∷◌, filter, length, map, Option, Some, None, is_none, is_some, arith, refl, sym, ap, subst, unwrap_or}
use Rattle.std.proofs.lemmas.List.{length-map}
use Rattle.std.specs.Option.{option_map_or, option_map}
use Rattle.satip_base.specs.Lists.{Each}
use Rattle.satip_pids.specs.Pids.{listed}
use Rattle.satip_query.specs.declared.bodies.RefusalBody.{RefusalBody}
use Rattle.satip_rtcp.specs.declared.views.StreamView.{StreamView}
use Rattle.satip_rtsp.specs.Methods.{names_none, needs_session}
use Rattle.satip_rtsp.specs.Replies.{plain_reply, text_reply}
use Rattle.satip_rtsp.specs.declared.requests.Method.{Method}
use Rattle.satip_rtsp.specs.declared.requests.Method.TheVariants.{Options, Describe, Setup, Play, Teardown}
use Rattle.satip_rtsp.specs.declared.requests.Refusal.{Refusal}
use Rattle.satip_rtsp.specs.declared.requests.Refusal.TheVariants.{Broken, TooLong, NoCseq, Version, Method as BadMethod, Require, Target, Query as QueryAt}
use Rattle.satip_frame.specs.declared.framing.Break.TheVariants.{Bad, TooLong as too_long}
use Rattle.satip_plain.specs.declared.events.Event.{Event}
use Rattle.satip_plain.specs.declared.events.Event.TheVariants.{Request as Asks, Get, Tick, Packet, Ended, Ask, Pull, Close, Stop}
use Rattle.satip_plain.specs.Types.{Config, Draw, Peer, Request}
use Rattle.satip_plain.specs.State.{Session, State, Stream}
use Rattle.satip_plain.specs.Sending.{settle}
use Rattle.satip_plain.specs.Refusals.{Refused, decide, session_named}
use Rattle.satip_plain.specs.Steps
use Rattle.satip_plain.specs.Steps.{description, done_by, heard_by, message_reply, no_ports, play_of, refused_reply, reply_to_refused, setup_number, setup_session, step, teardown_of, view_of}
use Rattle.satip_plain.specs.Histories.{Item, LegalFrom, opening}
use Rattle.satip_plain.specs.Readings.{Readings, nothing_read, read_one}
use Rattle.satip_plain.specs.Values.{IsEvent}
use Rattle.satip_laws.proofs.Agree.{Agrees}
use Rattle.satip_laws.proofs.Events.{a_step, named_heard, not_missing}
use Rattle.satip_laws.proofs.Finding.{length_filter}
use Rattle.satip_laws.proofs.Fronts.{each_filter}
use Rattle.satip_laws.proofs.Law.{agrees_opening}
use Rattle.satip_laws.proofs.Moves.{IsSound}
use Rattle.satip_laws.proofs.Over.{opening_sound}
use Rattle.satip_laws.proofs.Steps.{agrees_step}
use Rattle.satip_tunnel_laws.specs.Answered.{HasReply, HistoriesReply, KeepsPlain}
use Rattle.satip_tunnel_laws.specs.Pieces.{IsReply}
use Rattle.satip_tunnel_laws.proofs.FewPids.{HasFew, HaveFew, heard_streams, step_few}
use Rattle.satip_tunnel_laws.proofs.Forming.{closing_is, described_is, options_is, plain_is, playing_is, set_up_is, telling_is, unsupported_is}
use Rattle.satip_tunnel_laws.proofs.MadeFew.{made_room}
use Rattle.satip_tunnel_laws.proofs.TextSizes.{length-sdp_any}

-- refusals

refused_is : (cseq : Option ℕ) (x : Refused) → IsReply (refused_reply cseq x)
refused_is cseq x = by x.body
  where
    by : (o : Option RefusalBody) → IsReply (option_map_or (text_reply cseq x.status) o (plain_reply cseq x.status))
    by None = plain_is cseq x.status
    by (Some body) = telling_is cseq x.status body

message_is : (cseq : Option ℕ) (x : Refused) (refusal : Refusal) → KeepsPlain (Some refusal) → IsReply (message_reply cseq x refusal)
message_is cseq x Broken plain = closing_is Bad
message_is cseq x TooLong plain = closing_is too_long
message_is cseq x NoCseq plain = refused_is cseq x
message_is cseq x Version plain = refused_is cseq x
message_is cseq x BadMethod plain = refused_is cseq x
message_is cseq x (Require kept) plain = unsupported_is cseq kept plain
message_is cseq x Target plain = refused_is cseq x
message_is cseq x (QueryAt fault) plain = refused_is cseq x

refusal_is : (r : Request) (x : Refused) → KeepsPlain r.refusal → IsReply (reply_to_refused r x)
refusal_is r x plain = by r.refusal plain
  where
    by : (o : Option Refusal) → KeepsPlain o → IsReply (option_map_or (message_reply r.cseq x) o (refused_reply r.cseq x))
    by None plain = refused_is r.cseq x
    by (Some refusal) plain = message_is r.cseq x refusal plain

-- descriptions

views_few : (st : State) (ts : List Stream) → Each HasFew ts → Each (λ (v : StreamView). listed v.pids ≤ 256) (map (view_of st) ts)
views_few st [] few = tt
views_few st (t ∷ ts) few = (few.0, views_few st ts few.1)

-- streams of which each lists few PIDs, and not too many streams
record AreFew (ts : List Stream) : Type 0 where
  pids : Each HasFew ts
  count : length ts ≤ 4294967295

count_few : (st : State) (p : Stream → Bool) (ts : List Stream) → length ts ≤ 4294967295 → length (map (view_of st) (filter p ts)) ≤ 4294967295
count_few st p ts few = omega (arith, length-map (filter p ts) (view_of st), length_filter p ts, few)

described_few : (c : Config) (st : State) (named : Option ℕ) → AreFew st.streams → length (description c st named) < 2 ^ 64
described_few c st named few =
    let p : Stream → Bool = λ t. option_map_or (λ n. t.number == n) named true in
    length-sdp_any c.address (length c.fronts) (map (view_of st) (filter p st.streams))
    (views_few st (filter p st.streams) (each_filter HasFew p st.streams few.pids)) (count_few st p st.streams few.count)

-- accepted requests

done_is : (m : Method) (c : Config) (peer : Peer) (draw : Draw) (r : Request) (st : State) → AreFew st.streams
    → (needs_session m ≡ true → is_some (session_named st r.session) ≡ true) → IsReply (done_by m c peer draw r st).reply
done_is Options c peer draw r st few named = options_is r.cseq (option_map (λ (s : Session). s.id) (session_named st r.session))
done_is Describe c peer draw r st few named = described_is r.cseq c.address (description c st r.stream) (described_few c st r.stream few)
done_is Setup c peer draw r st few named = set_up_is r.cseq (setup_session draw r st) c.timeout (unwrap_or r.ports no_ports) (setup_number r st)
done_is Play c peer draw r st few named = by (session_named st r.session) (named refl)
  where
    by : (o : Option Session) → is_some o ≡ true → IsReply (option_map_or (play_of c r st) o (Steps.accepted (settle st) [])).reply
    by None none = absurd (cc none)
    by (Some s) some = playing_is r.cseq s.id c.address s.stream _
done_is Teardown c peer draw r st few named = by (session_named st r.session) (named refl)
  where
    by : (o : Option Session) → is_some o ≡ true → IsReply (option_map_or (teardown_of r st) o (Steps.accepted (settle st) [])).reply
    by None none = absurd (cc none)
    by (Some s) some = plain_is r.cseq 200

-- a request that needs a session and is accepted names one that lives
needed_lives : (c : Config) (st : State) (r : Request) → decide c st r ≡ None → needs_session r.method ≡ true
    → is_some (session_named (heard_by r st) r.session) ≡ true
needed_lives c st r accepted needs = by (names_none r.session) (session_named st r.session) refl (not_missing c st r accepted)
  where
    by : (b : Bool) (o : Option Session) → session_named st r.session ≡ o → cond b (needs_session r.method) (is_none o) ≡ false
        → is_some (session_named (heard_by r st) r.session) ≡ true
    by true o is present = let wrong : true ≡ false = sym needs ∙ present in absurd (cc wrong)
    by false None is present = absurd (cc present)
    by false (Some s) is present = ap is_some (named_heard st r s is).1

-- one request

request_is : (c : Config) (peer : Peer) (draw : Draw) (r : Request) (st : State) → AreFew st.streams → KeepsPlain r.refusal
    → IsReply (Steps.on_request c peer draw r st).reply
request_is c peer draw r st few plain = by (decide c st r) refl
  where
    by : (o : Option Refused) → decide c st r ≡ o
        → IsReply (option_map_or (Steps.refuse r (heard_by r st)) o (done_by r.method c peer draw r (heard_by r st))).reply
    by None accepted = done_is r.method c peer draw r (heard_by r st) (subst AreFew (sym (heard_streams r st)) few) (needed_lives c st r accepted)
    by (Some x) refused = refusal_is r x plain

step_is : (c : Config) (st : State) (e : Event) → AreFew st.streams → HasReply e (step c st e).reply
step_is c st (Asks peer draw r) few = λ plain. request_is c peer draw r st few plain
step_is c st (Get peer draw r) few = tt
step_is c st (Tick now) few = tt
step_is c st (Packet front tune packet) few = tt
step_is c st (Ended front tune) few = tt
step_is c st (Ask front) few = tt
step_is c st (Pull id) few = tt
step_is c st (Close id) few = tt
step_is c st Stop few = tt

-- every entry

record IsBounded (c : Config) (st : State) (g : Readings) : Type 0 where
  agrees : Agrees c st g
  sound : IsSound st
  made : st.made ≤ 4294967295
  few : HaveFew st

bounded_few : (c : Config) (st : State) (g : Readings) → IsBounded c st g → AreFew st.streams
bounded_few c st g is = record { pids = is.few; count = omega (arith, is.agrees.loosely.kept.few, is.made) }

entries_are : (c : Config) (h : List Item) (st : State) (g : Readings) → Each (λ (e : Item). IsEvent e.event) h → LegalFrom c st h → IsBounded c st g
    → Each (λ (e : Item). HasReply e.event e.out.reply) h
entries_are c [] st g events legal is = tt
entries_are c (e ∷ es) st g events legal is =
    let next = a_step c st e.event is.sound in
    let room = made_room c st e.event is.made in (
      subst (λ (reply : List ℕ). HasReply e.event reply) (sym legal.0.reply) (step_is c st e.event (bounded_few c st g is)),
      entries_are c es (step c st e.event).state (read_one c g e) events.1 legal.1 (record {
        agrees = agrees_step c st g e events.0 legal.0 is.agrees;
        sound = next.sound;
        made = omega (arith, next.made, room);
        few = step_few c st e.event is.few;
      }),
    )

pub histories_reply : HistoriesReply
histories_reply c h legal =
    entries_are c.config h (opening c) (nothing_read c) legal.events legal.entries
    (record { agrees = agrees_opening c; sound = opening_sound c; made = omega arith; few = tt })
