-- Every event leaves state and readings in agreement.
use Rattle.std.proofs.Common.{◌≡◌, ℕ, ◌==◌, ◌&&◌, Bool, true, false, cond, List, [], ◌∷◌, Option, Some, None, refl, ap, sym, subst, ◌∙◌}
use Rattle.std.specs.Option.{option_map_or}
use Rattle.std.specs.List.{list_any}
use Rattle.satip_ts.specs.Packet.{IsPacket}
use Rattle.satip_base.specs.Lists.{Has}
use Rattle.satip_base.specs.Output.{Output}
use Rattle.satip_rtsp.specs.declared.requests.Method.{Method}
use Rattle.satip_rtsp.specs.declared.requests.Method.TheVariants.{Options, Describe, Setup, Play, Teardown}
use Rattle.satip_http.specs.Heads.{http_refusal}
use Rattle.satip_plain.specs.Types.{Config, Peer, Draw, Request, HttpRequest}
use Rattle.satip_plain.specs.declared.answers.Answer.{Answer}
use Rattle.satip_plain.specs.declared.answers.Answer.TheVariants.{Get}
use Rattle.satip_plain.specs.declared.answers.GetAnswer.TheVariants.{Refused as GetRefused}
use Rattle.satip_plain.specs.declared.events.Event.{Event}
use Rattle.satip_plain.specs.declared.events.Event.TheVariants.{Request as Asked, Get as Got, Tick, Packet, Ended, Ask, Pull, Close, Stop}
use Rattle.satip_plain.specs.State.{Session, State, served_by}
use Rattle.satip_plain.specs.Sending.{settle}
use Rattle.satip_plain.specs.Refusals.{Refused, session_named, decide, decide_get}
use Rattle.satip_rtsp.specs.Methods.{is_setup, changes}
use Rattle.satip_plain.specs.Steps.{outcome, step, refuse, done_by, start, play_of, teardown_of, accepted, is_current, deliver, picks, on_request, on_get, on_packet}
use Rattle.satip_plain.specs.Values.{IsEvent}
use Rattle.satip_plain.specs.Histories.{Item, Fits}
use Rattle.satip_plain.specs.Readings.{Made, Readings, Asking, living, living_session, any_where, is_accepted, frees, ends, keeps_alive, is_selected, pulled_by, next_made, is_teardown, is_play, read_one}
use Rattle.satip_laws.proofs.SameTests.{either_false, middle_false}
use Rattle.satip_laws.proofs.Finding.{either_way}
use Rattle.satip_laws.proofs.Agree.{Agrees, alike_back, serves}
use Rattle.satip_laws.proofs.Sweeping.{freed_same}
use Rattle.satip_laws.proofs.Adding.{making}
use Rattle.satip_laws.proofs.Reading.{item, read_other, simply_same, simply_still, never, nothing, where_never, found_living}
use Rattle.satip_laws.proofs.Moments.{agrees_tick, agrees_ended_row}
use Rattle.satip_laws.proofs.Closing.{agrees_close, ended_read, ask_read, stop_read}
use Rattle.satip_laws.proofs.Delivering.{agrees_delivered, gives_selected}
use Rattle.satip_laws.proofs.Pulling.{agrees_pull}
use Rattle.satip_laws.proofs.Deciding.{Passes, passes, decided_refuses}
use Rattle.satip_laws.proofs.Requests.{heard, agrees_refused, agrees_told, agrees_teardown}
use Rattle.satip_laws.proofs.Asking.{agrees_play}
use Rattle.satip_laws.proofs.SettingUp.{agrees_setup, agrees_start}

-- requests

module _ (c : Config) (st : State) (g : Readings) (a : Agrees c st g) (caller : ℕ) (peer : Peer) (draw : Draw) (r : Request) (answer : Answer)
    (out : Output) where
  abbrev entry : Item
  entry = item caller (Asked peer draw r) answer out

  abbrev now : State
  now = heard c st g a caller peer draw r answer out

  -- an accepted request is answered with status 200
  accepted_by : (m : Method) → answer ≡ (done_by m c peer draw r now).answer → is_accepted answer ≡ true
  accepted_by Options e = ap is_accepted e
  accepted_by Describe e = ap is_accepted e
  accepted_by Setup e = ap is_accepted e
  accepted_by Play e = ap is_accepted e ∙ by (session_named now r.session)
    where
      by : (q : Option Session) → is_accepted (option_map_or (play_of c r now) q (accepted (settle now) [])).answer ≡ true
      by None = refl
      by (Some s) = refl
  accepted_by Teardown e = ap is_accepted e ∙ by (session_named now r.session)
    where
      by : (q : Option Session) → is_accepted (option_map_or (teardown_of r now) q (accepted (settle now) [])).answer ≡ true
      by None = refl
      by (Some s) = refl

  done : (m : Method) → r.method ≡ m → is_accepted answer ≡ true → Passes c st r → Agrees c (done_by m c peer draw r now).state (read_one c g entry)
  done Options e acc p = agrees_told c st g a caller peer draw r answer out (ap is_setup e) (ap changes e) (ap is_teardown e) (ap is_play e)
  done Describe e acc p = agrees_told c st g a caller peer draw r answer out (ap is_setup e) (ap changes e) (ap is_teardown e) (ap is_play e)
  done Setup e acc p = agrees_setup c st g a caller peer draw r answer out acc p e
  done Play e acc p = agrees_play c st g a caller peer draw r answer out acc p e
  done Teardown e acc p = agrees_teardown c st g a caller peer draw r answer out e acc p

  agrees_request : Fits (on_request c peer draw r st) entry → Agrees c (on_request c peer draw r st).state (read_one c g entry)
  agrees_request fits = by (decide c st r) refl fits.answer
    where
      by : (o : Option Refused) → decide c st r ≡ o → answer ≡ (option_map_or (refuse r now) o (done_by r.method c peer draw r now)).answer
          → Agrees c (option_map_or (refuse r now) o (done_by r.method c peer draw r now)).state (read_one c g entry)
      by (Some x) e is = agrees_refused c st g a caller peer draw r answer out (ap is_accepted is ∙ decided_refuses c st r x e)
      by None e is = done r.method refl (accepted_by r.method is) (passes c st r e)

-- GETs

module _ (c : Config) (g : Readings) (free : (f : ℕ) → serves g f ≡ false → g.mux f ≡ None) (caller : ℕ) (peer : Peer) (draw : Draw) (r : HttpRequest)
    (answer : Answer) (out : Output) where
  abbrev entry_get : Item
  entry_get = item caller (Got peer draw r) answer out

  refused_get : is_accepted answer ≡ false → read_one c g entry_get ≡ g
  refused_get refused =
      read_other c g entry_get (ap (λ b. cond {A = Option Made} b (Some (making g true (next_made g draw.word) draw)) None) refused)
      (ap (λ b. cond {A = Option Asking} b asked_get None) refused)
      (λ s. ap (λ b. b && false) refused)
      ∙ ap frees (simply_same g g.clock (ends c g entry_get) (keeps_alive entry_get.event) never never
      (λ s. cond {A = List (List ℕ)} (any_where (is_selected g entry_get.event) (living_session g s)) [] []) (pulled_by entry_get) nothing nothing
      (λ m h. refl) (λ m h. refl)
      (λ s. sym (either_way [] (any_where (is_selected g entry_get.event) (living_session g s)))) (λ s. refl) ∙ simply_still g) ∙ freed_same g free
    where
      asked_get : Option Asking
      asked_get = Some (record { home = next_made g draw.word; query = r.query })

agrees_get : (c : Config) (st : State) (g : Readings) (caller : ℕ) (peer : Peer) (draw : Draw) (r : HttpRequest) (answer : Answer) (out : Output)
    → Agrees c st g
    → Fits (on_get c peer draw r st) (item caller (Got peer draw r) answer out)
    → Agrees c (on_get c peer draw r st).state (read_one c g (item caller (Got peer draw r) answer out))
agrees_get c st g caller peer draw r answer out a fits = by (decide_get c st r) refl fits.answer
  where
    by : (o : Option Refused) → decide_get c st r ≡ o
        → answer ≡ (option_map_or (λ refused. outcome (settle st) (Get (GetRefused refused.status)) (http_refusal refused.status refused.body)) o
        (start c peer draw r st)).answer
        → Agrees c (option_map_or (λ refused. outcome (settle st) (Get (GetRefused refused.status)) (http_refusal refused.status refused.body)) o
        (start c peer draw r st)).state
        (read_one c g (item caller (Got peer draw r) answer out))
    by (Some x) e is = subst (Agrees c st) (sym (refused_get c g a.free caller peer draw r answer out (ap is_accepted is))) a
    by None e is = agrees_start c st g caller peer draw r answer out a (ap is_accepted is) e

-- packets

module _ (c : Config) (st : State) (g : Readings) (a : Agrees c st g) (caller front tune : ℕ) (packet : List ℕ) (answer : Answer) (out : Output) where
  abbrev entry_packet : Item
  entry_packet = item caller (Packet front tune packet) answer out

  stale_read : is_current st front tune ≡ false → read_one c g entry_packet ≡ g
  stale_read stale =
      read_other c g entry_packet (sym (either_way None (is_accepted answer))) (sym (either_way None (is_accepted answer)))
      (λ s. either_false (is_accepted answer))
      ∙ ap frees (simply_same g g.clock (ends c g entry_packet) (keeps_alive entry_packet.event) never never
      (λ s. cond {A = List (List ℕ)} (any_where (is_selected g entry_packet.event) (living_session g s)) (packet ∷ []) []) (pulled_by entry_packet)
      nothing nothing
      (λ m h. middle_false m.http (is_selected g entry_packet.event m) _ (not_selected m h)) (λ m h. refl)
      (λ s. ap (λ b. cond {A = List (List ℕ)} b (packet ∷ []) [])
      (where_never (is_selected g entry_packet.event) (living_session g s) (λ m f. not_selected m (found_living g s m f).0)))
      (λ s. refl) ∙ simply_still g) ∙ freed_same g a.free
    where
      not_selected : (m : Made) → Has m (living g) → is_selected g (Packet front tune packet) m ≡ false
      not_selected m h = let b = alike_back g m (living g) st.sessions a.loosely.sessions h in
          sym (gives_selected c st g front tune packet a m b.0 h b.2) ∙ ap (λ x. x && list_any (λ t. picks t packet b.0) (served_by st front)) stale

  agrees_packet : IsPacket packet → Agrees c (on_packet front tune packet st).state (read_one c g entry_packet)
  agrees_packet whole = by (is_current st front tune) refl
    where
      by : (b : Bool) → is_current st front tune ≡ b → Agrees c (cond b (deliver front packet st) (settle st)).state (read_one c g entry_packet)
      by true e = agrees_delivered c st g a front tune packet whole.whole e caller answer out
      by false e = subst (Agrees c st) (sym (stale_read e)) a

-- the stop
agrees_stopped : (c : Config) (st : State) (g : Readings) → Agrees c st g → Agrees c (record st { stopped = true }) g
agrees_stopped c st g a = record {
  loosely = record {
    clock = a.loosely.clock;
    made = a.loosely.made;
    sessions = a.loosely.sessions;
    living_streams = a.loosely.living_streams;
    tunes = a.loosely.tunes;
    muxes = a.loosely.muxes;
    told = a.loosely.told;
    kept = record {
      apart = a.loosely.kept.apart;
      once = a.loosely.kept.once;
      positive = a.loosely.kept.positive;
      few = a.loosely.kept.few;
      rows = a.loosely.kept.rows;
      placed = a.loosely.kept.placed;
    };
  };
  streams = a.streams;
  free = a.free;
}

by_event : (c : Config) (st : State) (g : Readings) (caller : ℕ) (answer : Answer) (out : Output) → Agrees c st g → (event : Event) → IsEvent event
    → Fits (step c st event) (item caller event answer out)
    → Agrees c (step c st event).state (read_one c g (item caller event answer out))
by_event c st g caller answer out a (Asked peer draw r) is fits = agrees_request c st g a caller peer draw r answer out fits
by_event c st g caller answer out a (Got peer draw r) is fits = agrees_get c st g caller peer draw r answer out a fits
by_event c st g caller answer out a (Tick now) is fits = agrees_tick c st g caller now answer out a
by_event c st g caller answer out a (Packet front tune packet) is fits = agrees_packet c st g a caller front tune packet answer out is.2.packet_is
by_event c st g caller answer out a (Ended front tune) is fits =
    subst (Agrees c (step c st (Ended front tune)).state) (sym (ended_read c g a.free caller answer out front tune))
    (agrees_ended_row c st g (λ r. is_current st front tune && r.number == front) a)
by_event c st g caller answer out a (Ask front) is fits = subst (Agrees c st) (sym (ask_read c g a.free caller answer out front)) a
by_event c st g caller answer out a (Pull id) is fits = agrees_pull c st g a caller answer out id fits
by_event c st g caller answer out a (Close id) is fits = agrees_close c st g caller answer out id a
by_event c st g caller answer out a Stop is fits =
    subst (Agrees c (record st { stopped = true })) (sym (stop_read c g a.free caller answer out)) (agrees_stopped c st g a)

-- a legal entry leaves state and readings in agreement
pub agrees_step : (c : Config) (st : State) (g : Readings) (e : Item) → IsEvent e.event → Fits (step c st e.event) e → Agrees c st g
    → Agrees c (step c st e.event).state (read_one c g e)
agrees_step c st g e is fits a = by_event c st g e.caller e.answer e.out a e.event is fits
