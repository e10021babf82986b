-- In a legal history each answer is of its event's kind.
use Rattle.std.proofs.Common.{◌≡◌, ℕ, false, List, [], ◌∷◌, ◌++◌, Option, Some, None, refl, sym, subst}
use Rattle.std.specs.Option.{option_map_or}
use Rattle.std.specs.Prelude.{option_map}
use Rattle.satip_base.specs.Output.{Output}
use Rattle.satip_base.specs.Lists.{Each}
use Rattle.satip_base.specs.History.{entries}
use Rattle.satip_base.specs.declared.entry.Taken.{Taken}
use Rattle.satip_base.proofs.Elements.{Each-append_right}
use Rattle.satip_rtsp.specs.declared.requests.Refusal.{Refusal}
use Rattle.satip_rtsp.specs.declared.requests.Refusal.TheVariants.{Broken, TooLong, NoCseq, Version, Method as NoMethod, Require, Target, Query}
use Rattle.satip_rtsp.specs.declared.requests.Method.{Method}
use Rattle.satip_rtsp.specs.declared.requests.Method.TheVariants.{Options, Describe, Setup, Play, Teardown}
use Rattle.satip_plain.specs.declared.answers.Answer.{Answer}
use Rattle.satip_plain.specs.declared.answers.Answer.TheVariants.{Get as GetIs, Pulled as PulledIs, Closed as ClosedIs}
use Rattle.satip_plain.specs.declared.answers.GetAnswer.TheVariants.{Refused as GetRefused}
use Rattle.satip_plain.specs.declared.answers.Pulled.TheVariants.{Gone}
use Rattle.satip_plain.specs.declared.answers.Closed.TheVariants.{Yes, Gone as ClosedGone}
use Rattle.satip_plain.specs.declared.events.Event.{Event}
use Rattle.satip_plain.specs.declared.events.Event.TheVariants.{Request as Asked, Get as Got, Tick, Packet, Ended, Ask, Pull, Close, Stop}
use Rattle.satip_plain.specs.declared.setting.Setting.{Setting}
use Rattle.satip_plain.specs.Types.{Config, Peer, Draw, Request, HttpRequest, SessionId}
use Rattle.satip_plain.specs.State.{Session, State, held, http_session}
use Rattle.satip_plain.specs.Sending.{settle}
use Rattle.satip_plain.specs.Refusals.{Refused, decide, decide_get, first_given, of_message, session_named}
use Rattle.satip_plain.specs.Steps.{accepted, closes as is_closing, done_by, end_where, heard_by, is_session, on_close, on_get, on_pull, on_request, outcome, play_of, pull_some, refuse, start, step, teardown_of}
use Rattle.satip_plain.specs.Histories.{Item, Legal, LegalFrom, opening}
use Rattle.satip_plain.specs.Suits.{Suits, closes}

closing_same : (refusal : Option Refusal) → option_map_or is_closing refusal false ≡ closes refusal
closing_same None = refl
closing_same (Some Broken) = refl
closing_same (Some TooLong) = refl
closing_same (Some NoCseq) = refl
closing_same (Some Version) = refl
closing_same (Some NoMethod) = refl
closing_same (Some (Require kept)) = refl
closing_same (Some Target) = refl
closing_same (Some (Query fault)) = refl

-- a message that is itself refused isn't accepted
accepted_open : (refusal : Option Refusal) (more : List (Option Refused)) → first_given (option_map of_message refusal ∷ more) ≡ None → closes refusal ≡ false
accepted_open None more e = refl
accepted_open (Some refusal) more e = absurd (cc e)

done_suits : (m : Method) (c : Config) (peer : Peer) (draw : Draw) (r : Request) (st : State) → closes r.refusal ≡ false
    → Suits (Asked peer draw r) (done_by m c peer draw r st).answer
done_suits Options c peer draw r st goes_on = sym goes_on
done_suits Describe c peer draw r st goes_on = sym goes_on
done_suits Setup c peer draw r st goes_on = sym goes_on
done_suits Play c peer draw r st goes_on = by (session_named st r.session)
  where
    by : (o : Option Session) → Suits (Asked peer draw r) (option_map_or (play_of c r st) o (accepted (settle st) [])).answer
    by None = sym goes_on
    by (Some s) = sym goes_on
done_suits Teardown c peer draw r st goes_on = by (session_named st r.session)
  where
    by : (o : Option Session) → Suits (Asked peer draw r) (option_map_or (teardown_of r st) o (accepted (settle st) [])).answer
    by None = sym goes_on
    by (Some s) = sym goes_on

request_suits : (c : Config) (peer : Peer) (draw : Draw) (r : Request) (st : State) → Suits (Asked peer draw r) (on_request c peer draw r st).answer
request_suits c peer draw r st = by (decide c st r) refl
  where
    by : (o : Option Refused) → decide c st r ≡ o
        → Suits (Asked peer draw r) (option_map_or (refuse r (heard_by r st)) o (done_by r.method c peer draw r (heard_by r st))).answer
    by None e = done_suits r.method c peer draw r (heard_by r st) (accepted_open r.refusal _ e)
    by (Some refused) e = closing_same r.refusal

get_suits : (c : Config) (peer : Peer) (draw : Draw) (r : HttpRequest) (st : State) → Suits (Got peer draw r) (on_get c peer draw r st).answer
get_suits c peer draw r st = by _ (decide_get c st r)
  where
    by : (head : Refused → List ℕ) (o : Option Refused)
        → Suits (Got peer draw r)
        (option_map_or (λ refused. outcome (settle st) (GetIs (GetRefused refused.status)) (head refused)) o (start c peer draw r st)).answer
    by head None = tt
    by head (Some refused) = tt

pull_suits : (id : SessionId) (st : State) → Suits (Pull id) (on_pull id st).answer
pull_suits id st = by (http_session st id)
  where
    queued : (s : Session) (packets : List (List ℕ)) → Suits (Pull id) (pull_some st s packets).answer
    queued s [] = tt
    queued s (p ∷ ps) = tt

    by : (o : Option Session) → Suits (Pull id) (option_map_or (λ s. pull_some st s (held s)) o (outcome (settle st) (PulledIs Gone) [])).answer
    by None = tt
    by (Some s) = queued s (held s)

close_suits : (id : SessionId) (st : State) → Suits (Close id) (on_close id st).answer
close_suits id st = by (http_session st id)
  where
    by : (o : Option Session)
        → Suits (Close id) (option_map_or (λ s. outcome (end_where (is_session id) st) (ClosedIs Yes) []) o
        (outcome (settle st) (ClosedIs ClosedGone) [])).answer
    by None = tt
    by (Some s) = tt

-- what the plain server answers
pub step_suits : (c : Config) (st : State) (event : Event) → Suits event (step c st event).answer
step_suits c st (Asked peer draw r) = request_suits c peer draw r st
step_suits c st (Got peer draw r) = get_suits c peer draw r st
step_suits c st (Tick now) = tt
step_suits c st (Packet front tune packet) = tt
step_suits c st (Ended front tune) = tt
step_suits c st (Ask front) = tt
step_suits c st (Pull session) = pull_suits session st
step_suits c st (Close session) = close_suits session st
step_suits c st Stop = refl

entries_suit : (c : Config) (st : State) (h : List Item) → LegalFrom c st h → Each (λ (e : Item). Suits e.event e.answer) h
entries_suit c st [] legal = tt
entries_suit c st (e ∷ es) legal =
    let P : Answer → Type 0 = λ answer. Suits e.event answer in
    (subst P (sym legal.0.answer) (step_suits c st e.event), entries_suit c (step c st e.event).state es legal.1)

-- each answer of a legal history suits its event
pub legal_suits : (c : Setting) (h : List Item) → Legal c h → Each (λ (e : Item). Suits e.event e.answer) h
legal_suits c h legal = entries_suit c.config (opening c) h legal.entries

-- and so does that of the last entry
pub last_suits : (c : Setting) (h : List Item) (e : Item) → Legal c (h ++ e ∷ []) → Suits e.event e.answer
last_suits c h e legal = (Each-append_right (λ (x : Item). Suits x.event x.answer) h (e ∷ []) (legal_suits c (h ++ e ∷ []) legal)).0

taken_suit : (caller : ℕ) (ts : List (Taken Event Answer Output)) → Each (λ (e : Item). Suits e.event e.answer) (entries caller ts)
    → Each (λ (t : Taken Event Answer Output). Suits t.event t.answer) ts
taken_suit caller [] each = tt
taken_suit caller (t ∷ ts) each = (each.0, taken_suit caller ts each.1)

-- and those of a caller's entries that came last
pub lasts_suit : (c : Setting) (h : List Item) (caller : ℕ) (ts : List (Taken Event Answer Output)) → Legal c (h ++ entries caller ts)
    → Each (λ (t : Taken Event Answer Output). Suits t.event t.answer) ts
lasts_suit c h caller ts legal = taken_suit caller ts
    (Each-append_right (λ (x : Item). Suits x.event x.answer) h (entries caller ts) (legal_suits c (h ++ entries caller ts) legal))
