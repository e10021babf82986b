-- Each request in a run of a tunnel was asked on a lane, after its connection was given the lane.
use Rattle.std.proofs.Common.{◌≡◌, ◌∙◌, ℕ, ◌+◌, true, List, [], ◌∷◌, ◌++◌, map, refl, sym, ap, subst, inl, inr, ⊎_elim}
use Rattle.std.specs.Prelude.{◌⊎◌, Option, Some, None}
use Rattle.satip_base.specs.declared.identity.Draw.{Draw}
use Rattle.satip_base.specs.declared.identity.SessionId.{SessionId}
use Rattle.satip_base.specs.declared.network.Peer.{Peer}
use Rattle.satip_base.specs.History.{entry, own_of}
use Rattle.satip_base.specs.Lists.{Each, Has}
use Rattle.satip_base.proofs.Elements.{Each-append, Has-append_left, Has-append_right, each_at}
use Rattle.satip_base.proofs.Owned.{own_of-append, own_of-cons_same}
use Rattle.satip_interleave.specs.Calling.{ShownPass}
use Rattle.satip_interleave.specs.declared.events.TunnelEvent.{TunnelEvent}
use Rattle.satip_interleave.specs.declared.events.TunnelEvent.TheVariants.{Inner, Enter, Leave}
use Rattle.satip_interleave.specs.declared.events.TunnelAnswer.{TunnelAnswer}
use Rattle.satip_interleave.specs.declared.events.TunnelAnswer.TheVariants.{Inner as InnerAnswer, Lane, Full as no_lane, Frames, Empty, Broken, Gone, Left}
use Rattle.satip_interleave.specs.Histories.{TunnelItem, inner_by, inners}
use Rattle.satip_jobs.specs.Passes.{IsFull}
use Rattle.satip_jobs.specs.Runs.{Along, HasNoStop, StopsOnce}
use Rattle.satip_desk.specs.Views.{WorkerView, PumpView, JobsView}
use Rattle.satip_plain.specs.declared.answers.Answer.{Answer}
use Rattle.satip_plain.specs.declared.answers.Answer.TheVariants.{Get as Got, Pulled}
use Rattle.satip_plain.specs.declared.answers.GetAnswer.TheVariants.{Started, Refused}
use Rattle.satip_plain.specs.declared.answers.Pulled.TheVariants.{Bytes, Empty as PulledEmpty, Gone as PulledGone}
use Rattle.satip_plain.specs.declared.events.Event.{Event}
use Rattle.satip_plain.specs.declared.events.Event.TheVariants.{Request as Asks, Get, Tick, Packet, Ended, Ask, Pull, Close, Stop}
use Rattle.satip_plain.specs.declared.setting.Setting.{Setting}
use Rattle.satip_plain.specs.Histories.{Item}
use Rattle.satip_plain.specs.Pumping.{Due, Asking, Feeding, Finished, IsDue, IsFirst, Pumps, after_entry}
use Rattle.satip_rtsp.specs.declared.requests.Request.{Request}
use Rattle.satip_tunnel.specs.declared.ends.TunnelEnd.{TunnelEnd}
use Rattle.satip_tunnel.specs.declared.ends.TunnelEnd.TheVariants.{Full as end_full, Broken as end_broken, Done as end_done, ReadFault as end_unread, WriteFault as end_lost, Spent as end_spent}
use Rattle.satip_tunnel.specs.ConnRun.{HttpServed, MatchKind, RtspServed}
use Rattle.satip_tunnel.specs.Ends.{IsLeave, IsUnleft, Leaves}
use Rattle.satip_tunnel.specs.Requests.{drawn_events}
use Rattle.satip_tunnel.specs.TunnelRun.{EnteredRun, LaneRun, TunnelRun}
use Rattle.satip_tunnel.specs.Walk.{Follows, Stance, Walk, lane_peer}
use Rattle.satip_tunnel.specs.WorkerRun.{ServesAll}
use Rattle.satip_tunnel_serve.specs.Done.{TunnelPumpDone, TunnelRow, TunnelWorkerDone}
use Rattle.satip_tunnel_laws.specs.LaneFrames.{enters}
use Rattle.satip_tunnel_serve.specs.TunnelRuns.{IsTunnelStop, TunnelServeRun}
use Rattle.satip_tunnel_laws.proofs.Owning.{among_own, same_numbers}
use Rattle.satip_tunnel_serve.proofs.Parsing.{IsParsed, all_parsed}
use Rattle.satip_turn.specs.Views.{numbers_of}
use Rattle.satip_worker.specs.Answers.{events_of}
use Rattle.satip_worker.specs.Drawing.{draw_at}
use Rattle.satip_worker.specs.HttpRun.{asked_first, Closes, SentWhole, SentCut, Follows as FollowsReply, FollowsEmpty, FollowsPull, Pulls, FollowsGet, HttpEntries}
use Rattle.satip_world.specs.declared.doors.ConnEnd.{ConnEnd}
use Rattle.satip_world.specs.declared.doors.ConnEnd.TheVariants.{Done, ReadFault, WriteFault}
use Rattle.satip_world.specs.declared.doors.DoorKind.{DoorKind}
use Rattle.satip_world.specs.declared.doors.DoorKind.TheVariants.{Rtsp, Http}
use Rattle.satip_world.specs.Halls.{Return}
use Rattle.satip_world.specs.Lines.{fresh_line}

-- the peer's lane was given by one of these entries, and the request is one of a tunnel's connection
pub record IsAskedOn (before : List TunnelItem) (peer : Peer) (request : Request) : Type 0 where
  pub entered : TunnelItem
  pub has : Has entered before
  pub gives : enters peer.ip entered.event entered.answer ≡ true
  pub parsed : IsParsed request

-- an entry with a reply to a request
pub record IsAsk (t : TunnelItem) (peer : Peer) (draw : Draw) (request : Request) (answer : Answer) : Type 0 where
  pub event : t.event ≡ Inner (Asks peer draw request)
  pub answer_is : t.answer ≡ InnerAnswer answer

-- each request among these entries was asked so
abbrev pub AskedWithin : List TunnelItem → Type 0
AskedWithin es =
    (a b : List TunnelItem) (t : TunnelItem) (peer : Peer) (draw : Draw) (request : Request) (answer : Answer) → es ≡ a ++ t ∷ b
    → IsAsk t peer draw request answer → IsAskedOn a peer request

-- ---- entries of the server that are no requests

record NoRequest (e : Item) : Type 0 where
  never : (peer : Peer) (draw : Draw) (request : Request) → e.event ≡ Asks peer draw request → ⊥

no_request : (e : Item) (event : Event) → e.event ≡ event → ((peer : Peer) (draw : Draw) (request : Request) → event ≡ Asks peer draw request → ⊥) → NoRequest e
no_request e event is never = record { never = λ peer draw request asks. never peer draw request (sym is ∙ asks) }

none_of : (es : List Item) → es ≡ [] → Each NoRequest es
none_of es is = subst (Each NoRequest) (sym is) tt

closes_none : (id : SessionId) (cause end : ConnEnd) (es : List Item) → Closes id cause end es → Each NoRequest es
closes_none id cause end [] closes = tt
closes_none id cause end (e ∷ []) closes = (no_request e (Close id) closes.0 (λ peer draw request is. cc is), tt)
closes_none id cause end (e ∷ f ∷ es) closes = absurd closes

reply_none : (id : SessionId) (end : ConnEnd) (reply sent : List ℕ) (es : List Item) (GoesOn : List ℕ → Type 0)
    → FollowsReply id end reply sent es GoesOn → ((rest : List ℕ) → GoesOn rest → Each NoRequest es) → Each NoRequest es
reply_none id end reply sent es GoesOn follows on =
    ⊎_elim (λ (whole : SentWhole reply sent GoesOn). on whole.rest whole.goes_on)
    (λ (cut : SentCut id end reply sent es). closes_none id WriteFault end es cut.closes) follows

empty_none : (id : SessionId) (end : ConnEnd) (sent : List ℕ) (es : List Item) (GoesOn : List ℕ → Type 0) → FollowsEmpty id end sent es GoesOn
    → ((rest : List ℕ) → GoesOn rest → Each NoRequest es) → Each NoRequest es
empty_none id end sent es GoesOn follows on =
    ⊎_elim (λ (goes : GoesOn sent). on sent goes)
    (λ (over : (sent ≡ []) × (Closes id Done end es ⊎ Closes id ReadFault end es)).
    ⊎_elim (λ (done : Closes id Done end es). closes_none id Done end es done)
    (λ (failed : Closes id ReadFault end es). closes_none id ReadFault end es failed) over.1) follows

pull_none : (id : SessionId) (end : ConnEnd) (answer : Answer) (reply sent : List ℕ) (es : List Item) (GoesOn : List ℕ → Type 0)
    → FollowsPull id end answer reply sent es GoesOn → ((rest : List ℕ) → GoesOn rest → Each NoRequest es) → Each NoRequest es
pull_none id end (Pulled (Bytes count)) reply sent es GoesOn follows on = reply_none id end reply sent es GoesOn follows on
pull_none id end (Pulled PulledEmpty) reply sent es GoesOn follows on = empty_none id end sent es GoesOn follows on
pull_none id end (Pulled PulledGone) reply sent es GoesOn follows on = none_of es follows.0
pull_none id end _ reply sent es GoesOn follows on = absurd follows

pulls_none : (id : SessionId) (end : ConnEnd) (es : List Item) (sent : List ℕ) → Pulls id end es sent → Each NoRequest es
pulls_none id end [] sent pulls = tt
pulls_none id end (e ∷ es) sent pulls = (
  no_request e (Pull id) pulls.0 (λ peer draw request is. cc is),
  pull_none id end e.answer e.out.reply sent es (Pulls id end es) pulls.1 (λ rest on. pulls_none id end es rest on),
)

get_none : (end : ConnEnd) (answer : Answer) (reply sent : List ℕ) (es : List Item) → FollowsGet end answer reply sent es → Each NoRequest es
get_none end (Got (Refused status)) reply sent es follows = none_of es follows.0
get_none end (Got (Started id)) reply sent es follows =
    reply_none id end reply sent es (Pulls id end es) follows (λ rest on. pulls_none id end es rest on)
get_none end _ reply sent es follows = absurd follows

http_none : (peer : Peer) (drawn : ℕ → Draw) (from to : ℕ) (end : ConnEnd) (es : List Item) (sent : List ℕ) (asked : Option _)
    → HttpEntries peer drawn from to end es sent asked → Each NoRequest es
http_none peer drawn from to end es sent None run = none_of es run.0
http_none peer drawn from to end [] sent (Some request) run = tt
http_none peer drawn from to end (e ∷ es) sent (Some request) run = (
  no_request e (Get peer (drawn from) request) run.0.0 (λ other draw asked is. cc is),
  get_none end e.answer e.out.reply sent es run.0.1,
)

due_none : (front : ℕ) (due : Due) (e : Item) → IsDue front due e.event → NoRequest e
due_none front (Asking reel) e is = no_request e (Ask front) is (λ peer draw request asks. cc asks)
due_none front (Feeding reel) e is =
    ⊎_elim (λ (fed : (packet : List ℕ) × (e.event ≡ Packet front reel.tune packet) × IsFirst packet reel.left).
    no_request e (Packet front reel.tune fed.0) fed.1 (λ peer draw request asks. cc asks))
    (λ (ended : e.event ≡ Ended front reel.tune). no_request e (Ended front reel.tune) ended (λ peer draw request asks. cc asks)) is
due_none front Finished e is = absurd is

pump_none : (front : ℕ) (recording : ℕ → Option (List ℕ)) (due : Due) (es : List Item) (next : Due) (early : ℕ)
    → Pumps front recording due es next early → Each NoRequest es
pump_none front recording due [] next early pumps = tt
pump_none front recording due (e ∷ es) next early pumps =
    (due_none front due e pumps.0, pump_none front recording (after_entry recording due e) es next pumps.1.0 pumps.1.1)

tick_none : (es : List Item) (moments : List ℕ) → map (λ (e : Item). e.event) es ≡ map Tick moments → Each NoRequest es
tick_none [] moments are = tt
tick_none (e ∷ es) [] are = absurd (cc are)
tick_none (e ∷ es) (moment ∷ moments) are =
    (no_request e (Tick moment) (cc are) (λ peer draw request asks. cc asks), tick_none es moments (cc are))

-- a request's entry is one of the server
inner_of : (t : TunnelItem) (event : Event) (answer : Answer) → t.event ≡ Inner event → t.answer ≡ InnerAnswer answer
    → inner_by t.caller t.event t.answer t.out ≡ entry t.caller event answer t.out ∷ []
inner_of t event answer event_is answer_is =
    ap (λ (e : TunnelEvent). inner_by t.caller e t.answer t.out) event_is
    ∙ ap (λ (a : TunnelAnswer). inner_by t.caller (Inner event) a t.out) answer_is

pub has_inner : (t : TunnelItem) (event : Event) (answer : Answer) (es : List TunnelItem) → t.event ≡ Inner event → t.answer ≡ InnerAnswer answer → Has t es
    → Has (entry t.caller event answer t.out) (inners es)
has_inner t event answer [] event_is answer_is has = absurd has
has_inner t event answer (u ∷ us) event_is answer_is has =
    let e : Item = entry t.caller event answer t.out in
    ⊎_elim (λ (same : t ≡ u).
    let here : inner_by u.caller u.event u.answer u.out ≡ e ∷ [] =
    ap (λ (v : TunnelItem). inner_by v.caller v.event v.answer v.out) (sym same) ∙ inner_of t event answer event_is answer_is in
    Has-append_left e (inner_by u.caller u.event u.answer u.out) (inners us) (subst (λ (xs : List Item). Has e xs) (sym here) (inl refl)))
    (λ (later : Has t us).
    Has-append_right e (inner_by u.caller u.event u.answer u.out) (inners us) (has_inner t event answer us event_is answer_is later)) has

-- entries among which the server's are no requests
none_within : (es : List TunnelItem) → Each NoRequest (inners es) → AskedWithin es
none_within es none a b t peer draw request answer whole asks =
    let has : Has t es = subst (λ (xs : List TunnelItem). Has t xs) (sym whole) (Has-append_right t a (t ∷ b) (inl refl)) in
    let found = has_inner t (Asks peer draw request) answer es asks.event asks.answer_is has in
    absurd ((each_at NoRequest (inners es) (entry t.caller (Asks peer draw request) answer t.out) none found).never peer draw request refl)

-- ---- one connection

has_drawn : (peer other : Peer) (draw : Draw) (request : Request) (draws : List Draw) (made : List Request)
    → Has (Asks peer draw request) (drawn_events other draws made) → Has request made
has_drawn peer other draw request [] made has = absurd has
has_drawn peer other draw request (d ∷ draws) [] has = absurd has
has_drawn peer other draw request (d ∷ draws) (r ∷ made) has =
    ⊎_elim (λ same. let is : request ≡ r = cc same in inl is) (λ later. inr (has_drawn peer other draw request draws made later)) has

has_event : (e : Item) (es : List Item) → Has e es → Has e.event (events_of es)
has_event e [] has = absurd has
has_event e (f ∷ es) has = ⊎_elim (λ same. inl (ap (λ (x : Item). x.event) same)) (λ later. inr (has_event e es later)) has

walk_peer : (lane : ℕ) (from to : Stance) (es : List TunnelItem) (t : TunnelItem) (peer : Peer) (draw : Draw) (request : Request) → Walk lane from es to
    → Has t es → t.event ≡ Inner (Asks peer draw request) → peer ≡ lane_peer lane
walk_peer lane from to [] t peer draw request walk has is = absurd has
walk_peer lane from to (u ∷ us) t peer draw request walk has is =
    ⊎_elim (λ (same : t ≡ u).
    let F : TunnelEvent → Type 0 = λ e. Follows lane from e u.answer walk.0 in
    (subst F (ap (λ (v : TunnelItem). v.event) (sym same) ∙ is) walk.1).0)
    (λ (later : Has t us). walk_peer lane walk.0 to us t peer draw request walk.2 later is) has

pub last_no_request : (lane : ℕ) (full : Type 0) (end : TunnelEnd) (last : List TunnelItem) (t : TunnelItem) (event : Event) → Leaves lane full end last
    → Has t last → t.event ≡ Inner event → ⊥
last_no_request lane full end last t event leaves has is = by end leaves
  where
    in_leave : (es : List TunnelItem) → IsLeave lane es → Has t es → ⊥
    in_leave [] leave has = absurd has
    in_leave (u ∷ []) leave has =
        ⊎_elim (λ same. let e : Inner event ≡ Leave lane = sym is ∙ ap (λ (v : TunnelItem). v.event) same ∙ leave.0 in cc e) (λ none. none) has
    in_leave (u ∷ v ∷ us) leave has = absurd leave

    in_none : (es : List TunnelItem) → es ≡ [] → Has t es → ⊥
    in_none es none has = subst (λ (xs : List TunnelItem). Has t xs) none has

    by : (end : TunnelEnd) → Leaves lane full end last → ⊥
    by end_full l = l
    by end_broken l = ⊎_elim (λ (x : IsLeave lane last). in_leave last x has) (λ (x : IsUnleft full last). in_none last x.0 has) l
    by end_done l = in_leave last l has
    by end_unread l = in_leave last l has
    by end_lost l = ⊎_elim (λ (x : IsLeave lane last). in_leave last x has) (λ (x : IsUnleft full last). in_none last x.0 has) l
    by end_spent l = in_none last l.0 has

pub has_split : {T : Type 0} (x : T) (xs ys : List T) → Has x (xs ++ ys) → Has x xs ⊎ Has x ys
has_split x [] ys has = inr has
has_split x (y ∷ xs) ys (inl here) = inl (inl here)
has_split x (y ∷ xs) ys (inr later) = ⊎_elim (λ (h : Has x xs). inl (inr h)) (λ (h : Has x ys). inr h) (has_split x xs ys later)

record AskedOfLane (lane : ℕ) (peer : Peer) (request : Request) : Type 0 where
  peer_is : peer ≡ lane_peer lane
  parsed : IsParsed request

lane_asked : (lane : ℕ) (draws : List Draw) (received sent : List ℕ) (full : Type 0) (end : TunnelEnd) (es : List TunnelItem) (t : TunnelItem)
    (peer : Peer) (draw : Draw) (request : Request) (answer : Answer) → LaneRun lane draws received sent full end es → Has t es
    → IsAsk t peer draw request answer → AskedOfLane lane peer request
lane_asked lane draws received sent full end es t peer draw request answer run has asks =
    ⊎_elim (λ (in_body : Has t run.body).
    let e : Item = entry t.caller (Asks peer draw request) answer t.out in
    let event : Has (Asks peer draw request) (drawn_events (lane_peer lane) draws run.made) =
    subst (λ (events : List Event). Has (Asks peer draw request) events) run.events
    (has_event e (inners run.body) (has_inner t (Asks peer draw request) answer run.body asks.event asks.answer_is in_body)) in
    record {
      peer_is = walk_peer lane _ run.stance run.body t peer draw request run.walk in_body asks.event;
      parsed = all_parsed received (run.made ++ run.left) request run.asks
          (Has-append_left request run.made run.left (has_drawn peer (lane_peer lane) draw request draws run.made event));
    })
    (λ (in_last : Has t run.last). absurd (last_no_request lane full end run.last t (Asks peer draw request) run.leaves in_last asks.event))
    (has_split t run.body run.last (subst (λ (xs : List TunnelItem). Has t xs) run.entries_are has))

entered_asked : (enter : TunnelItem) (answered : TunnelAnswer) (draws : List Draw) (received sent : List ℕ) (full : Type 0) (end : TunnelEnd)
    (es : List TunnelItem) (t : TunnelItem) (peer : Peer) (draw : Draw) (request : Request) (answer : Answer) → enter.event ≡ Enter → enter.answer ≡ answered
    → EnteredRun answered draws received sent full end es → Has t es → IsAsk t peer draw request answer
    → (enters peer.ip enter.event enter.answer ≡ true) × IsParsed request
entered_asked enter (Lane lane) draws received sent full end es t peer draw request answer event_is answer_is run has asks =
    let asked = lane_asked lane draws received sent full end es t peer draw request answer run has asks in (
      ap (λ (e : TunnelEvent). enters peer.ip e enter.answer) event_is ∙ ap (enters peer.ip Enter) answer_is
          ∙ same_numbers lane peer.ip (sym (ap (λ (p : Peer). p.ip) asked.peer_is)),
      asked.parsed,
    )
entered_asked enter no_lane draws received sent full end es t peer draw request answer event_is answer_is run has asks =
    absurd (subst (λ (xs : List TunnelItem). Has t xs) run.1.none has)
entered_asked enter (InnerAnswer a) draws received sent full end es t peer draw request answer event_is answer_is run has asks = absurd run
entered_asked enter (Frames count) draws received sent full end es t peer draw request answer event_is answer_is run has asks = absurd run
entered_asked enter Empty draws received sent full end es t peer draw request answer event_is answer_is run has asks = absurd run
entered_asked enter Broken draws received sent full end es t peer draw request answer event_is answer_is run has asks = absurd run
entered_asked enter Gone draws received sent full end es t peer draw request answer event_is answer_is run has asks = absurd run
entered_asked enter Left draws received sent full end es t peer draw request answer event_is answer_is run has asks = absurd run

heads : (x y : TunnelItem) (xs ys : List TunnelItem) → x ∷ xs ≡ y ∷ ys → (x ≡ y) × (xs ≡ ys)
heads x y xs ys e = (cc e, cc e)

pub run_asked : (draws : List Draw) (received sent : List ℕ) (full : Type 0) (end : TunnelEnd) (es : List TunnelItem)
    → TunnelRun draws received sent full end es → AskedWithin es
run_asked draws received sent full end [] run [] b t peer draw request answer whole asks = absurd (cc whole)
run_asked draws received sent full end [] run (u ∷ a) b t peer draw request answer whole asks = absurd (cc whole)
run_asked draws received sent full end (e ∷ es) run [] b t peer draw request answer whole asks =
    let same = (heads e t es b whole).0 in
    let wrong : Enter ≡ Inner (Asks peer draw request) = sym run.0 ∙ ap (λ (v : TunnelItem). v.event) same ∙ asks.event in
    absurd (cc wrong)
run_asked draws received sent full end (e ∷ es) run (u ∷ a) b t peer draw request answer whole asks =
    let both = heads e u es (a ++ t ∷ b) whole in
    let has : Has t es = subst (λ (xs : List TunnelItem). Has t xs) (sym both.1) (Has-append_right t a (t ∷ b) (inl refl)) in
    let asked = entered_asked e e.answer draws received sent full end es t peer draw request answer run.0 refl run.1 has asks in
    record { entered = e; has = inl both.0; gives = asked.0; parsed = asked.1 }

conn_asked : (kind : DoorKind) (tells full : Type 0) (drawn : ℕ → Draw) (from to : ℕ) (r : Return) (es : List TunnelItem)
    → MatchKind kind (RtspServed tells full drawn from to fresh_line r es) (HttpServed tells drawn from to fresh_line r es) → AskedWithin es
conn_asked Rtsp tells full drawn from to r es served = run_asked served.draws served.received served.sent full served.tunnel_end es served.run
conn_asked Http tells full drawn from to r es served =
    none_within es (http_none r.peer drawn from to r.end (inners es) served.sent (asked_first served.run.messages served.run.tail) served.run.entries_are)

-- ---- connections one after another

record IsInFirst (own a b : List TunnelItem) (t : TunnelItem) : Type 0 where
  rest : List TunnelItem
  whole : own ≡ a ++ t ∷ rest

record IsInOthers (own others a b : List TunnelItem) (t : TunnelItem) : Type 0 where
  part : List TunnelItem
  before : a ≡ own ++ part
  whole : others ≡ part ++ t ∷ b

which_part : (own others a b : List TunnelItem) (t : TunnelItem) → own ++ others ≡ a ++ t ∷ b → IsInFirst own a b t ⊎ IsInOthers own others a b t
which_part [] others a b t e = inr (record { part = a; before = refl; whole = e })
which_part (x ∷ own) others [] b t e =
    let both = heads x t (own ++ others) b e in
    inl (record { rest = own; whole = ap (λ (u : TunnelItem). u ∷ own) both.0 })
which_part (x ∷ own) others (u ∷ a) b t e =
    let both = heads x u (own ++ others) (a ++ t ∷ b) e in
    ⊎_elim (λ (first : IsInFirst own a b t).
    inl (record { rest = first.rest; whole = ap (λ (v : TunnelItem). v ∷ own) both.0 ∙ ap (λ (vs : List TunnelItem). u ∷ vs) first.whole }))
    (λ (behind : IsInOthers own others a b t).
    inr (record {
      part = behind.part;
      before = ap (λ (vs : List TunnelItem). u ∷ vs) behind.before ∙ ap (λ (v : TunnelItem). v ∷ (own ++ behind.part)) (sym both.0);
      whole = behind.whole;
    })) (which_part own others a b t both.1)

all_asked : (tells full : Type 0) (drawn : ℕ → Draw) (from to : ℕ) (rs : List Return) (es : List TunnelItem) → ServesAll tells full drawn from to rs es
    → AskedWithin es
all_asked tells full drawn from to [] es served a b t peer draw request answer whole asks =
    none_within [] tt a b t peer draw request answer (sym served.1 ∙ whole) asks
all_asked tells full drawn from to (r ∷ rs) es served a b t peer draw request answer whole asks =
    ⊎_elim (λ (first : IsInFirst served.own a b t).
    conn_asked r.kind tells full drawn from served.between r served.own served.served a first.rest t peer draw request answer first.whole asks)
    (λ (behind : IsInOthers served.own served.others a b t).
    let asked = all_asked tells full drawn served.between to rs served.others served.rest behind.part b t peer draw request answer behind.whole asks in
    record {
      entered = asked.entered;
      has = subst (λ (xs : List TunnelItem). Has asked.entered xs) (sym behind.before) (Has-append_right asked.entered served.own behind.part asked.has);
      gives = asked.gives;
      parsed = asked.parsed;
    }) (which_part served.own served.others a b t (sym served.whole ∙ whole))

-- ---- all callers

workers_ask : (tells full cut : Type 0) (accepts from : ℕ) (workers : List WorkerView) (rows : List TunnelRow)
    → Along (TunnelWorkerDone tells full cut accepts) from workers rows → Each (λ (r : TunnelRow). AskedWithin r.own) rows
workers_ask tells full cut accepts from [] [] along = tt
workers_ask tells full cut accepts from [] (r ∷ rs) along = absurd along
workers_ask tells full cut accepts from (w ∷ ws) [] along = absurd along
workers_ask tells full cut accepts from (w ∷ ws) (r ∷ rs) along =
    let done = along.0 in (
      all_asked tells full (draw_at w.key from) 0 done.draws done.connections r.own done.served,
      workers_ask tells full cut accepts (from + 1) ws rs along.1,
    )

pumps_ask : (full : Type 0) (from : ℕ) (pumps : List PumpView) (rows : List TunnelRow) → Along (TunnelPumpDone full) from pumps rows
    → Each (λ (r : TunnelRow). AskedWithin r.own) rows
pumps_ask full from [] [] along = tt
pumps_ask full from [] (r ∷ rs) along = absurd along
pumps_ask full from (p ∷ ps) [] along = absurd along
pumps_ask full from (p ∷ ps) (r ∷ rs) along =
    let done = along.0.done in (
      none_within r.own (pump_none from p.recording (Asking None) (inners r.own) done.due done.early done.pumps),
      pumps_ask full (from + 1) ps rs along.1,
    )

stop_asks : (full : Type 0) (h : List TunnelItem) (callers : List TunnelRow) → StopsOnce IsTunnelStop h callers ⊎ HasNoStop full h → AskedWithin (own_of 0 h)
stop_asks full h callers stopped a b t peer draw request answer whole asks =
    ⊎_elim (λ (once : StopsOnce IsTunnelStop h callers).
    let has : Has t (once.stop ∷ []) =
    subst (λ (xs : List TunnelItem). Has t xs) (sym whole ∙ once.own) (Has-append_right t a (t ∷ b) (inl refl)) in
    ⊎_elim (λ (same : t ≡ once.stop).
    let wrong : Inner Stop ≡ Inner (Asks peer draw request) = sym once.is_stop ∙ ap (λ (v : TunnelItem). v.event) (sym same) ∙ asks.event in
    absurd (cc wrong)) (λ (none : ⊥). absurd none) has)
    (λ (never : HasNoStop full h).
    none_within [] tt a b t peer draw request answer (sym never.own ∙ whole) asks) stopped

row_asks : (h : List TunnelItem) (rows : List TunnelRow) (n : ℕ) → Each (λ (r : TunnelRow). own_of r.number h ≡ r.own) rows
    → Each (λ (r : TunnelRow). AskedWithin r.own) rows → Has n (numbers_of rows) → AskedWithin (own_of n h)
row_asks h [] n own asks has = absurd has
row_asks h (r ∷ rs) n own asks has =
    ⊎_elim (λ (same : n ≡ r.number).
    subst (λ (es : List TunnelItem). AskedWithin es) (sym (ap (λ (k : ℕ). own_of k h) same ∙ own.0)) asks.0)
    (λ (later : Has n (numbers_of rs)). row_asks h rs n own.1 asks.1 later) has

-- each request of a run was asked on a lane
pub run_asks : (conn_tells cut : Type 0) (c : Setting) (accepts : ℕ) (pass : ShownPass) (jobs : JobsView) → TunnelServeRun conn_tells cut c accepts pass jobs
    → AskedWithin pass.seen
run_asks conn_tells cut c accepts pass jobs run a b t peer draw request answer whole asks =
    let seen : List TunnelItem = pass.seen in
    let n : ℕ = t.caller in
    let Asks : TunnelRow → Type 0 = λ r. AskedWithin r.own in
    let ticked = run.ticked.done in
    let all : Each Asks ((run.of_workers ++ run.of_pumps) ++ run.of_ticker ∷ []) =
    Each-append Asks (run.of_workers ++ run.of_pumps) (run.of_ticker ∷ [])
    (Each-append Asks run.of_workers run.of_pumps (workers_ask conn_tells (IsFull seen) cut accepts 1 jobs.workers run.of_workers run.worked)
    (pumps_ask cut 1 jobs.pumps run.of_pumps run.pumped))
    (none_within run.of_ticker.own (tick_none (inners run.of_ticker.own) ticked.moments ticked.events), tt) in
    let of_rows : Each Asks pass.kept = subst (λ (rs : List TunnelRow). Each Asks rs) (sym run.callers) all in
    let own : own_of n seen ≡ own_of n a ++ t ∷ own_of n b =
    ap (λ (es : List TunnelItem). own_of n es) whole ∙ own_of-append n a (t ∷ b)
    ∙ ap (λ (es : List TunnelItem). own_of n a ++ es) (own_of-cons_same n t b refl) in
    let has : Has t seen = subst (λ (xs : List TunnelItem). Has t xs) (sym whole) (Has-append_right t a (t ∷ b) (inl refl)) in
    let within : AskedWithin (own_of n seen) =
    ⊎_elim (λ (zero : n ≡ 0). subst (λ (k : ℕ). AskedWithin (own_of k seen)) (sym zero) (stop_asks cut seen run.of_workers run.stopped))
    (λ (later : Has n (numbers_of pass.kept)). row_asks seen pass.kept n run.entries of_rows later)
    (each_at (λ (u : TunnelItem). Has u.caller (0 ∷ numbers_of pass.kept)) seen t run.covered has) in
    let asked = within (own_of n a) (own_of n b) t peer draw request answer own asks in
    record { entered = asked.entered; has = (among_own n a asked.entered asked.has).has; gives = asked.gives; parsed = asked.parsed }
