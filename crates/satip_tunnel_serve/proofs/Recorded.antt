-- In a run of a tunnel the packets of a front end are its pump's, so that they are of recordings.
use Rattle.std.proofs.Common.{◌≡◌, ◌∙◌, ℕ, ◌+◌, ◌==◌, Bool, true, false, List, [], ◌∷◌, ◌++◌, map, arith, if◌then◌else◌, refl, sym, ap, subst, ⊎_elim}
use Rattle.std.specs.Prelude.{◌⊎◌}
use Rattle.std.proofs.lemmas.List.{map-append}
use Rattle.satip_base.specs.declared.identity.Draw.{Draw}
use Rattle.satip_base.specs.declared.network.Peer.{Peer}
use Rattle.satip_base.specs.History.{entry, kept_if, own_of}
use Rattle.satip_base.specs.Output.{Output}
use Rattle.satip_base.specs.Lists.{Each, Has}
use Rattle.satip_base.proofs.Elements.{Each-append, Each-append_left, Each-append_right}
use Rattle.satip_interleave.proofs.Entries.{inners-append}
use Rattle.satip_interleave.specs.Calling.{ShownPass}
use Rattle.satip_interleave.specs.declared.events.TunnelEvent.{TunnelEvent}
use Rattle.satip_interleave.specs.declared.events.TunnelEvent.TheVariants.{Inner, Enter, Drain, Leave}
use Rattle.satip_interleave.specs.declared.events.TunnelAnswer.{TunnelAnswer}
use Rattle.satip_interleave.specs.declared.events.TunnelAnswer.TheVariants.{Inner as InnerAnswer, Lane, Full, Frames, Empty, Broken, Gone, Left}
use Rattle.satip_interleave.specs.Histories.{TunnelItem, inner_by, inners}
use Rattle.satip_jobs.specs.Passes.{IsFull}
use Rattle.satip_jobs.specs.Runs.{Along, HasNoStop, StopsOnce}
use Rattle.satip_laws.specs.Recorded.{PacketsAreOf}
use Rattle.satip_plain.specs.declared.events.Event.{Event}
use Rattle.satip_plain.specs.declared.events.Event.TheVariants.{Request as Asks, Stop}
use Rattle.satip_plain.specs.declared.setting.Setting.{Setting}
use Rattle.satip_plain.specs.Histories.{Item}
use Rattle.satip_rtsp.specs.declared.requests.Request.{Request}
use Rattle.satip_turn.specs.Views.{numbers_of}
use Rattle.satip_desk.specs.Views.{WorkerView, PumpView, JobsView}
use Rattle.satip_serve.specs.Done.{Caller, PumpDone}
use Rattle.satip_serve.specs.Laws.{GivesRecordings, PlaysRecordings}
use Rattle.satip_serve.proofs.PumpPackets.{GivesAs, HasAt, each_plays, packets_are_of, pumps_give, quiet_gives}
use Rattle.satip_serve.proofs.Quiet.{IsQuiet, http_quiet, quiet_event, ticks_quiet}
use Rattle.satip_tunnel.specs.declared.ends.TunnelEnd.{TunnelEnd}
use Rattle.satip_tunnel.specs.declared.ends.TunnelEnd.TheVariants.{Full as end_full, Broken as end_broken, Done as end_done, ReadFault as end_unread, WriteFault as end_lost, Spent as end_spent}
use Rattle.satip_tunnel.specs.ConnRun.{HttpServed, MatchKind, RtspServed}
use Rattle.satip_tunnel.specs.Ends.{IsLeave, IsUnleft, Leaves}
use Rattle.satip_tunnel.specs.Requests.{drawn_events}
use Rattle.satip_tunnel.specs.TunnelRun.{EnteredRun, LaneRun, TunnelRun}
use Rattle.satip_tunnel.specs.Walk.{lane_peer}
use Rattle.satip_tunnel.specs.WorkerRun.{ServesAll}
use Rattle.satip_tunnel_serve.specs.Done.{TunnelPumpDone, TunnelRow, TunnelWorkerDone, inner_row}
use Rattle.satip_tunnel_serve.specs.TunnelRuns.{IsTunnelStop, TunnelServeRun}
use Rattle.satip_worker.specs.Answers.{events_of}
use Rattle.satip_worker.specs.Drawing.{draw_at}
use Rattle.satip_worker.specs.HttpRun.{asked_first}
use Rattle.satip_world.specs.declared.doors.DoorKind.{DoorKind}
use Rattle.satip_world.specs.declared.doors.DoorKind.TheVariants.{Rtsp, Http}
use Rattle.satip_world.specs.Halls.{Return}
use Rattle.satip_world.specs.Lines.{fresh_line}

-- ---- the server's entries of one caller

own_inner : (n caller : ℕ) (event : TunnelEvent) (answer : TunnelAnswer) (out : Output) (rest : List Item) (b : Bool) → (caller == n) ≡ b
    → own_of n (inner_by caller event answer out ++ rest) ≡ (if b then inner_by caller event answer out ++ own_of n rest else own_of n rest)
own_inner n caller (Inner event) (InnerAnswer answer) out rest true is = ap (λ b. kept_if b (entry caller event answer out) (own_of n rest)) is
own_inner n caller (Inner event) (InnerAnswer answer) out rest false is = ap (λ b. kept_if b (entry caller event answer out) (own_of n rest)) is
own_inner n caller (Inner event) (Lane lane) out rest true is = refl
own_inner n caller (Inner event) (Lane lane) out rest false is = refl
own_inner n caller (Inner event) Full out rest true is = refl
own_inner n caller (Inner event) Full out rest false is = refl
own_inner n caller (Inner event) (Frames count) out rest true is = refl
own_inner n caller (Inner event) (Frames count) out rest false is = refl
own_inner n caller (Inner event) Empty out rest true is = refl
own_inner n caller (Inner event) Empty out rest false is = refl
own_inner n caller (Inner event) Broken out rest true is = refl
own_inner n caller (Inner event) Broken out rest false is = refl
own_inner n caller (Inner event) Gone out rest true is = refl
own_inner n caller (Inner event) Gone out rest false is = refl
own_inner n caller (Inner event) Left out rest true is = refl
own_inner n caller (Inner event) Left out rest false is = refl
own_inner n caller Enter answer out rest true is = refl
own_inner n caller Enter answer out rest false is = refl
own_inner n caller (Drain lane) answer out rest true is = refl
own_inner n caller (Drain lane) answer out rest false is = refl
own_inner n caller (Leave lane) answer out rest true is = refl
own_inner n caller (Leave lane) answer out rest false is = refl

own_inners : (n : ℕ) (h : List TunnelItem) → own_of n (inners h) ≡ inners (own_of n h)
own_inners n [] = refl
own_inners n (t ∷ ts) = by (t.caller == n) refl (own_inners n ts)
  where
    by : (b : Bool) → (t.caller == n) ≡ b → own_of n (inners ts) ≡ inners (own_of n ts)
        → own_of n (inner_by t.caller t.event t.answer t.out ++ inners ts) ≡ inners (kept_if b t (own_of n ts))
    by true is rest =
        own_inner n t.caller t.event t.answer t.out (inners ts) true is ∙ ap (λ (es : List Item). inner_by t.caller t.event t.answer t.out ++ es) rest
    by false is rest = own_inner n t.caller t.event t.answer t.out (inners ts) false is ∙ rest

-- what holds of each entry's caller
each_inner : (P : ℕ → Type 0) (caller : ℕ) (event : TunnelEvent) (answer : TunnelAnswer) (out : Output) (rest : List Item) → P caller
    → Each (λ (e : Item). P e.caller) rest → Each (λ (e : Item). P e.caller) (inner_by caller event answer out ++ rest)
each_inner P caller (Inner event) (InnerAnswer answer) out rest here later = (here, later)
each_inner P caller (Inner event) (Lane lane) out rest here later = later
each_inner P caller (Inner event) Full out rest here later = later
each_inner P caller (Inner event) (Frames count) out rest here later = later
each_inner P caller (Inner event) Empty out rest here later = later
each_inner P caller (Inner event) Broken out rest here later = later
each_inner P caller (Inner event) Gone out rest here later = later
each_inner P caller (Inner event) Left out rest here later = later
each_inner P caller Enter answer out rest here later = later
each_inner P caller (Drain lane) answer out rest here later = later
each_inner P caller (Leave lane) answer out rest here later = later

covered_inners : (P : ℕ → Type 0) (h : List TunnelItem) → Each (λ (t : TunnelItem). P t.caller) h → Each (λ (e : Item). P e.caller) (inners h)
covered_inners P [] covered = tt
covered_inners P (t ∷ ts) covered = each_inner P t.caller t.event t.answer t.out (inners ts) covered.0 (covered_inners P ts covered.1)

-- ---- entries that are no packets

heads : (a b : Event) (xs ys : List Event) → a ∷ xs ≡ b ∷ ys → (a ≡ b) × (xs ≡ ys)
heads a b xs ys e = (cc e, cc e)

drawn_quiet : (peer : Peer) (draws : List Draw) (made : List Request) (es : List Item) → events_of es ≡ drawn_events peer draws made → Each IsQuiet es
drawn_quiet peer draws made [] are = tt
drawn_quiet peer [] made (e ∷ es) are = absurd (cc are)
drawn_quiet peer (draw ∷ draws) [] (e ∷ es) are = absurd (cc are)
drawn_quiet peer (draw ∷ draws) (request ∷ made) (e ∷ es) are =
    let both = heads e.event (Asks peer draw request) (events_of es) (drawn_events peer draws made) are in
    (quiet_event e (Asks peer draw request) both.0 (λ front. refl), drawn_quiet peer draws made es both.1)

-- entries before which an event of a lane stands
after_lane : (t : TunnelItem) (event : TunnelEvent) (rest : List Item) → t.event ≡ event
    → Each IsQuiet (inner_by t.caller event t.answer t.out ++ rest) → Each IsQuiet (inner_by t.caller t.event t.answer t.out ++ rest)
after_lane t event rest is quiet = subst (λ (e : TunnelEvent). Each IsQuiet (inner_by t.caller e t.answer t.out ++ rest)) (sym is) quiet

leave_quiet : (lane : ℕ) (last : List TunnelItem) → IsLeave lane last → Each IsQuiet (inners last)
leave_quiet lane [] leave = absurd leave
leave_quiet lane (t ∷ []) leave = after_lane t (Leave lane) [] leave.0 tt
leave_quiet lane (t ∷ u ∷ ts) leave = absurd leave

none_quiet : (es : List TunnelItem) → es ≡ [] → Each IsQuiet (inners es)
none_quiet es none = subst (λ (ts : List TunnelItem). Each IsQuiet (inners ts)) (sym none) tt

last_quiet : (lane : ℕ) (full : Type 0) (end : TunnelEnd) (last : List TunnelItem) → Leaves lane full end last → Each IsQuiet (inners last)
last_quiet lane full end_full last leaves = absurd leaves
last_quiet lane full end_broken last leaves =
    ⊎_elim (λ (is : IsLeave lane last). leave_quiet lane last is) (λ (is : IsUnleft full last). none_quiet last is.0) leaves
last_quiet lane full end_done last leaves = leave_quiet lane last leaves
last_quiet lane full end_unread last leaves = leave_quiet lane last leaves
last_quiet lane full end_lost last leaves =
    ⊎_elim (λ (is : IsLeave lane last). leave_quiet lane last is) (λ (is : IsUnleft full last). none_quiet last is.0) leaves
last_quiet lane full end_spent last leaves = none_quiet last leaves.0

lane_quiet : (lane : ℕ) (draws : List Draw) (received sent : List ℕ) (full : Type 0) (end : TunnelEnd) (es : List TunnelItem)
    → LaneRun lane draws received sent full end es → Each IsQuiet (inners es)
lane_quiet lane draws received sent full end es run =
    subst (λ (ts : List TunnelItem). Each IsQuiet (inners ts)) (sym run.entries_are)
    (subst (Each IsQuiet) (sym (inners-append run.body run.last))
    (Each-append IsQuiet (inners run.body) (inners run.last) (drawn_quiet (lane_peer lane) draws run.made (inners run.body) run.events)
    (last_quiet lane full end run.last run.leaves)))

entered_quiet : (answer : TunnelAnswer) (draws : List Draw) (received sent : List ℕ) (full : Type 0) (end : TunnelEnd) (es : List TunnelItem)
    → EnteredRun answer draws received sent full end es → Each IsQuiet (inners es)
entered_quiet (Lane lane) draws received sent full end es run = lane_quiet lane draws received sent full end es run
entered_quiet Full draws received sent full end es run = none_quiet es run.1.none
entered_quiet (InnerAnswer answer) draws received sent full end es run = absurd run
entered_quiet (Frames count) draws received sent full end es run = absurd run
entered_quiet Empty draws received sent full end es run = absurd run
entered_quiet Broken draws received sent full end es run = absurd run
entered_quiet Gone draws received sent full end es run = absurd run
entered_quiet Left draws received sent full end es run = absurd run

run_quiet : (draws : List Draw) (received sent : List ℕ) (full : Type 0) (end : TunnelEnd) (es : List TunnelItem)
    → TunnelRun draws received sent full end es → Each IsQuiet (inners es)
run_quiet draws received sent full end [] run = tt
run_quiet draws received sent full end (t ∷ ts) run = after_lane t Enter (inners ts) run.0 (entered_quiet t.answer draws received sent full end ts run.1)

conn_quiet : (kind : DoorKind) (tells full : Type 0) (drawn : ℕ → Draw) (from to : ℕ) (r : Return) (es : List TunnelItem)
    → MatchKind kind (RtspServed tells full drawn from to fresh_line r es) (HttpServed tells drawn from to fresh_line r es) → Each IsQuiet (inners es)
conn_quiet Rtsp tells full drawn from to r es served = run_quiet served.draws served.received served.sent full served.tunnel_end es served.run
conn_quiet Http tells full drawn from to r es served =
    http_quiet r.peer drawn from to r.end (inners es) served.sent (asked_first served.run.messages served.run.tail) served.run.entries_are

all_quiet : (tells full : Type 0) (drawn : ℕ → Draw) (from to : ℕ) (rs : List Return) (es : List TunnelItem) → ServesAll tells full drawn from to rs es
    → Each IsQuiet (inners es)
all_quiet tells full drawn from to [] es served = none_quiet es served.1
all_quiet tells full drawn from to (r ∷ rs) es served =
    subst (λ (ts : List TunnelItem). Each IsQuiet (inners ts)) (sym served.whole)
    (subst (Each IsQuiet) (sym (inners-append served.own served.others))
    (Each-append IsQuiet (inners served.own) (inners served.others)
    (conn_quiet r.kind tells full drawn from served.between r served.own served.served)
    (all_quiet tells full drawn served.between to rs served.others served.rest)))

stop_quiet : (t : TunnelItem) (answer : TunnelAnswer) → t.event ≡ Inner Stop → Each IsQuiet (inner_by t.caller (Inner Stop) answer t.out ++ [])
stop_quiet t (InnerAnswer answer) is = (quiet_event _ Stop refl (λ front. refl), tt)
stop_quiet t (Lane lane) is = tt
stop_quiet t Full is = tt
stop_quiet t (Frames count) is = tt
stop_quiet t Empty is = tt
stop_quiet t Broken is = tt
stop_quiet t Gone is = tt
stop_quiet t Left is = tt

caller_0_quiet : (full : Type 0) (h : List TunnelItem) (callers : List TunnelRow) → StopsOnce IsTunnelStop h callers ⊎ HasNoStop full h
    → Each IsQuiet (own_of 0 (inners h))
caller_0_quiet full h callers stopped =
    subst (Each IsQuiet) (sym (own_inners 0 h))
    (⊎_elim (λ (once : StopsOnce IsTunnelStop h callers). subst (λ (es : List TunnelItem). Each IsQuiet (inners es)) (sym once.own)
    (after_lane once.stop (Inner Stop) [] once.is_stop (stop_quiet once.stop once.stop.answer once.is_stop)))
    (λ (never : HasNoStop full h). none_quiet (own_of 0 h) never.own) stopped)

-- ---- callers with the server's entries alone

inner_numbers : (rows : List TunnelRow) → numbers_of (map inner_row rows) ≡ numbers_of rows
inner_numbers [] = refl
inner_numbers (r ∷ rs) = ap (λ (ns : List ℕ). r.number ∷ ns) (inner_numbers rs)

inner_owns : (h : List TunnelItem) (rows : List TunnelRow) → Each (λ (r : TunnelRow). own_of r.number h ≡ r.own) rows
    → Each (λ (r : Caller). own_of r.number (inners h) ≡ r.own) (map inner_row rows)
inner_owns h [] own = tt
inner_owns h (r ∷ rs) own = (own_inners r.number h ∙ ap (λ (es : List TunnelItem). inners es) own.0, inner_owns h rs own.1)

workers_give : (conn_tells full cut : Type 0) (accepts front number from : ℕ) (workers : List WorkerView) (rows : List TunnelRow)
    → Along (TunnelWorkerDone conn_tells full cut accepts) from workers rows → Each (GivesAs front number) (map inner_row rows)
workers_give tells full cut accepts front number from [] [] along = tt
workers_give tells full cut accepts front number from [] (r ∷ rs) along = absurd along
workers_give tells full cut accepts front number from (w ∷ ws) [] along = absurd along
workers_give tells full cut accepts front number from (w ∷ ws) (r ∷ rs) along =
    let done = along.0 in (
      quiet_gives front number (inner_row r) (all_quiet tells full (draw_at w.key from) 0 done.draws done.connections r.own done.served),
      workers_give tells full cut accepts front number (from + 1) ws rs along.1,
    )

inner_pumps : (cut : Type 0) (from : ℕ) (pumps : List PumpView) (rows : List TunnelRow) → Along (TunnelPumpDone cut) from pumps rows
    → Along (PumpDone ⊥ cut) from pumps (map inner_row rows)
inner_pumps cut from [] [] along = tt
inner_pumps cut from [] (r ∷ rs) along = absurd along
inner_pumps cut from (p ∷ ps) [] along = absurd along
inner_pumps cut from (p ∷ ps) (r ∷ rs) along = (along.0.done, inner_pumps cut (from + 1) ps rs along.1)

pub tunnel_plays : (conn_tells cut : Type 0) (c : Setting) (accepts : ℕ) (pass : ShownPass) (jobs : JobsView)
    → TunnelServeRun conn_tells cut c accepts pass jobs
    → GivesRecordings c (inners pass.seen) → PlaysRecordings c (inners pass.seen) jobs.pumps
tunnel_plays conn_tells cut c accepts pass jobs run gives =
    let seen : List TunnelItem = pass.seen in
    let kept : List TunnelRow = pass.kept in
    let h : List Item = inners seen in
    let ws : List Caller = map inner_row run.of_workers in
    let ps : List Caller = map inner_row run.of_pumps in
    let last : Caller = inner_row run.of_ticker in
    let rows : map inner_row kept ≡ (ws ++ ps) ++ last ∷ [] =
    ap (map inner_row) run.callers ∙ map-append inner_row (run.of_workers ++ run.of_pumps) (run.of_ticker ∷ [])
    ∙ ap (λ (front : List Caller). front ++ last ∷ []) (map-append inner_row run.of_workers run.of_pumps) in
    let own : Each (λ (r : Caller). own_of r.number h ≡ r.own) (map inner_row kept) = inner_owns seen kept run.entries in
    let covered : Each (λ (e : Item). Has e.caller (0 ∷ numbers_of (map inner_row kept))) h =
    subst (λ (ns : List ℕ). Each (λ (e : Item). Has e.caller (0 ∷ ns)) h) (sym (inner_numbers kept))
    (covered_inners (λ n. Has n (0 ∷ numbers_of kept)) seen run.covered) in
    let ticked = run.ticked.done in
    let pumped : Along (PumpDone ⊥ cut) 1 jobs.pumps ps = inner_pumps cut 1 jobs.pumps run.of_pumps run.pumped in
    let owner : (front number : ℕ) → HasAt front number 1 ps → PacketsAreOf number front h = λ front number at.
    packets_are_of front number h (map inner_row kept) (caller_0_quiet cut seen run.of_workers run.stopped) own covered
    (subst (Each (GivesAs front number)) (sym rows)
    (Each-append (GivesAs front number) (ws ++ ps) (last ∷ [])
    (Each-append (GivesAs front number) ws ps (workers_give conn_tells (IsFull seen) cut accepts front number 1 jobs.workers run.of_workers run.worked)
    (pumps_give ⊥ cut front number 1 jobs.pumps ps pumped at))
    (quiet_gives front number last (ticks_quiet last.own ticked.moments ticked.events), tt))) in
    let own_pumps : Each (λ (r : Caller). own_of r.number h ≡ r.own) ps =
    Each-append_right (λ (r : Caller). own_of r.number h ≡ r.own) ws ps
    (Each-append_left (λ (r : Caller). own_of r.number h ≡ r.own) (ws ++ ps) (last ∷ []) (subst (Each (λ (r : Caller). own_of r.number h ≡ r.own)) rows own)) in
    each_plays c h ⊥ cut ps gives owner [] 1 jobs.pumps ps refl (omega arith) own_pumps pumped
