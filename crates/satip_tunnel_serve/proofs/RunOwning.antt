-- Each caller of a run of a tunnel's jobs drains and gives up lanes of its own alone.
use Rattle.std.proofs.Common.{◌≡◌, ◌∙◌, ℕ, ◌+◌, ◌⊎◌, inl, inr, List, [], ◌∷◌, ◌++◌, append_assoc, sym, ap, subst}
use Rattle.std.specs.List.{flat_map}
use Rattle.satip_base.specs.declared.identity.Draw.{Draw}
use Rattle.satip_base.specs.History.{own_of}
use Rattle.satip_base.specs.Lists.{Each}
use Rattle.satip_base.proofs.Elements.{Each-append, Each-append_left}
use Rattle.satip_plain.specs.declared.setting.Setting.{Setting}
use Rattle.satip_interleave.specs.Calling.{outer_by, outers}
use Rattle.satip_jobs.specs.Runs.{Along, HasNoStop, StopsOnce}
use Rattle.satip_desk.specs.Views.{WorkerView, PumpView}
use Rattle.satip_interleave.specs.declared.events.TunnelAnswer.{TunnelAnswer}
use Rattle.satip_interleave.specs.declared.events.TunnelEvent.{TunnelEvent}
use Rattle.satip_interleave.specs.declared.events.TunnelEvent.TheVariants.{Inner, Enter, Drain, Leave}
use Rattle.satip_interleave.specs.Histories.{TunnelItem, TunnelLegal}
use Rattle.satip_jobs.specs.Passes.{IsFull}
use Rattle.satip_tunnel_laws.specs.Owners.{CallersDrainOwn, DrainsGiven, DrainsOwn, IsConnectionOf, IsOfGiven, PartsDrainOwn, given_by}
use Rattle.satip_turn.specs.Views.{numbers_of}
use Rattle.satip_tunnel_serve.specs.Splits.{WiresSplitOneWay}
use Rattle.satip_tunnel_serve.specs.Wires.{RunsDrainOwn, WiresHaveLanes}
use Rattle.satip_world.specs.declared.doors.DoorKind.{DoorKind}
use Rattle.satip_world.specs.declared.doors.DoorKind.TheVariants.{Rtsp, Http}
use Rattle.satip_world.specs.Halls.{Return}
use Rattle.satip_world.specs.Lines.{Line, fresh_line}
use Rattle.satip_worker.specs.Drawing.{draw_at}
use Rattle.satip_tunnel.specs.ConnRun.{HttpServed, MatchKind, RtspServed}
use Rattle.satip_tunnel.specs.WorkerRun.{ServesAll}
use Rattle.satip_tunnel.proofs.FullLemmas.{run_also}
use Rattle.satip_tunnel_serve.specs.Done.{TunnelRow, TunnelWorkerDone, TunnelPumpDone}
use Rattle.satip_tunnel_serve.specs.TunnelRuns.{IsTunnelStop, TunnelEndsFull}
use Rattle.satip_tunnel_serve.specs.Runs.{ConnectionsHaveLanes, JobsDrainOwn}
use Rattle.satip_tunnel_serve.specs.Sent.{EachSendsFrames, SendsFrames, TunnelWorkerSent, owns_of}
use Rattle.satip_tunnel_laws.proofs.Connecting.{drains_both}

-- entries of the server alone touch no lane

inner_first : (given : List ℕ) (event : TunnelEvent) (answer : TunnelAnswer) (t : TunnelItem) (rest es : List TunnelItem) → outer_by event t ++ rest ≡ []
    → (rest ≡ [] → DrainsGiven given es) → IsOfGiven given event × DrainsGiven (given_by event answer ++ given) es
inner_first given (Inner event) answer t rest es none then = (tt, then none)
inner_first given Enter answer t rest es none then = absurd (cc none)
inner_first given (Drain lane) answer t rest es none then = absurd (cc none)
inner_first given (Leave lane) answer t rest es none then = absurd (cc none)

inner_own : (given : List ℕ) (es : List TunnelItem) → outers es ≡ [] → DrainsGiven given es
inner_own given [] none = tt
inner_own given (t ∷ ts) none = inner_first given t.event t.answer t (outers ts) ts none (λ rest. inner_own given ts rest)

-- the connections of a worker, one after another

conn_own : RunsDrainOwn → (tells full : Type 0) (kind : DoorKind) (drawn : ℕ → Draw) (from to : ℕ) (l : Line) (r : Return) (es : List TunnelItem)
    → MatchKind kind (RtspServed tells full drawn from to l r es) (HttpServed tells drawn from to l r es) → DrainsOwn es
conn_own law tells full Rtsp drawn from to l r es served =
    law served.draws served.received served.sent served.tunnel_end es
    (run_also full (Unit {0}) (λ is. tt) served.draws served.received served.sent served.tunnel_end es served.run)
conn_own law tells full Http drawn from to l r es served = inner_own [] es served.alone

record OwnParts (entries : List TunnelItem) : Type 0 where
  parts : List (List TunnelItem)
  are : entries ≡ flat_map (λ part. part) parts
  own : Each DrainsOwn parts

served_parts : RunsDrainOwn → (tells full : Type 0) (drawn : ℕ → Draw) (from to : ℕ) (rs : List Return) (entries : List TunnelItem)
    → ServesAll tells full drawn from to rs entries → OwnParts entries
served_parts law tells full drawn from to [] entries served = record { parts = []; are = served.1; own = tt }
served_parts law tells full drawn from to (r ∷ rs) entries next =
    let rest = served_parts law tells full drawn next.between to rs next.others next.rest in
    record {
      parts = next.own ∷ rest.parts;
      are = next.whole ∙ ap (λ (es : List TunnelItem). next.own ++ es) rest.are;
      own = (conn_own law tells full r.kind drawn from next.between fresh_line r next.own next.served, rest.own);
    }

served_own : RunsDrainOwn → PartsDrainOwn → (tells full : Type 0) (drawn : ℕ → Draw) (from to : ℕ) (rs : List Return) (entries : List TunnelItem)
    → ServesAll tells full drawn from to rs entries → DrainsOwn entries
served_own law parts_law tells full drawn from to rs entries served =
    let all = served_parts law tells full drawn from to rs entries served in
    subst (λ (es : List TunnelItem). DrainsOwn es) (sym all.are) (parts_law all.parts all.own)

-- the callers of all jobs

workers_own : RunsDrainOwn → PartsDrainOwn → (tells full cut : Type 0) (accepts from : ℕ) (workers : List WorkerView) (rows : List TunnelRow)
    → Along (TunnelWorkerDone tells full cut accepts) from workers rows → Each (λ r. DrainsOwn r.own) rows
workers_own law parts tells full cut accepts from [] [] along = tt
workers_own law parts tells full cut accepts from [] (r ∷ rs) along = absurd along
workers_own law parts tells full cut accepts from (w ∷ ws) [] along = absurd along
workers_own law parts tells full cut accepts from (w ∷ ws) (r ∷ rs) along =
    let done = along.0 in (
      served_own law parts tells full (draw_at w.key from) 0 done.draws done.connections r.own done.served,
      workers_own law parts tells full cut accepts (from + 1) ws rs along.1,
    )

pumps_own : (full : Type 0) (from : ℕ) (pumps : List PumpView) (rows : List TunnelRow) → Along (TunnelPumpDone full) from pumps rows
    → Each (λ r. DrainsOwn r.own) rows
pumps_own full from [] [] along = tt
pumps_own full from [] (r ∷ rs) along = absurd along
pumps_own full from (p ∷ ps) [] along = absurd along
pumps_own full from (p ∷ ps) (r ∷ rs) along = (inner_own [] r.own along.0.none, pumps_own full (from + 1) ps rs along.1)

-- the stop

stop_own : (t : TunnelItem) → IsTunnelStop t → DrainsOwn (t ∷ [])
stop_own t is = (subst (λ (e : TunnelEvent). IsOfGiven [] e) (sym is) tt, tt)

caller_0_owns : (full : Type 0) (seen : List TunnelItem) (callers : List TunnelRow) → StopsOnce IsTunnelStop seen callers ⊎ HasNoStop full seen
    → DrainsOwn (own_of 0 seen)
caller_0_owns full seen callers (inl once) = subst (λ (es : List TunnelItem). DrainsOwn es) (sym once.own) (stop_own once.stop once.is_stop)
caller_0_owns full seen callers (inr never) = subst (λ (es : List TunnelItem). DrainsOwn es) (sym never.own) tt

by_number : (seen : List TunnelItem) (rows : List TunnelRow) → Each (λ r. own_of r.number seen ≡ r.own) rows → Each (λ r. DrainsOwn r.own) rows
    → Each (λ n. DrainsOwn (own_of n seen)) (numbers_of rows)
by_number seen [] are own = tt
by_number seen (r ∷ rs) are own = (subst (λ (es : List TunnelItem). DrainsOwn es) (sym are.0) own.0, by_number seen rs are.1 own.1)

pub jobs_drain_own : PartsDrainOwn → RunsDrainOwn → (conn_tells : Type 0) → JobsDrainOwn conn_tells
jobs_drain_own parts law conn_tells status c accepts pass jobs run =
    let Own : TunnelRow → Type 0 = λ r. DrainsOwn r.own in
    let all : Each Own ((run.of_workers ++ run.of_pumps) ++ run.of_ticker ∷ []) =
    Each-append Own (run.of_workers ++ run.of_pumps) (run.of_ticker ∷ [])
    (Each-append Own run.of_workers run.of_pumps (workers_own law parts conn_tells _ _ accepts 1 jobs.workers run.of_workers run.worked)
    (pumps_own _ 1 jobs.pumps run.of_pumps run.pumped))
    (inner_own [] run.of_ticker.own run.ticked.none, tt) in
    record {
      covered = run.covered;
      own = (
        caller_0_owns _ pass.seen run.of_workers run.stopped,
        by_number pass.seen pass.kept run.entries (subst (λ (rs : List TunnelRow). Each Own rs) (sym run.callers) all),
      );
    }

-- the frames of a worker's connections, each with the entries before it

module _ (law : RunsDrainOwn) (parts_law : PartsDrainOwn) (wires : WiresHaveLanes) (splits : WiresSplitOneWay) (tells full : Type 0) (c : Setting) (h : List TunnelItem) (numbers : List ℕ)
    (legal : TunnelLegal c h) (callers : CallersDrainOwn numbers h) (caller : ℕ) (drawn : ℕ → Draw) where
  conn_sends : (kind : DoorKind) (from to : ℕ) (r : Return) (before own : List TunnelItem)
      → IsConnectionOf h before own caller
      → MatchKind kind (RtspServed tells full drawn from to fresh_line r own) (HttpServed tells drawn from to fresh_line r own)
      → MatchKind kind (SendsFrames h before own caller) (Unit {0})
  conn_sends Rtsp from to r before own part served = λ x given.
      let run = run_also full (Unit {0}) (λ is. tt) served.draws served.received served.sent served.tunnel_end own served.run in (
        wires c h before own numbers caller x served.draws served.received served.sent served.tunnel_end legal callers part run given,
        splits c h before own numbers caller x served.draws served.received served.sent served.tunnel_end legal callers part run given,
      )
  conn_sends Http from to r before own part served = tt

  each_sends : (from to : ℕ) (before : List TunnelItem) (rs : List Return) (entries : List TunnelItem)
      → (served : ServesAll tells full drawn from to rs entries) → own_of caller h ≡ before ++ entries → DrainsOwn before
      → EachSendsFrames h caller before rs (owns_of tells full drawn from to rs entries served)
  each_sends from to before [] entries served whole before_own = tt
  each_sends from to before (r ∷ rs) entries served whole before_own =
      let own = conn_own law tells full r.kind drawn from served.between fresh_line r served.own served.served in
      let split : own_of caller h ≡ before ++ (served.own ++ served.others) = whole ∙ ap (λ (es : List TunnelItem). before ++ es) served.whole in
      let part : IsConnectionOf h before served.own caller = record {
        after = served.others;
        whole = split;
        before_own = before_own;
        own = own;
        after_own = served_own law parts_law tells full drawn served.between to rs served.others served.rest;
      } in (
        conn_sends r.kind from served.between r before served.own part served.served,
        each_sends served.between to (before ++ served.own) rs served.others served.rest (split ∙ sym (append_assoc before served.own served.others))
            (drains_both before served.own [] before_own own),
      )

workers_sent : RunsDrainOwn → PartsDrainOwn → WiresHaveLanes → WiresSplitOneWay → (tells cut : Type 0) (c : Setting) (h : List TunnelItem) (numbers : List ℕ)
    → TunnelLegal c h → CallersDrainOwn numbers h → (accepts from : ℕ) (workers : List WorkerView) (rows : List TunnelRow)
    → Each (λ r. own_of r.number h ≡ r.own) rows → Along (TunnelWorkerDone tells (IsFull h) cut accepts) from workers rows
    → Along (TunnelWorkerSent tells cut h accepts) from workers rows
workers_sent law parts wires splits tells cut c h numbers legal callers accepts from [] [] own along = tt
workers_sent law parts wires splits tells cut c h numbers legal callers accepts from [] (r ∷ rs) own along = absurd along
workers_sent law parts wires splits tells cut c h numbers legal callers accepts from (w ∷ ws) [] own along = absurd along
workers_sent law parts wires splits tells cut c h numbers legal callers accepts from (w ∷ ws) (r ∷ rs) own along =
    let done = along.0 in (
      record {
        done = done;
        frames = each_sends law parts wires splits tells (IsFull h) c h numbers legal callers r.number (draw_at w.key from) 0 done.draws [] done.connections r.own
            done.served own.0 tt;
      },
      workers_sent law parts wires splits tells cut c h numbers legal callers accepts (from + 1) ws rs own.1 along.1,
    )

pub connections_have_lanes : PartsDrainOwn → RunsDrainOwn → (conn_tells : Type 0) → JobsDrainOwn conn_tells → WiresHaveLanes → WiresSplitOneWay
    → ConnectionsHaveLanes conn_tells
connections_have_lanes parts law conn_tells owns wires splits status c accepts pass jobs run =
    let Own : TunnelRow → Type 0 = λ r. own_of r.number pass.seen ≡ r.own in
    let all : Each Own ((run.of_workers ++ run.of_pumps) ++ run.of_ticker ∷ []) =
    subst (λ (rs : List TunnelRow). Each Own rs) run.callers run.entries in
    let own : Each Own run.of_workers =
    Each-append_left Own run.of_workers run.of_pumps (Each-append_left Own (run.of_workers ++ run.of_pumps) (run.of_ticker ∷ []) all) in
    workers_sent law parts wires splits conn_tells (TunnelEndsFull status pass.seen) c pass.seen (0 ∷ numbers_of pass.kept) run.lawful (owns status c accepts pass jobs run) accepts 1 jobs.workers
    run.of_workers own run.worked
