use Rattle.std.proofs.Common.{◌≡◌, ◌∙◌, ℕ, List, [], ◌∷◌, ◌++◌, append-nil, arith, refl, sym, ap, subst, inl, inr}
use Rattle.satip_interleave.specs.Calling.{outers}
use Rattle.satip_interleave.specs.Histories.{TunnelItem}
use Rattle.satip_interleave.specs.declared.events.TunnelEvent.TheVariants.{Drain, Leave}
use Rattle.satip_interleave.specs.declared.events.TunnelAnswer.TheVariants.{Lane, Full as NoLane, Broken as LaneBroken}
use Rattle.satip_frame.specs.Stream.{Unfinished}
use Rattle.satip_rtsp_interleaved.proofs.PartLemmas.{empty_ends}
use Rattle.satip_tunnel.specs.declared.ends.TunnelEnd.{TunnelEnd}
use Rattle.satip_tunnel.specs.declared.ends.TunnelEnd.TheVariants.{Broken, Done, Full, Spent}
use Rattle.satip_tunnel.specs.Ends.{IsLeave}
use Rattle.satip_tunnel.specs.TunnelRun.{TunnelRun}
use Rattle.satip_tunnel.specs.Requests.{AsksInParts}
use Rattle.satip_tunnel.specs.Rows.{drains, enters, leaves}
use Rattle.satip_tunnel.specs.Walk.{Free, Over}
use Rattle.satip_tunnel.specs.WorkerRows.{silent}
use Rattle.satip_base.specs.declared.identity.Draw.{Draw}
use Rattle.satip_world.specs.declared.doors.ConnEnd.TheVariants.{Done as conn_done, Spent as conn_spent}
use Rattle.satip_world.specs.declared.doors.DoorKind.TheVariants.{Rtsp}
use Rattle.satip_world.specs.Lines.{fresh_line}
use Rattle.satip_worker.specs.Progress.{Carries}
use Rattle.satip_tunnel.specs.ConnRun.{conn_end}
use Rattle.satip_tunnel.proofs.FullLemmas.{left_unless_full}
use Rattle.satip_tunnel.proofs.worker_examples.worked_rows.Goals as goal

-- a text with nothing in it asks nothing
nothing_asked : AsksInParts [] ([] ++ [])
nothing_asked = record { messages = []; tail = Unfinished; read = empty_ends; requests = refl }

-- nothing came in and nothing was sent
nothing_carried : Carries (Unit {0}) fresh_line (silent Rtsp conn_done).line [] []
nothing_carried = record {
  content = record { received = λ told. refl; sent = λ told. refl };
  idles = omega arith;
  receive_faults = omega arith;
  send_faults = omega arith;
}

pub returns-clause-none : goal.returns-clause-none
returns-clause-none c = (refl, refl)

pub returns-clause-entry_of_none : goal.returns-clause-entry_of_none
returns-clause-entry_of_none c = λ all. let e = all.1 in cc e

pub returns-clause-silent : goal.returns-clause-silent
returns-clause-silent c = record {
  between = 0;
  own = enters (Lane 3) ∷ leaves 3 ∷ [];
  others = [];
  whole = refl;
  served = record {
    tunnel_end = Done;
    end_is = refl;
    draws = [];
    draws_are = refl;
    to_is = refl;
    received = [];
    sent = [];
    run = (
      refl,
      record {
        body = [];
        last = leaves 3 ∷ [];
        entries_are = refl;
        stance = Free;
        walk = refl;
        stops = refl;
        leaves = (refl, tt);
        made = [];
        left = [];
        asks = nothing_asked;
        left_over = refl;
        events = refl;
        drawn = refl;
        sent_is = refl;
      },
    );
    carries = nothing_carried;
    line_ends = record { is_over = inl (refl, refl); calm = record { receive_faults = refl; send_faults = refl } };
  };
  rest = (refl, refl);
}

pub returns-clause-turned_away : goal.returns-clause-turned_away
returns-clause-turned_away c = record {
  between = 0;
  own = enters NoLane ∷ [];
  others = [];
  whole = refl;
  served = record {
    tunnel_end = Full;
    end_is = refl;
    draws = [];
    draws_are = refl;
    to_is = refl;
    received = [];
    sent = [];
    run = (refl, (record { undrawn = refl; unheard = refl; unsent = refl }, record { end_is = refl; none = refl }));
    carries = nothing_carried;
    line_ends = tt;
  };
  rest = (refl, refl);
}

-- a connection without entries met a full history
none_is_spent : (end : TunnelEnd) (draws : List Draw) (received sent : List ℕ) (full : Type 0) (own : List TunnelItem) → [] ≡ own
    → TunnelRun draws received sent full end own → end ≡ Spent
none_is_spent end draws received sent full [] e run = run.1.end_is
none_is_spent end draws received sent full (t ∷ own) e run = cc e

spent_isnt_done : (end : TunnelEnd) → conn_done ≡ conn_end end → end ≡ Spent → ⊥
spent_isnt_done end back is =
    let P : TunnelEnd → Type 0 = λ e. conn_done ≡ conn_end e in
    let e : conn_done ≡ conn_spent = subst P is back in
    cc e

pub returns-clause-unserved : goal.returns-clause-unserved
returns-clause-unserved c = λ all.
    let own = all.own in
    let e : [] ≡ own = all.whole ∙ ap (λ (others : List TunnelItem). own ++ others) all.rest.1 ∙ append-nil own in
    let served = all.served in
    spent_isnt_done served.tunnel_end served.end_is (none_is_spent served.tunnel_end served.draws served.received served.sent ⊥ own e served.run)

pub returns-clause-lane_over_http : goal.returns-clause-lane_over_http
returns-clause-lane_over_http c = λ all.
    let e : enters NoLane ∷ [] ≡ all.own = all.whole ∙ ap (λ (others : List TunnelItem). all.own ++ others) all.rest.1 ∙ append-nil all.own in
    let P : List TunnelItem → Type 0 = λ es. outers es ≡ [] in
    let alone : outers (enters NoLane ∷ []) ≡ [] = subst P (sym e) all.served.alone in
    cc alone

-- a drain alone has no Leave behind it
drain_is_kept : (body last : List TunnelItem) → drains 3 LaneBroken [] ∷ [] ≡ body ++ last → IsLeave 3 last → ⊥
drain_is_kept [] [] e leave = leave
drain_is_kept [] (t ∷ []) e leave =
    let same : drains 3 LaneBroken [] ≡ t = cc e in
    let is : Drain 3 ≡ Leave 3 = ap (λ (x : TunnelItem). x.event) same ∙ leave.0 in
    cc is
drain_is_kept [] (t ∷ u ∷ ts) e leave = leave
drain_is_kept (t ∷ []) [] e leave = leave
drain_is_kept (t ∷ []) (u ∷ last) e leave = cc e
drain_is_kept (t ∷ u ∷ body) last e leave = cc e

pub returns-clause-kept_lane : goal.returns-clause-kept_lane
returns-clause-kept_lane c = λ all.
    let served = all.served in
    let entries : List TunnelItem = enters (Lane 3) ∷ drains 3 LaneBroken [] ∷ [] in
    let e : entries ≡ all.own = all.whole ∙ ap (λ (others : List TunnelItem). all.own ++ others) all.rest.1 ∙ append-nil all.own in
    let P : List TunnelItem → Type 0 = λ es. TunnelRun served.draws served.received served.sent ⊥ served.tunnel_end es in
    let run : TunnelRun served.draws served.received served.sent ⊥ served.tunnel_end (enters (Lane 3) ∷ drains 3 LaneBroken [] ∷ []) = subst P (sym e) served.run in
    let r = run.1 in
    drain_is_kept r.body r.last r.entries_are (left_unless_full 3 ⊥ served.tunnel_end r.last (λ none. none) r.leaves)

pub returns-clause-unleft : goal.returns-clause-unleft
returns-clause-unleft c = record {
  between = 0;
  own = enters (Lane 3) ∷ drains 3 LaneBroken [] ∷ [];
  others = [];
  whole = refl;
  served = record {
    tunnel_end = Broken;
    end_is = refl;
    draws = [];
    draws_are = refl;
    to_is = refl;
    received = [];
    sent = [];
    run = (
      refl,
      record {
        body = drains 3 LaneBroken [] ∷ [];
        last = [];
        entries_are = refl;
        stance = Over;
        walk = (Over, (refl, tt, refl), refl);
        stops = refl;
        leaves = inr (refl, tt);
        made = [];
        left = [];
        asks = nothing_asked;
        left_over = tt;
        events = refl;
        drawn = refl;
        sent_is = refl;
      },
    );
    carries = nothing_carried;
    line_ends = tt;
  };
  rest = (refl, refl);
}
