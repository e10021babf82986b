-- Runs of connections while the history grows: once it is full it stays so.
use Rattle.std.proofs.Common.{◌≡◌, ℕ, ◌^◌, ◌<◌, List, [], ◌∷◌, length, arith, inl, inr}
use Rattle.satip_base.specs.declared.identity.Draw.{Draw}
use Rattle.satip_base.specs.Lists.{Begins}
use Rattle.satip_interleave.specs.declared.events.TunnelAnswer.{TunnelAnswer}
use Rattle.satip_interleave.specs.declared.events.TunnelAnswer.TheVariants.{Inner as InnerAnswer, Lane, Full as no_lane, Frames, Empty, Broken as lane_broken, Gone, Left}
use Rattle.satip_interleave.specs.Histories.{TunnelItem}
use Rattle.satip_tunnel.specs.declared.ends.TunnelEnd.{TunnelEnd}
use Rattle.satip_tunnel.specs.declared.ends.TunnelEnd.TheVariants.{Full, Broken, Done, ReadFault, WriteFault, Spent}
use Rattle.satip_tunnel.specs.ConnRun.{HttpServed, MatchKind, RtspServed}
use Rattle.satip_tunnel.specs.Ends.{IsLeave, Leaves}
use Rattle.satip_tunnel.specs.TunnelRun.{EnteredRun, LaneRun, TunnelRun}
use Rattle.satip_tunnel.specs.WorkerRun.{ServesAll}
use Rattle.satip_tunnel.proofs.ListLemmas.{begins_shorter}
use Rattle.satip_world.specs.declared.doors.DoorKind.{DoorKind}
use Rattle.satip_world.specs.declared.doors.DoorKind.TheVariants.{Rtsp, Http}
use Rattle.satip_world.specs.Halls.{Return}
use Rattle.satip_world.specs.Lines.{Line, fresh_line}

-- a history of which a full one is a beginning is full
pub stays_full : (before now : List TunnelItem) → Begins before now → length now < 2 ^ 64 → length before ≡ 18446744073709551615
    → length now ≡ 18446744073709551615
stays_full before now begins short full = omega (arith, begins_shorter before now begins, short, full)

-- a connection gives its lane up unless the history is full
pub left_unless_full : (lane : ℕ) (full : Type 0) (end : TunnelEnd) (last : List TunnelItem) → (full → ⊥) → Leaves lane full end last → IsLeave lane last
left_unless_full lane full Full last never leaves = absurd leaves
left_unless_full lane full Broken last never (inl leave) = leave
left_unless_full lane full Broken last never (inr unleft) = absurd (never unleft.1)
left_unless_full lane full Done last never leaves = leaves
left_unless_full lane full ReadFault last never leaves = leaves
left_unless_full lane full WriteFault last never (inl leave) = leave
left_unless_full lane full WriteFault last never (inr unleft) = absurd (never unleft.1)
left_unless_full lane full Spent last never leaves = absurd (never leaves.1)

-- where one history is full only if another is, a run over the one is a run over the other
module _ (full also : Type 0) (then_also : full → also) where
  leaves_also : (lane : ℕ) (end : TunnelEnd) (last : List TunnelItem) → Leaves lane full end last → Leaves lane also end last
  leaves_also lane Full last leaves = leaves
  leaves_also lane Broken last (inl leave) = inl leave
  leaves_also lane Broken last (inr unleft) = inr (unleft.0, then_also unleft.1)
  leaves_also lane Done last leaves = leaves
  leaves_also lane ReadFault last leaves = leaves
  leaves_also lane WriteFault last (inl leave) = inl leave
  leaves_also lane WriteFault last (inr unleft) = inr (unleft.0, then_also unleft.1)
  leaves_also lane Spent last leaves = (leaves.0, then_also leaves.1)

  lane_also : (lane : ℕ) (draws : List Draw) (received sent : List ℕ) (end : TunnelEnd) (entries : List TunnelItem)
      → LaneRun lane draws received sent full end entries → LaneRun lane draws received sent also end entries
  lane_also lane draws received sent end entries run = record {
    body = run.body;
    last = run.last;
    entries_are = run.entries_are;
    stance = run.stance;
    walk = run.walk;
    stops = run.stops;
    leaves = leaves_also lane end run.last run.leaves;
    made = run.made;
    left = run.left;
    asks = run.asks;
    left_over = run.left_over;
    events = run.events;
    drawn = run.drawn;
    sent_is = run.sent_is;
  }

  entered_also : (answer : TunnelAnswer) (draws : List Draw) (received sent : List ℕ) (end : TunnelEnd) (entries : List TunnelItem)
      → EnteredRun answer draws received sent full end entries → EnteredRun answer draws received sent also end entries
  entered_also (Lane lane) draws received sent end entries run = lane_also lane draws received sent end entries run
  entered_also no_lane draws received sent end entries run = run
  entered_also (InnerAnswer answer) draws received sent end entries run = run
  entered_also (Frames count) draws received sent end entries run = run
  entered_also Empty draws received sent end entries run = run
  entered_also lane_broken draws received sent end entries run = run
  entered_also Gone draws received sent end entries run = run
  entered_also Left draws received sent end entries run = run

  pub run_also : (draws : List Draw) (received sent : List ℕ) (end : TunnelEnd) (entries : List TunnelItem)
      → TunnelRun draws received sent full end entries → TunnelRun draws received sent also end entries
  run_also draws received sent end [] run = (run.0, record { end_is = run.1.end_is; filled = then_also run.1.filled })
  run_also draws received sent end (t ∷ ts) run = (run.0, entered_also t.answer draws received sent end ts run.1)

  module _ (tells : Type 0) (drawn : ℕ → Draw) where
    rtsp_also : (from to : ℕ) (l : Line) (r : Return) (entries : List TunnelItem) → RtspServed tells full drawn from to l r entries
        → RtspServed tells also drawn from to l r entries
    rtsp_also from to l r entries served = record {
      tunnel_end = served.tunnel_end;
      end_is = served.end_is;
      draws = served.draws;
      draws_are = served.draws_are;
      to_is = served.to_is;
      received = served.received;
      sent = served.sent;
      run = run_also served.draws served.received served.sent served.tunnel_end entries served.run;
      carries = served.carries;
      line_ends = served.line_ends;
    }

    kind_also : (kind : DoorKind) (from to : ℕ) (l : Line) (r : Return) (entries : List TunnelItem)
        → MatchKind kind (RtspServed tells full drawn from to l r entries) (HttpServed tells drawn from to l r entries)
        → MatchKind kind (RtspServed tells also drawn from to l r entries) (HttpServed tells drawn from to l r entries)
    kind_also Rtsp from to l r entries served = rtsp_also from to l r entries served
    kind_also Http from to l r entries served = served

    pub all_also : (from to : ℕ) (rs : List Return) (entries : List TunnelItem) → ServesAll tells full drawn from to rs entries
        → ServesAll tells also drawn from to rs entries
    all_also from to [] entries served = served
    all_also from to (r ∷ rs) entries next = record {
      between = next.between;
      own = next.own;
      others = next.others;
      whole = next.whole;
      served = kind_also r.kind from next.between fresh_line r next.own next.served;
      rest = all_also next.between to rs next.others next.rest;
    }
