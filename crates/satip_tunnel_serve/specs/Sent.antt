-- The bytes that the connections of a tunnel were sent, by the history that a pass has seen.
use Rattle.std.specs.Prelude.{◌≡◌, ℕ, false, List, [], ◌∷◌, ◌++◌}
use Rattle.satip_base.specs.declared.identity.Draw.{Draw}
use Rattle.satip_base.specs.Lists.{Begins, Has}
use Rattle.satip_plain.specs.declared.setting.Setting.{Setting}
use Rattle.satip_plain.specs.Types.{Ports}
use Rattle.satip_plain.specs.Readings.{Made, readings}
use Rattle.satip_desk.specs.Views.{WorkerView}
use Rattle.satip_interleave.specs.Histories.{TunnelItem, inners}
use Rattle.satip_jobs.specs.Passes.{IsFull}
use Rattle.satip_tunnel.specs.ConnRun.{MatchKind}
use Rattle.satip_tunnel.specs.WorkerRun.{ServesAll}
use Rattle.satip_tunnel_serve.specs.Done.{TunnelRow, TunnelWorkerDone}
use Rattle.satip_tunnel_laws.specs.LaneFrames.{lane}
use Rattle.satip_tunnel_serve.specs.Splits.{WireSplits}
use Rattle.satip_tunnel_serve.specs.Wires.{IsGivenAtFirst, WireHasLane}
use Rattle.satip_tunnel_laws.specs.Channels.{CarryPayload, OwnsChannels}
use Rattle.satip_worker.specs.Drawing.{draw_at}
use Rattle.satip_world.specs.Halls.{Return}

-- a connection of a caller has these entries, after those of the caller's earlier connections. If it was given a lane, its wire is rewritten replies and a
-- prefix of the lane's frames, each of them whole. If the last drain was answered that no frame waits, they are all frames that the lane had before that drain.
-- The bytes of the wire split into replies and frames in this way and in no other
abbrev pub SendsFrames : (h before own : List TunnelItem) (caller : ℕ) → Type 0
SendsFrames h before own caller = (x : ℕ) → IsGivenAtFirst x own → WireHasLane h before own caller x × WireSplits h before own caller x

-- the entries of each of the connections that were served one after another
abbrev pub owns_of : (tells full : Type 0) (drawn : ℕ → Draw) (from to : ℕ) (rs : List Return) (entries : List TunnelItem)
    → ServesAll tells full drawn from to rs entries → List (List TunnelItem)
owns_of tells full drawn from to [] entries served = []
owns_of tells full drawn from to (r ∷ rs) entries served = served.own ∷ owns_of tells full drawn served.between to rs served.others served.rest

-- the same for each RTSP connection of these, with these entries each. An HTTP connection has no lane
abbrev pub EachSendsFrames : (h : List TunnelItem) (caller : ℕ) (before : List TunnelItem) → List Return → List (List TunnelItem) → Type 0
EachSendsFrames h caller before [] owns = Unit {0}
EachSendsFrames h caller before (r ∷ rs) [] = ⊥
EachSendsFrames h caller before (r ∷ rs) (own ∷ owns) =
    MatchKind r.kind (SendsFrames h before own caller) (Unit {0}) × EachSendsFrames h caller (before ++ own) rs owns

-- a worker is done. Each connection that it handed back was sent its wire, or a prefix of it if a send failed, and the frames in the wire are those of its lane
pub record TunnelWorkerSent (conn_tells cut : Type 0) (h : List TunnelItem) (accepts number : ℕ) (worker : WorkerView) (caller : TunnelRow) : Type 0 where
  pub done : TunnelWorkerDone conn_tells (IsFull h) cut accepts number worker caller
  pub frames : EachSendsFrames h caller.number [] done.connections
      (owns_of conn_tells (IsFull h) (draw_at worker.key number) 0 done.draws done.connections caller.own done.served)

-- if an RTSP session alone has its channels on a lane, the packets on the first of them are a prefix of its payload, and of the packets selected for it. This
-- is so for any prefix of the lane's frames
abbrev pub SendsPayloads : Setting → List TunnelItem → Type 0
SendsPayloads c h =
    (m : Made) (x : ℕ) (ports : Ports) (frames : List (List ℕ)) → Has m (readings c (inners h)).made → m.http ≡ false
    → OwnsChannels c h m.id x ports → Begins frames (lane h x) → CarryPayload c h m.id ports frames
