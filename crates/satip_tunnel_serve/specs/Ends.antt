-- The outcome of serving through a tunnel, by its status.
use Rattle.std.specs.Prelude.{◌≡◌, ℕ, List, Option, option_map}
use Rattle.satip_base.specs.Streams.{Feed}
use Rattle.satip_config.specs.declared.fault.ConfigFault.{ConfigFault}
use Rattle.satip_plain.specs.declared.setting.Setting.{Setting}
use Rattle.satip_turn.specs.Shown.{Cell, IsOf, Knows}
use Rattle.satip_turn.specs.Views.{numbers_of}
use Rattle.satip_jobs.specs.Passes.{IsFull}
use Rattle.satip_jobs.specs.Runs.{Along}
use Rattle.satip_desk.specs.Streams.{Tells}
use Rattle.satip_serve.specs.CommandEnds.{ServingEnds, ServingLeft}
use Rattle.satip_serve.specs.Ran.{ComeBack}
use Rattle.satip_desk.specs.Views.{DeskView, JobsView}
use Rattle.satip_serve.specs.Laws.{SendsSelected, ObeysOwners, TellsBusy, PlaysRecordings}
use Rattle.satip_serve.specs.CommandRan.{JobsEnd}
use Rattle.satip_interleave.specs.Calling.{ShownPass}
use Rattle.satip_interleave.specs.Histories.{TunnelLegal, inners}
use Rattle.satip_tunnel_serve.specs.declared.all_jobs.TunnelLast.{TunnelLast}
use Rattle.satip_tunnel_serve.specs.TunnelRuns.{TunnelEndsFull, TunnelServeRun}
use Rattle.satip_tunnel_serve.specs.Outlets.{OutletsStay}
use Rattle.satip_tunnel_serve.specs.Sent.{SendsPayloads, TunnelWorkerSent}

-- what the jobs of a tunnel left, as contracts see it: the tunnel, the pass into which all others were joined, and the kits
pub record TunnelLastView : Type 0 where
  pub server : Cell Setting
  pub pass : ShownPass
  pub jobs : JobsView

abbrev pub tunnel_last_view : {J : Type 0} → (view : J → JobsView) → TunnelLast J → TunnelLastView
tunnel_last_view view l = record { server = l.server; pass = l.pass; jobs = view l.jobs }

-- jobs ran with the given kits, left `l` and ended with this status. Each worker's doors end after `accepts` connections
pub record TunnelServingRun (conn_tells : Type 0) (accepts : ℕ) (given : JobsView) (l : TunnelLastView) (status : ℕ) : Type 0 where
  -- the pass left is that of caller 0. No two of its callers have one number, and each pass that was split off was joined into it, in order
  pub pass : IsOf l.pass l.server
  pub number : l.pass.number ≡ 0
  pub knows : Knows (TunnelLegal l.server.setting) l.pass
  pub joined : l.pass.made ≡ numbers_of l.pass.kept
  -- the jobs ran over one history of the tunnel, whose entries of the server keep the laws. With any other status than 9 no job ended because it is full
  pub run : TunnelServeRun conn_tells (TunnelEndsFull status l.pass.seen) l.server.setting accepts l.pass l.jobs
  pub payload : SendsSelected l.server.setting (inners l.pass.seen)
  pub owners : ObeysOwners l.server.setting (inners l.pass.seen)
  pub busy : TellsBusy l.server.setting (inners l.pass.seen)
  pub recordings : PlaysRecordings l.server.setting (inners l.pass.seen) l.jobs.pumps
  -- each connection that was given a lane was sent rewritten replies and the first frames of the lane. If one session alone has its channels on a lane, the
  -- frames there carry its payload
  pub frames : Along (TunnelWorkerSent conn_tells (TunnelEndsFull status l.pass.seen) l.pass.seen accepts) 1 l.jobs.workers run.of_workers
  pub channels : SendsPayloads l.server.setting l.pass.seen
  -- the workers' keys, the pumps' recordings and what the outlets show are those of the given kits, in order
  pub kits_left : ComeBack given l.jobs
  pub outlets : OutletsStay given l.jobs
  pub ends : JobsEnd l.jobs.workers (IsFull l.pass.seen) status

-- the outcome of serving whose jobs run over one history of the tunnel, by the configuration of its setting
abbrev pub Tunnels : (t : Tells) → (ConfigFault → Type 0) → ℕ → List ℕ → (d f : DeskView) → ServingLeft TunnelLastView → Type 0
Tunnels t Told accepts name d f left =
    ServingEnds t.config Told accepts name d f (λ g c l. (l.server.setting.config ≡ c) × TunnelServingRun t.conn accepts g l left.status) left

-- of which devices of a tunnel the content is known; of others nothing is said
abbrev pub tunnel_tells : (config conn : Type 0) → Tells
tunnel_tells config conn = record {
  input = ⊥;
  output = ⊥;
  errors = ⊥;
  config = config;
  conn = conn;
  outlet = ⊥;
  journal = ⊥;
  wire = ⊥;
  inlet = ⊥;
}

-- what serving through a tunnel left, by the contract's views of a source and of kits
abbrev pub tunnel_left : {S J : Type 0} → (S → Feed) → (view : J → JobsView) → Option S → Option (TunnelLast J) → Option J → ℕ
    → ServingLeft TunnelLastView
tunnel_left feed view source last unused status = record {
  source = option_map feed source;
  last = option_map (tunnel_last_view view) last;
  unused = option_map view unused;
  status = status;
}
