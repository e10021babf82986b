-- The outcome of the run of a tunnel's jobs.
use Rattle.std.specs.Prelude.{◌≡◌, ℕ}
use Rattle.satip_plain.specs.declared.setting.Setting.{Setting}
use Rattle.satip_turn.specs.Shown.{Cell, IsOf, Knows}
use Rattle.satip_interleave.specs.Histories.{TunnelLegal}
use Rattle.satip_interleave.specs.Calling.{ShownPass}
use Rattle.satip_jobs.specs.declared.end.ServeEnd.{ServeEnd}
use Rattle.satip_serve.specs.Ran.{AreAtLimit, ComeBack}
use Rattle.satip_turn.specs.Views.{numbers_of}
use Rattle.satip_desk.specs.Views.{JobsView}
use Rattle.satip_serve.specs.Servings.{end_of_run}
use Rattle.satip_serve.specs.Statuses.{serving_status}
use Rattle.satip_tunnel_serve.specs.Deeds.{DoorsTell}
use Rattle.satip_tunnel_serve.specs.Outlets.{OutletsStay}
use Rattle.satip_tunnel_serve.specs.TunnelRuns.{TunnelEndsFull, TunnelServeRun, TunnelEndTells}

-- jobs ran in this setting with the given kits, up to this pass, and left these kits. The pass is that of caller 0; each pass that was split off was joined into
-- it, in order. The workers' keys, the pumps' recordings and what the outlets show come back in order. If the given kits were new (`AreNew`), it was a run of
-- the tunnel, and all doors ended, those of a worker failed, or the history is full. If all were served and doors end by their limit alone, the doors of each
-- worker are at their limit
pub record TunnelJobsRan (tells : DoorsTell) (AreNew : ℕ → JobsView → Type 0) (c : Setting) (given : JobsView) (pass : ShownPass) (left : JobsView)
    (end : ServeEnd) : Type 0 where
  pub number : pass.number ≡ 0
  pub joined : pass.made ≡ numbers_of pass.kept
  pub kits_left : ComeBack given left
  pub outlets : OutletsStay given left
  pub run : (accepts : ℕ) → AreNew accepts given
      → TunnelServeRun tells.conn (TunnelEndsFull (serving_status (end_of_run end)) pass.seen) c accepts pass left
  pub ended : (accepts : ℕ) → AreNew accepts given → TunnelEndTells end pass.seen left.workers
  pub at_limit : AreAtLimit tells.by_limit end left.workers

-- jobs ran so over this tunnel, and `pass` is a pass of it
pub record HaveTunneled (tells : DoorsTell) (AreNew : ℕ → JobsView → Type 0) (tunnel : Cell Setting) (given : JobsView) (pass : ShownPass) (left : JobsView)
    (end : ServeEnd) : Type 0 where
  pub of : IsOf pass tunnel
  pub knows : Knows (TunnelLegal tunnel.setting) pass
  pub jobs : TunnelJobsRan tells AreNew tunnel.setting given pass left end
