-- The laws of whole runs of a tunnel's jobs.
use Rattle.std.specs.Prelude.{ℕ, ◌∷◌}
use Rattle.satip_plain.specs.declared.setting.Setting.{Setting}
use Rattle.satip_desk.specs.Views.{JobsView}
use Rattle.satip_interleave.specs.Calling.{ShownPass}
use Rattle.satip_jobs.specs.Runs.{Along}
use Rattle.satip_tunnel_laws.specs.Owners.{CallersDrainOwn}
use Rattle.satip_turn.specs.Views.{numbers_of}
use Rattle.satip_tunnel_serve.specs.Sent.{TunnelWorkerSent}
use Rattle.satip_tunnel_serve.specs.TunnelRuns.{TunnelEndsFull, TunnelServeRun}

-- each caller of a run drains and gives up only lanes that it was given
abbrev pub JobsDrainOwn : Type 0 → Type 0
JobsDrainOwn conn_tells =
    (status : ℕ) (c : Setting) (accepts : ℕ) (pass : ShownPass) (jobs : JobsView)
    → TunnelServeRun conn_tells (TunnelEndsFull status pass.seen) c accepts pass jobs
    → CallersDrainOwn (0 ∷ numbers_of pass.kept) pass.seen

-- in a run, the wire of each connection that was given a lane has a prefix of that lane's frames
abbrev pub ConnectionsHaveLanes : Type 0 → Type 0
ConnectionsHaveLanes conn_tells =
    (status : ℕ) (c : Setting) (accepts : ℕ) (pass : ShownPass) (jobs : JobsView)
    → (run : TunnelServeRun conn_tells (TunnelEndsFull status pass.seen) c accepts pass jobs)
    → Along (TunnelWorkerSent conn_tells (TunnelEndsFull status pass.seen) pass.seen accepts) 1 jobs.workers run.of_workers
