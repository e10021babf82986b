-- How serving through a tunnel ends, by how the run of its jobs does.
use Rattle.std.proofs.Common.{◌≡◌, ◌≢◌, inl, inr, true, List, [], ◌∷◌}
use Rattle.satip_base.specs.Lists.{Each}
use Rattle.satip_jobs.specs.declared.end.ServeEnd.{ServeEnd}
use Rattle.satip_jobs.specs.declared.end.ServeEnd.TheVariants as serves
use Rattle.satip_jobs.specs.Passes.{IsFull}
use Rattle.satip_jobs.specs.Runs.{HasOne, MatchEnd}
use Rattle.satip_serve.specs.ServeRuns.{HasFault}
use Rattle.satip_desk.specs.Views.{WorkerView}
use Rattle.satip_serve.specs.CommandRan.{JobsEnd}
use Rattle.satip_serve.specs.Servings.{end_of_run}
use Rattle.satip_serve.specs.Statuses.{serving_status}
use Rattle.satip_serve.proofs.StatusLemmas.{jobs_end}
use Rattle.satip_interleave.specs.Histories.{TunnelItem}
use Rattle.satip_tunnel_serve.specs.TunnelRuns.{TunnelEndTells}

-- the doors of a worker failed
has_fault : (workers : List WorkerView) → HasOne (λ (w : WorkerView). w.hall.faults ≢ 0) workers → HasFault workers
has_fault [] has = absurd has
has_fault (w ∷ ws) (inl here) = inl here
has_fault (w ∷ ws) (inr later) = inr (has_fault ws later)

-- how jobs ended, by the status
tunnel_told : (end : ServeEnd) (seen : List TunnelItem) (workers : List WorkerView) → TunnelEndTells end seen workers
    → MatchEnd end (Each (λ (w : WorkerView). w.hall.ended ≡ true) workers) (HasFault workers) (IsFull seen)
tunnel_told serves.Served seen workers tells = tells
tunnel_told serves.DoorsFault seen workers tells = has_fault workers tells
tunnel_told serves.HistoryFull seen workers tells = tells

pub tunnel_end : (end : ServeEnd) (seen : List TunnelItem) (workers : List WorkerView) → TunnelEndTells end seen workers
    → JobsEnd workers (IsFull seen) (serving_status (end_of_run end))
tunnel_end end seen workers tells = jobs_end end workers (IsFull seen) (tunnel_told end seen workers tells)
