-- A run of a tunnel with all its jobs.
use Rattle.std.specs.Prelude.{◌≡◌, ◌≢◌, ℕ, true, List}
use Rattle.satip_base.specs.Lists.{Each}
use Rattle.satip_plain.specs.declared.events.Event.TheVariants.{Stop}
use Rattle.satip_plain.specs.declared.setting.Setting.{Setting}
use Rattle.satip_interleave.specs.Calling.{ShownPass}
use Rattle.satip_interleave.specs.declared.events.TunnelAnswer.{TunnelAnswer}
use Rattle.satip_interleave.specs.declared.events.TunnelEvent.{TunnelEvent}
use Rattle.satip_interleave.specs.declared.events.TunnelEvent.TheVariants.{Inner}
use Rattle.satip_interleave.specs.Histories.{TunnelItem, TunnelLegal}
use Rattle.satip_jobs.specs.declared.end.ServeEnd.{ServeEnd}
use Rattle.satip_jobs.specs.Passes.{IsFull}
use Rattle.satip_jobs.specs.Runs.{HasOne, MatchEnd, Run, Terms}
use Rattle.satip_desk.specs.Views.{WorkerView, PumpView, TickView, JobsView}
use Rattle.satip_tunnel_serve.specs.Done.{TunnelWorkerDone, TunnelPumpDone, TunnelTickerDone}

-- the server's event Stop
abbrev pub IsTunnelStop : TunnelItem → Type 0
IsTunnelStop t = t.event ≡ Inner Stop

-- the status says that the history is full, and it is; a full history counts the entries of the server and of the lanes
abbrev pub TunnelEndsFull : (status : ℕ) → List TunnelItem → Type 0
TunnelEndsFull status h = (status ≡ 9) × IsFull h

-- the terms of a tunnel's run. `full` says that the history is full, and `cut` that its end is why jobs ended
abbrev pub tunnel_terms : (conn_tells full cut : Type 0) (c : Setting) (accepts : ℕ) → Terms TunnelEvent TunnelAnswer WorkerView PumpView TickView
tunnel_terms conn_tells full cut c accepts = record {
  legal = λ d h. TunnelLegal d h;
  is_stop = λ t. IsTunnelStop t;
  full = cut;
  worked = λ number worker caller. TunnelWorkerDone conn_tells full cut accepts number worker caller;
  pumped = λ number pump caller. TunnelPumpDone cut number pump caller;
  ticked = λ ticker caller. TunnelTickerDone cut c.start ticker caller;
}

-- all jobs ran over one history of the tunnel, which is legal in the setting and which `pass` has seen. Each entry, of the server or of the lanes, has the
-- number of a job's caller or is the one stop. If `cut` doesn't hold, no job ended because the history is full, and the stop was executed
abbrev pub TunnelServeRun : (conn_tells cut : Type 0) (c : Setting) (accepts : ℕ) (pass : ShownPass) → JobsView → Type 0
TunnelServeRun conn_tells cut c accepts pass jobs =
    Run c (tunnel_terms conn_tells (IsFull pass.seen) cut c accepts) pass (record { workers = jobs.workers; pumps = jobs.pumps; ticker = jobs.ticker })

-- all doors ended, those of one worker failed, or the history is full
abbrev pub TunnelEndTells : ServeEnd → List TunnelItem → List WorkerView → Type 0
TunnelEndTells end seen workers = MatchEnd end (Each (λ w. w.hall.ended ≡ true) workers) (HasOne (λ w. w.hall.faults ≢ 0) workers) (IsFull seen)
