-- The work of each job of a tunnel when all have ended.
use Rattle.std.specs.Prelude.{◌≡◌, ◌≢◌, ℕ, ◌⊎◌, true, List, [], map}
use Rattle.satip_base.specs.Output.{Output}
use Rattle.satip_base.specs.Lists.{Each}
use Rattle.satip_turn.specs.declared.view.Row.{Row}
use Rattle.satip_turn.specs.Views.{row}
use Rattle.satip_interleave.specs.declared.events.TunnelAnswer.{TunnelAnswer}
use Rattle.satip_interleave.specs.declared.events.TunnelEvent.{TunnelEvent}
use Rattle.satip_interleave.specs.Histories.{inners}
use Rattle.satip_interleave.specs.Calling.{outers}
use Rattle.satip_world.specs.Halls.{Return}
use Rattle.satip_worker.specs.Drawing.{draw_at}
use Rattle.satip_worker.specs.WorkerRun.{arrival_of}
use Rattle.satip_serve.specs.Done.{Caller, EndsInTime, PumpDone, TickerDone}
use Rattle.satip_desk.specs.Views.{WorkerView, PumpView, TickView}
use Rattle.satip_tunnel.specs.WorkerRun.{ServesAll}

-- a caller of the tunnel: its number and its entries
abbrev pub TunnelRow : Type 0
TunnelRow = Row TunnelEvent TunnelAnswer Output

-- the same as a caller of the server, with the server's entries alone
abbrev pub inner_row : TunnelRow → Caller
inner_row r = row r.number (inners r.own)

-- a worker: its doors have this limit, and they ended or failed, or the history's end cut it (`cut`). Each connection that arrived was handed back, in order.
-- The worker's entries are those of these connections, with the draws of its key and its number. A connection that was given a lane gave it up, unless the
-- history is full (`full`)
pub record TunnelWorkerDone (conn_tells full cut : Type 0) (accepts number : ℕ) (worker : WorkerView) (caller : TunnelRow) : Type 0 where
  pub limit : worker.hall.limit ≡ accepts
  pub ended : (worker.hall.ended ≡ true) ⊎ ((worker.hall.faults ≢ 0) ⊎ cut)
  pub connections : List Return
  pub draws : ℕ
  pub came : worker.hall.told ≡ true → worker.hall.given ≡ map arrival_of connections
  pub handed_back : worker.hall.told ≡ true → worker.hall.returned ≡ connections
  pub served : ServesAll conn_tells full (draw_at worker.key number) 0 draws connections caller.own
  pub in_time : Each (EndsInTime cut) connections

-- the pump of a front end did what a pump of the server does, and has no entry of the lanes. Nothing is said of its outlet
pub record TunnelPumpDone (cut : Type 0) (front : ℕ) (pump : PumpView) (caller : TunnelRow) : Type 0 where
  pub done : PumpDone ⊥ cut front pump (inner_row caller)
  pub none : outers caller.own ≡ []

-- the ticker did what that of the server does, and has no entry of the lanes. Nothing is said of its outlet
pub record TunnelTickerDone (cut : Type 0) (start : ℕ) (ticker : TickView) (caller : TunnelRow) : Type 0 where
  pub done : TickerDone ⊥ cut start ticker (inner_row caller)
  pub none : outers caller.own ≡ []
