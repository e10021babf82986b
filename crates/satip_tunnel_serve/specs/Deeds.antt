-- The effect of one job of a tunnel on its kit, as a caller of the shared tunnel. Outlets stay as they are.
use Rattle.std.specs.Prelude.{◌≡◌, ℕ}
use Rattle.satip_plain.specs.declared.setting.Setting.{Setting}
use Rattle.satip_world.specs.Halls.{IsAtLimit}
use Rattle.satip_worker.specs.declared.worker.WorkerEnd.{WorkerEnd}
use Rattle.satip_worker.specs.declared.worker.WorkerEnd.TheVariants.{Closed}
use Rattle.satip_turn.specs.Shown.{Cell, Keeps}
use Rattle.satip_interleave.specs.Calling.{ShownPass, known_by, outers}
use Rattle.satip_tunnel.specs.Seats.{seated, Seat as CallerSeat}
use Rattle.satip_jobs.specs.declared.end.ServeEnd.{ServeEnd}
use Rattle.satip_jobs.specs.declared.seat.Seat.{Seat}
use Rattle.satip_jobs.specs.Works.{IsSameSeat}
use Rattle.satip_serve.specs.Deeds.{JobState, PumpDid, TickerDid, job_state}
use Rattle.satip_serve.specs.Ends.{end_of_worker}
use Rattle.satip_desk.specs.Views.{WorkerView, PumpView, TickView}
use Rattle.satip_tunnel.specs.WorkerRun.{ServesDoors}

-- what is known of a worker's doors: whether their connections expose what they sent, and whether they end by their limit alone
pub record DoorsTell : Type 1 where
  pub conn : Type 0
  pub by_limit : Type 0

abbrev pub doors_tell : (conn by_limit : Type 0) → DoorsTell
doors_tell conn by_limit = record { conn = conn; by_limit = by_limit }

-- a worker served the connections that arrived at its doors, with this stream of its key
pub record TunnelWorkerDid (tells : DoorsTell) (number : ℕ) (o : WorkerView) (s : CallerSeat) (n : WorkerView) (t : CallerSeat) (end : ServeEnd) : Type 0 where
  pub ended : WorkerEnd
  pub end_is : end ≡ end_of_worker ended
  pub key : n.key ≡ o.key
  pub outbox : n.outbox ≡ o.outbox
  pub at_limit : ended ≡ Closed → tells.by_limit → IsAtLimit n.hall
  pub serves : ServesDoors tells.conn o.key number (record { seat = s; hall = o.hall }) (record { seat = t; hall = n.hall }) ended

-- the same at its seat: the job has the same number, its caller the same tunnel, and its pass the same number, kept rows and numbers of passes made
pub record WorkedAtSeat (tells : DoorsTell) (before after : ℕ) (o : WorkerView) (s : CallerSeat) (n : WorkerView) (t : CallerSeat) (end : ServeEnd) : Type 0 where
  pub number : after ≡ before
  pub cell_is : t.cell ≡ s.cell
  pub keeps : Keeps s.pass t.pass
  pub did : TunnelWorkerDid tells before o s n t end

-- a pump and the ticker over an outlet that sends nothing did what those of the server do; their kits' outlets stay as they are
pub record SilentPumpDid (number : ℕ) (o n : JobState PumpView) (end : ServeEnd) : Type 0 where
  pub did : PumpDid ⊥ number o n end
  pub outbox : n.kit.outbox ≡ o.kit.outbox

pub record SilentTickerDid (o n : JobState TickView) (end : ServeEnd) : Type 0 where
  pub did : TickerDid ⊥ o n end
  pub outbox : n.kit.outbox ≡ o.kit.outbox

-- a pump did what a pump of the server does, and made no entry of the lanes
pub record TunnelPumpDid (number : ℕ) (o : PumpView) (s : CallerSeat) (n : PumpView) (t : CallerSeat) (end : ServeEnd) : Type 0 where
  pub pumped : PumpDid ⊥ number (job_state o (known_by s.pass)) (job_state n (known_by t.pass)) end
  pub others : outers t.pass.own ≡ outers s.pass.own
  pub outbox : n.outbox ≡ o.outbox

-- the ticker did what that of the server does, and made no entry of the lanes
pub record TunnelTickerDid (o : TickView) (s : CallerSeat) (n : TickView) (t : CallerSeat) (end : ServeEnd) : Type 0 where
  pub ticked : TickerDid ⊥ (job_state o (known_by s.pass)) (job_state n (known_by t.pass)) end
  pub others : outers t.pass.own ≡ outers s.pass.own
  pub outbox : n.outbox ≡ o.outbox

-- these effects as relations of kits, by the contract's view of a kit
abbrev pub worker_deed : {K : Type 0} → (tells : DoorsTell) → (K → WorkerView) → ℕ → K → CallerSeat → K → CallerSeat → ServeEnd → Type 0
worker_deed tells view number o s n t end = TunnelWorkerDid tells number (view o) s (view n) t end

abbrev pub pump_deed : {K : Type 0} → (K → PumpView) → ℕ → K → CallerSeat → K → CallerSeat → ServeEnd → Type 0
pump_deed view number o s n t end = TunnelPumpDid number (view o) s (view n) t end

abbrev pub ticker_deed : {K : Type 0} → (K → TickView) → ℕ → K → CallerSeat → K → CallerSeat → ServeEnd → Type 0
ticker_deed view number o s n t end = TunnelTickerDid (view o) s (view n) t end

-- a job was done at its seat
pub record SeatDid {X K M : Type 0} (cell : X → Cell Setting) (pass : X → ShownPass)
    (did : ℕ → K → CallerSeat → K → CallerSeat → ServeEnd → Type 0) (before after : Seat X K M) : Type 0 where
  pub still : IsSameSeat cell pass before after
  pub deed : did before.number before.kit (seated (cell before.caller) (pass before.caller)) after.kit (seated (cell after.caller) (pass after.caller)) after.end
