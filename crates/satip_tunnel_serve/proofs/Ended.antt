-- Why a tunnel's jobs ended so.
use Rattle.std.proofs.Common.{◌≡◌, ◌≢◌, ℕ, Bool, true, false, List, length, sym, subst}
use Rattle.std.proofs.lemmas.Bool.{false≢true}
use Rattle.satip_plain.specs.Known.{Known}
use Rattle.satip_interleave.specs.Calling.{known_by}
use Rattle.satip_tunnel.specs.Seats.{Seat}
use Rattle.satip_world.specs.Halls.{Hall, IsAtLimit, Return, fresh_hall}
use Rattle.satip_pump.specs.declared.ends.JobEnd.{JobEnd}
use Rattle.satip_pump.specs.declared.ends.JobEnd.TheVariants.{Stopped, Spent as JobSpent, Want as JobWant}
use Rattle.satip_worker.specs.declared.worker.WorkerEnd.{WorkerEnd}
use Rattle.satip_worker.specs.declared.worker.WorkerEnd.TheVariants.{Closed, DoorsFault as WorkerDoorsFault, Spent, Want}
use Rattle.satip_worker.specs.WorkerRun.{WorkerEnds}
use Rattle.satip_jobs.specs.declared.end.ServeEnd.{ServeEnd}
use Rattle.satip_jobs.specs.Runs.{MatchEnd}
use Rattle.satip_serve.specs.Ends.{end_of_worker, end_of_job}
use Rattle.satip_desk.specs.Fresh.{FreshWorker}
use Rattle.satip_desk.specs.Views.{WorkerView, PumpView, TickView}
use Rattle.satip_serve.proofs.Finishing.{not_zero}
use Rattle.satip_tunnel_serve.specs.Deeds.{DoorsTell, TunnelWorkerDid, TunnelPumpDid, TunnelTickerDid}

worker_tells : (full : Type 0) (ended : WorkerEnd) (accepts : ℕ) (told : Bool) (hall : Hall) (l : Known) (returns : List Return)
    → WorkerEnds ended (fresh_hall accepts told) hall false l returns → (l.length ≡ 18446744073709551615 → full)
    → MatchEnd (end_of_worker ended) (hall.ended ≡ true) (hall.faults ≢ 0) full
worker_tells full Closed accepts told hall l returns ends fills = ends.ended
worker_tells full WorkerDoorsFault accepts told hall l returns ends fills = not_zero hall.faults ends.faults
worker_tells full Spent accepts told hall l returns ends fills = fills ends.full
worker_tells full Want accepts told hall l returns ends fills = absurd (false≢true ends.may)

job_tells : (full : Type 0) (ended : JobEnd) → (ended ≡ JobSpent → full) → (ended ≡ JobWant → ⊥) → MatchEnd (end_of_job ended) (Unit {0}) ⊥ full
job_tells full Stopped spent want = tt
job_tells full JobSpent spent want = spent (λ i. JobSpent)
job_tells full JobWant spent want = absurd (want (λ i. JobWant))

-- of a worker with fresh doors
pub one_worker_tells : (tells : DoorsTell) (full : Type 0) (accepts number : ℕ) (o n : WorkerView) (s t : Seat) (end : ServeEnd)
    → TunnelWorkerDid tells number o s n t end
    → FreshWorker accepts o → (length t.pass.seen ≡ 18446744073709551615 → full) → MatchEnd end (n.hall.ended ≡ true) (n.hall.faults ≢ 0) full
one_worker_tells tells full accepts number o n s t end did fresh filled =
    let ends : WorkerEnds did.ended (fresh_hall accepts fresh.told) n.hall false (known_by t.pass) did.serves.returns =
    subst (λ (h : Hall). WorkerEnds did.ended h n.hall false (known_by t.pass) did.serves.returns) fresh.hall did.serves.ends in
    subst (λ (e : ServeEnd). MatchEnd e (n.hall.ended ≡ true) (n.hall.faults ≢ 0) full) (sym did.end_is)
    (worker_tells full did.ended accepts fresh.told n.hall (known_by t.pass) did.serves.returns ends filled)

-- the doors of a worker that was served are at their limit, if they end by it alone
worker_limit : (by_limit full : Type 0) (ended : WorkerEnd) (o n : Hall) (l : Known) (returns : List Return) → WorkerEnds ended o n false l returns
    → (ended ≡ Closed → by_limit → IsAtLimit n) → (l.length ≡ 18446744073709551615 → full)
    → MatchEnd (end_of_worker ended) (by_limit → IsAtLimit n) (Unit {0}) full
worker_limit by_limit full Closed o n l returns ends limit fills = limit (λ i. Closed)
worker_limit by_limit full WorkerDoorsFault o n l returns ends limit fills = tt
worker_limit by_limit full Spent o n l returns ends limit fills = fills ends.full
worker_limit by_limit full Want o n l returns ends limit fills = absurd (false≢true ends.may)

pub one_worker_limit : (tells : DoorsTell) (full : Type 0) (number : ℕ) (o n : WorkerView) (s t : Seat) (end : ServeEnd)
    → TunnelWorkerDid tells number o s n t end → (length t.pass.seen ≡ 18446744073709551615 → full)
    → MatchEnd end (tells.by_limit → IsAtLimit n.hall) (Unit {0}) full
one_worker_limit tells full number o n s t end did filled =
    subst (λ (e : ServeEnd). MatchEnd e (tells.by_limit → IsAtLimit n.hall) (Unit {0}) full) (sym did.end_is)
    (worker_limit tells.by_limit full did.ended o.hall n.hall (known_by t.pass) did.serves.returns did.serves.ends did.at_limit filled)

-- of a pump, and of the ticker
pub one_pump_tells : (full : Type 0) (number : ℕ) (o n : PumpView) (s t : Seat) (end : ServeEnd) → TunnelPumpDid number o s n t end
    → (length t.pass.seen ≡ 18446744073709551615 → full) → MatchEnd end (Unit {0}) ⊥ full
one_pump_tells full number o n s t end did filled =
    subst (λ (e : ServeEnd). MatchEnd e (Unit {0}) ⊥ full) (sym did.pumped.end_is)
    (job_tells full did.pumped.ended (λ is. filled (did.pumped.spent is)) did.pumped.memory)

pub one_ticker_tells : (full : Type 0) (o n : TickView) (s t : Seat) (end : ServeEnd) → TunnelTickerDid o s n t end
    → (length t.pass.seen ≡ 18446744073709551615 → full) → MatchEnd end (Unit {0}) ⊥ full
one_ticker_tells full o n s t end did filled =
    subst (λ (e : ServeEnd). MatchEnd e (Unit {0}) ⊥ full) (sym did.ticked.end_is)
    (job_tells full did.ticked.ended (λ is. filled (did.ticked.spent is)) did.ticked.memory)
