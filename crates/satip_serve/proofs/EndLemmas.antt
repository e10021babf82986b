-- The kits of a run that didn't begin.
use Rattle.std.proofs.Common.{ℕ, List, map, ap}
use Rattle.satip_world.specs.Recordings.{StoreView}
use Rattle.satip_world.specs.Dials.{Dial}
use Rattle.satip_world.specs.Halls.{Hall}
use Rattle.satip_world.specs.Outboxes.{Outbox}
use Rattle.satip_desk.specs.declared.kits.PumpKit.{PumpKit}
use Rattle.satip_desk.specs.declared.kits.WorkerKit.{WorkerKit}
use Rattle.satip_desk.specs.Fresh.{AreFresh, Unused}
use Rattle.satip_desk.specs.Views.{worker_view, pump_view, jobs_view}
use Rattle.satip_desk.specs.declared.kits.JobKits.{JobKits}
use Rattle.satip_serve.proofs.Starting.{fresh_at}
use Rattle.satip_desk.specs.Given.{ComeUnused}
use Rattle.satip_desk.specs.Fresh.{AreUnused}

-- kits that are the same but for one reading of the clock show the same
pub come_unused : {D O P M C : Type 0} (hall : D → Hall) (outbox : O → Outbox) (shelf : M → StoreView) (dial : C → Dial)
    (jobs left : JobKits D O P M C) → Unused dial jobs left → ComeUnused (jobs_view hall outbox shelf dial jobs) (jobs_view hall outbox shelf dial left)
come_unused {D} {O} {P} {M} hall outbox shelf dial jobs left same = record {
  workers = ap (λ (ks : List (WorkerKit D O P)). map (worker_view hall outbox) ks) same.workers_same;
  pumps = ap (λ (ks : List (PumpKit M O P)). map (pump_view shelf outbox) ks) same.pumps_same;
  moment = same.moment;
  clock = same.read;
  outbox = ap outbox same.outlet;
}

-- kits that are the same but for one reading of the clock, as they are seen
pub unused_of : {D O P M C : Type 0} (hall : D → Hall) (outbox : O → Outbox) (shelf : M → StoreView) (dial : C → Dial) (accepts : ℕ)
    (jobs left : JobKits D O P M C) → AreFresh accepts (jobs_view hall outbox shelf dial jobs) → Unused dial jobs left
    → AreUnused accepts (jobs_view hall outbox shelf dial left)
unused_of hall outbox shelf dial accepts jobs left fresh same =
    let given = jobs_view hall outbox shelf dial jobs in
    let kits = jobs_view hall outbox shelf dial left in
    let come : ComeUnused given kits = come_unused hall outbox shelf dial jobs left same in record {
      start = come.moment;
      fresh = fresh_at come.moment accepts given kits come.workers come.pumps come.clock come.outbox fresh;
    }
