-- Kits over the system, as the jobs see them.
use Rattle.std.proofs.Common.{ℕ, false, List, [], ◌∷◌, All, map, ap}
use Rattle.std.proofs.lemmas.List.Elements.{All-head, All-tail}
use Rattle.satip_base.specs.Lists.{Each}
use Rattle.satip_real_desk.specs.Unused.{IsUnusedWorker, IsUnusedPump, IsUnusedTick}
use Rattle.satip_desk.specs.declared.kits.PumpKit.{PumpKit}
use Rattle.satip_desk.specs.declared.kits.TickKit.{TickKit}
use Rattle.satip_playout.specs.StoreCounts.{StoreCounts, counts_view}
use Rattle.satip_desk.specs.declared.kits.WorkerKit.{WorkerKit}
use Rattle.satip_world.specs.Dials.{Dial}
use Rattle.satip_world.specs.Halls.{Hall}
use Rattle.satip_world.specs.Outboxes.{Outbox}
use Rattle.satip_desk.specs.Fresh.{AreFresh, FreshWorker, FreshPump}
use Rattle.satip_desk.specs.Views.{worker_view, pump_view, tick_view}

each_of_all : {S T : Type 0} (f : S → T) (P : S → Type 0) (Q : T → Type 0) → ((x : S) → P x → Q (f x)) → (xs : List S) → All P xs → Each Q (map f xs)
each_of_all f P Q holds [] all = tt
each_of_all f P Q holds (x ∷ xs) all = (holds x (All-head P x xs all), each_of_all f P Q holds xs (All-tail P x xs all))

pub kits_fresh : (accepts : ℕ) (workers : List (WorkerKit Hall Outbox ℕ)) (pumps : List (PumpKit StoreCounts Outbox ℕ)) (tick : TickKit Dial Outbox ℕ)
    → All (IsUnusedWorker accepts) workers → All IsUnusedPump pumps → IsUnusedTick tick
    → AreFresh accepts (record {
      workers = map (worker_view (λ (h : Hall). h) (λ (o : Outbox). o)) workers;
      pumps = map (pump_view counts_view (λ (o : Outbox). o)) pumps;
      ticker = tick_view (λ (d : Dial). d) (λ (o : Outbox). o) tick;
    })
kits_fresh accepts workers pumps tick new_workers new_pumps new_tick = record {
  workers_are = each_of_all (worker_view (λ (h : Hall). h) (λ (o : Outbox). o)) (IsUnusedWorker accepts) (FreshWorker accepts)
      (λ kit new. record { told = false; hall = new.doors; outbox = new.outlet }) workers new_workers;
  pumps_are = each_of_all (pump_view counts_view (λ (o : Outbox). o)) IsUnusedPump FreshPump
      (λ kit new. record {
        faults = ap (λ (s : StoreCounts). s.faults) new.store;
        lent = ap (λ (s : StoreCounts). s.lent) new.store;
        peak = ap (λ (s : StoreCounts). s.peak) new.store;
        outbox = new.outlet;
      }) pumps new_pumps;
  ticker_is = record { told = false; dial = new_tick.clock; outbox = new_tick.outlet };
}
