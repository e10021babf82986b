-- The kits that jobs leave, as they are seen.
use Rattle.std.proofs.Common.{◌≡◌, refl, sym, ap, ◌∙◌, ℕ, List, [], ◌∷◌, Option, map}
use Rattle.satip_world.specs.Halls.{Hall}
use Rattle.satip_world.specs.Outboxes.{Outbox}
use Rattle.satip_world.specs.Recordings.{StoreView}
use Rattle.satip_desk.specs.declared.kits.PumpKit.{PumpKit}
use Rattle.satip_desk.specs.declared.kits.WorkerKit.{WorkerKit}
use Rattle.satip_serve.specs.Ran.{ComeBack}
use Rattle.satip_desk.specs.Views.{WorkerView, PumpView, TickView, worker_view, pump_view}

-- the keys of workers, and the recordings of pumps
keys_seen : {D O P : Type 0} (hall : D → Hall) (outbox : O → Outbox) (kits : List (WorkerKit D O P))
    → map (λ (w : WorkerView). w.key) (map (worker_view hall outbox) kits) ≡ map (λ (kit : WorkerKit D O P). kit.key) kits
keys_seen hall outbox [] = refl
keys_seen hall outbox (kit ∷ kits) = ap (λ (keys : List (List ℕ)). kit.key ∷ keys) (keys_seen hall outbox kits)

recordings_seen : {M O P : Type 0} (shelf : M → StoreView) (outbox : O → Outbox) (kits : List (PumpKit M O P))
    → map (λ (p : PumpView). p.recording) (map (pump_view shelf outbox) kits) ≡ map (λ (kit : PumpKit M O P). (shelf kit.store).recording) kits
recordings_seen shelf outbox [] = refl
recordings_seen shelf outbox (kit ∷ kits) =
    ap (λ (all : List (ℕ → Option (List ℕ))). (shelf kit.store).recording ∷ all) (recordings_seen shelf outbox kits)

-- kits come back at their places
pub come_back : {D O P M : Type 0} (hall : D → Hall) (outbox : O → Outbox) (shelf : M → StoreView) (workers workers' : List (WorkerKit D O P))
    (pumps pumps' : List (PumpKit M O P)) (ticker ticker' : TickView)
    → map (λ (kit : WorkerKit D O P). kit.key) workers' ≡ map (λ (kit : WorkerKit D O P). kit.key) workers
    → map (λ (kit : PumpKit M O P). (shelf kit.store).recording) pumps' ≡ map (λ (kit : PumpKit M O P). (shelf kit.store).recording) pumps
    → ComeBack (record { workers = map (worker_view hall outbox) workers; pumps = map (pump_view shelf outbox) pumps; ticker = ticker })
    (record { workers = map (worker_view hall outbox) workers'; pumps = map (pump_view shelf outbox) pumps'; ticker = ticker' })
come_back hall outbox shelf workers workers' pumps pumps' ticker ticker' keys recordings = record {
  keys = keys_seen hall outbox workers' ∙ keys ∙ sym (keys_seen hall outbox workers);
  recordings = recordings_seen shelf outbox pumps' ∙ recordings ∙ sym (recordings_seen shelf outbox pumps);
}
