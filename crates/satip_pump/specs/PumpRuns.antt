-- The run of a pump, as its service and its outlet show it.
use Rattle.std.specs.Prelude.{◌≡◌, ℕ, ◌+◌, ◌≤◌, ◌⊎◌, ◌↔◌, List, [], ◌∷◌, Option, Some, None}
use Rattle.satip_plain.specs.declared.answers.Answer.{Answer}
use Rattle.satip_plain.specs.declared.answers.Answer.TheVariants.{Work as WorkIs}
use Rattle.satip_plain.specs.declared.answers.Work.TheVariants.{Stopping}
use Rattle.satip_plain.specs.Histories.{Item}
use Rattle.satip_plain.specs.Pumping.{Due, Asking, Pumps}
use Rattle.satip_plain.specs.Known.{Known, AddsAll}
use Rattle.satip_world.specs.Deliveries.{Delivers}
use Rattle.satip_world.specs.Outboxes.{Outbox}
use Rattle.satip_world.specs.Recordings.{StoreView}
use Rattle.satip_desk.specs.declared.kits.PumpKit.{PumpKit}
use Rattle.satip_pump.specs.declared.ends.JobEnd.{JobEnd}
use Rattle.satip_pump.specs.declared.ends.JobEnd.TheVariants.{Stopped}
use Rattle.satip_pump.specs.Events.{datagrams_of}

-- a count rose by at least n, or is at its largest value; it never falls
pub record RoseBy (n before now : ℕ) : Type 0 where
  pub rose : (before + n ≤ now) ⊎ (18446744073709551615 ≤ now)
  pub kept : before ≤ now

-- the answer of the last entry, or the given one if there is no entry
abbrev pub last_from : Option Answer → List Item → Option Answer
last_from answer [] = answer
last_from answer (e ∷ es) = last_from (Some e.answer) es

-- the state of a pump's store, service and outlet: the recordings that the store exposes, what the service knows of the history, what the outlet was sent,
-- and the count of the store's faults
pub record PumpState : Type 0 where
  pub recording : ℕ → Option (List ℕ)
  pub known : Known
  pub outbox : Outbox
  pub faults : ℕ

-- the contract's view of a service, a store and an outlet
abbrev pub play_state : {S M O : Type 0} → (S → Known) → (M → StoreView) → (O → Outbox) → S → M → O → PumpState
play_state known shelf outbox service store outlet = record {
  recording = (shelf store).recording;
  known = known service;
  outbox = outbox outlet;
  faults = (shelf store).faults;
}

-- the contract's view of a pump's service and kit
abbrev pub pump_state : {S M O P : Type 0} → (S → Known) → (M → StoreView) → (O → Outbox) → S → PumpKit M O P → PumpState
pump_state known shelf outbox service kit = play_state known shelf outbox service kit.store kit.outlet

-- the entries of the pump of front end `number`, from its first question on, follow the recordings that its store exposes, which stay the same. The outlet was
-- given their datagrams. The number of recordings that ended early is at most the rise of the store's fault count, unless that count is at its largest value
pub record PumpRun (outlet_tells : Type 0) (number : ℕ) (o n : PumpState) (end : JobEnd) : Type 0 where
  pub entries : List Item
  pub due : Due
  pub early : ℕ
  pub recordings : n.recording ≡ o.recording
  pub adds : AddsAll o.known n.known entries
  pub pumps : Pumps number o.recording (Asking None) entries due early
  pub few : RoseBy early o.faults n.faults
  pub delivers : Delivers outlet_tells o.outbox n.outbox (datagrams_of entries)
  pub stopped : (end ≡ Stopped) ↔ (last_from None entries ≡ Some (WorkIs Stopping))
