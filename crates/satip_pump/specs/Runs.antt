-- A pump between two of its events.
use Rattle.std.specs.Prelude.{◌≡◌, ◌≢◌, ℕ, Bool, List, Option, Some, None, Result, Ok, Err}
use Rattle.satip_base.specs.Streams.{Feed}
use Rattle.satip_plain.specs.declared.answers.Answer.{Answer}
use Rattle.satip_plain.specs.declared.answers.Answer.TheVariants.{Work as WorkIs}
use Rattle.satip_plain.specs.declared.answers.Work.{Work}
use Rattle.satip_plain.specs.declared.answers.Work.TheVariants.{Stopping}
use Rattle.satip_plain.specs.Histories.{Item}
use Rattle.satip_plain.specs.declared.fault.ServiceFault.{ServiceFault}
use Rattle.satip_plain.specs.Calls.{Cause}
use Rattle.satip_plain.specs.Known.{Known, AddsAll}
use Rattle.satip_world.specs.Deliveries.{Delivers}
use Rattle.satip_world.specs.Outboxes.{Outbox}
use Rattle.satip_world.specs.Recordings.{StoreView}
use Rattle.satip_pump.specs.declared.reading.Reading.{Reading}
use Rattle.satip_pump.specs.Events.{datagrams_of}
use Rattle.satip_plain.specs.Pumping.{Due, Asking, Feeding, Reel, after_work, Pumps}
use Rattle.satip_pump.specs.PumpRuns.{PumpState, play_state, RoseBy, last_from}
use Rattle.satip_pump.specs.Readings.{Stands}

-- the entries so far, what is due after them, the last answer, and the number of recordings that ended early
pub record SoFar (tells : Type 0) (front : ℕ) (o n : PumpState) (due : Due) (last : Option Answer) (early : ℕ) : Type 0 where
  pub entries : List Item
  pub recordings : n.recording ≡ o.recording
  pub adds : AddsAll o.known n.known entries
  pub pumps : Pumps front o.recording (Asking None) entries due early
  pub delivers : Delivers tells o.outbox n.outbox (datagrams_of entries)
  pub answered : last_from None entries ≡ last

-- a pump in the middle of its run: its state, and its reading
pub record PumpNow (F : Type 0) : Type 0 where
  pub state : PumpState
  pub reading : Reading F

-- the contract's view of a pump's service, store, outlet and reading
abbrev pub pump_now : {S M O F : Type 0} → (S → Known) → (M → StoreView) → (O → Outbox) → S → M → O → Reading F → PumpNow F
pump_now known shelf outbox service store outlet reading = record { state = play_state known shelf outbox service store outlet; reading = reading }

-- the last answer named this work
pub record Runs {F : Type 0} (tells reads : Type 0) (feed : F → Feed) (front : ℕ) (o : PumpState) (n : PumpNow F) (work : Work) : Type 0 where
  pub reel : Option Reel
  pub early : ℕ
  pub so_far : SoFar tells front o n.state (after_work o.recording reel work) (Some (WorkIs work)) early
  pub stands : Stands reads feed o.faults n.state.faults early reel n.reading

-- the last answer named this work, and the pump reads for this tune number
pub record Feeds {F : Type 0} (tells reads : Type 0) (feed : F → Feed) (front : ℕ) (o : PumpState) (n : PumpNow F) (work : Work) (tune : ℕ) : Type 0 where
  pub reel : Reel
  pub early : ℕ
  pub so_far : SoFar tells front o n.state (Feeding reel) (Some (WorkIs work)) early
  pub stands : Stands reads feed o.faults n.state.faults early (Some reel) n.reading
  pub same : reel.tune ≡ tune

-- the service made no entry of the next event
pub record Fails (may_want : Bool) (tells : Type 0) (front : ℕ) (o n : PumpState) (fault : ServiceFault) : Type 0 where
  pub due : Due
  pub last : Option Answer
  pub early : ℕ
  pub so_far : SoFar tells front o n due last early
  pub few : RoseBy early o.faults n.faults
  pub going : last ≢ Some (WorkIs Stopping)
  pub cause : Cause may_want n.known fault

-- the state of a pump after an answer, or after the service made no entry
abbrev pub Answered : {F : Type 0} → Bool → (tells reads : Type 0) → (F → Feed) → ℕ → PumpState → PumpNow F → Result Work ServiceFault → Type 0
Answered may_want tells reads feed front o n (Ok work) = Runs tells reads feed front o n work
Answered may_want tells reads feed front o n (Err fault) = Fails may_want tells front o n.state fault
