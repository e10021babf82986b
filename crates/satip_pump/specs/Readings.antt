-- A pump's reading, and the recording that it reads.
use Rattle.std.specs.Prelude.{◌≡◌, ◌≢◌, ℕ, ◌+◌, ◌≤◌, ◌⊎◌, List, [], ◌++◌, Option, Some, None}
use Rattle.satip_base.specs.Streams.{Feed}
use Rattle.satip_ts.specs.Recording.{cut_packets}
use Rattle.satip_world.specs.Counts.{Rises}
use Rattle.satip_world.specs.Recordings.{StoreView}
use Rattle.satip_pump.specs.declared.reading.Reading.{Reading}
use Rattle.satip_plain.specs.Pumping.{Reel, tuned}
use Rattle.satip_pump.specs.Buffers.{nothing_read}
use Rattle.satip_pump.specs.PumpRuns.{RoseBy}

-- nothing was read
abbrev pub begun : {F : Type 0} → Reading F
begun = record { tune = None; source = None; buffer = nothing_read }

-- the number of sources held: one or none
abbrev pub held : {F : Type 0} → Option F → ℕ
held None = 0
held (Some source) = 1

-- `packets` are the waiting packets and those that are still in the rest and the source. Without a source the others are missing: then there are none, or one
-- fault is owed
abbrev pub AreLeft : {F : Type 0} → (tells : Type 0) → (F → Feed) → List (List ℕ) → List (List ℕ) → List ℕ → Option F → ℕ → Type 0
AreLeft tells feed packets waiting held (Some source) owed = tells × (packets ≡ waiting ++ cut_packets (held ++ (feed source).left))
AreLeft tells feed packets waiting held None owed =
    (missing : List (List ℕ)) × (packets ≡ waiting ++ missing) × ((missing ≡ []) ⊎ (owed ≡ 1)) × (cut_packets held ≡ [])

-- the same if the store exposes the recording; nothing is said otherwise
abbrev pub AreToldLeft : {F : Type 0} → (tells : Type 0) → (F → Feed) → Option (List (List ℕ)) → List (List ℕ) → List ℕ → Option F → ℕ → Type 0
AreToldLeft tells feed None waiting held source owed = Unit {0}
AreToldLeft tells feed (Some packets) waiting held source owed = AreLeft tells feed packets waiting held source owed

-- the reading holds the part of this recording that was not given yet
abbrev pub IsReel : {F : Type 0} → (tells : Type 0) → (F → Feed) → Option Reel → Reading F → ℕ → Type 0
IsReel tells feed None reading owed = reading.tune ≡ None
IsReel tells feed (Some reel) reading owed =
    (reading.tune ≡ Some reel.tune) × AreToldLeft tells feed reel.left reading.buffer.packets reading.buffer.rest reading.source owed

-- it does so when `early` recordings ended early while the store's fault count rose from `first` to `now`; one more fault may be owed
pub record Stands {F : Type 0} (tells : Type 0) (feed : F → Feed) (first now early : ℕ) (reel : Option Reel) (reading : Reading F) : Type 0 where
  pub owed : ℕ
  pub is_reel : IsReel tells feed reel reading owed
  pub few : RoseBy (early + owed) first now

-- a store, and the reading of one of its recordings
pub record ReadState (F : Type 0) : Type 0 where
  pub store : StoreView
  pub reading : Reading F

-- the contract's view of a store and a reading
abbrev pub read_state : {M F : Type 0} → (M → StoreView) → M → Reading F → ReadState F
read_state shelf store reading = record { store = shelf store; reading = reading }

-- a step keeps `Stands`, for the same recording and the same number of early ends
abbrev pub Goes : {F : Type 0} → (tells : Type 0) → (F → Feed) → (o n : ReadState F) → Type 0
Goes tells feed o n =
    (first early : ℕ) (reel : Option Reel) → Stands tells feed first o.store.faults early reel o.reading
    → Stands tells feed first n.store.faults early reel n.reading

-- a step of reading on: the recording and the tune number stay the same. The store changes only if it gets a source back
pub record ReadsOn {F : Type 0} (tells : Type 0) (feed : F → Feed) (o n : ReadState F) : Type 0 where
  pub goes : Goes tells feed o n
  pub recordings : n.store.recording ≡ o.store.recording
  pub tune : n.reading.tune ≡ o.reading.tune
  pub lent : held o.reading.source ≤ o.store.lent → n.store.lent + held o.reading.source ≡ o.store.lent + held n.reading.source
  pub peak : n.store.peak ≡ o.store.peak

-- a step keeps `Stands`, for the recording of the tuning that follows
abbrev pub GoesTo : {F : Type 0} → (tells : Type 0) → (F → Feed) → (mux tune : ℕ) → (o n : ReadState F) → Type 0
GoesTo tells feed mux tune o n =
    (first early : ℕ) (reel : Option Reel) → Stands tells feed first o.store.faults early reel o.reading
    → Stands tells feed first n.store.faults early (Some (tuned o.store.recording reel mux tune)) n.reading

-- the source failed at some time
abbrev pub HasFailed : {F : Type 0} → (F → Feed) → Option F → Type 0
HasFailed feed None = ⊥
HasFailed feed (Some source) = (feed source).faults ≢ 0

-- the source has the whole recording left, if the store exposes the recording
abbrev pub IsWhole : (tells : Type 0) → List ℕ → Option (List ℕ) → Type 0
IsWhole tells left None = Unit {0}
IsWhole tells left (Some recording) = tells × (left ≡ recording)

-- a recording was opened, or the store's fault count rose
abbrev pub Begins : {F : Type 0} → (tells : Type 0) → (F → Feed) → Option (List ℕ) → ℕ → ℕ → Option F → Type 0
Begins tells feed recording faults faults' (Some source) = (faults' ≡ faults) × IsWhole tells (feed source).left recording
Begins tells feed recording faults faults' None = Rises faults faults'
