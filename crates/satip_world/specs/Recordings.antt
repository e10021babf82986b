-- A store as contracts see it, and the sources that it lends.
use Rattle.std.specs.Prelude.{◌≡◌, ℕ, false, List, Option, Some, None}
use Rattle.satip_base.specs.Streams.{Feed}

-- a store: the recording of each multiplex, if it exposes it; the counts of its faults and of its lent sources; and the most sources that were lent at once
pub record StoreView : Type 0 where
  pub recording : ℕ → Option (List ℕ)
  pub faults : ℕ
  pub lent : ℕ
  pub peak : ℕ

-- if the store exposes the recording, the source exposes its content and holds that recording
abbrev pub Holds : (tells : Type 0) → Feed → Option (List ℕ) → Type 0
Holds tells feed None = Unit {0}
Holds tells feed (Some recording) = tells × (feed.left ≡ recording)

-- a source from which nothing was read, and which never failed
pub record IsStarted (tells : Type 0) (feed : Feed) (recording : Option (List ℕ)) : Type 0 where
  pub ended : feed.ended ≡ false
  pub faults : feed.faults ≡ 0
  pub holds : Holds tells feed recording
