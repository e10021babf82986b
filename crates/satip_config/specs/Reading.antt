-- A source that is read to its end, up to a limit.
use Rattle.std.specs.Prelude.{◌≡◌, ℕ, ◌+◌, ◌≤◌, true, List, [], ◌++◌, length}
use Rattle.satip_base.specs.Streams.{Feed, Rose}
use Rattle.satip_base.specs.declared.streams.Taken.{Taken}
use Rattle.satip_base.specs.declared.streams.Taken.TheVariants.{Got, End, Failed as TakeFault}
use Rattle.satip_config.specs.declared.whole.ReadFault.{ReadFault}
use Rattle.satip_config.specs.declared.whole.ReadFault.TheVariants.{TooLong, Failed, OutOfMemory}

-- a text was taken from a source
pub record Read (tells : Type 0) (i j : Feed) (text : List ℕ) : Type 0 where
  pub taken : j.taken ≡ i.taken + length text
  pub content : tells → i.left ≡ text ++ j.left

-- the source was read to its end, and this is its whole text
pub record ReadWhole (tells : Type 0) (i j : Feed) (text : List ℕ) : Type 0 where
  pub taken : j.taken ≡ i.taken + length text
  pub ended : j.ended ≡ true
  pub faults : j.faults ≡ i.faults
  pub content : tells → i.left ≡ text
  pub nothing_left : tells → j.left ≡ []

-- the source was read to its end, within the limit
pub record EndsWhole (tells : Type 0) (i j : Feed) (limit : ℕ) (text : List ℕ) : Type 0 where
  pub whole : ReadWhole tells i j text
  pub short : length text ≤ limit

-- one byte more than the limit was taken
pub record EndsTooLong (tells : Type 0) (i j : Feed) (limit : ℕ) : Type 0 where
  pub text : List ℕ
  pub read : Read tells i j text
  pub long : length text ≡ limit + 1
  pub faults : j.faults ≡ i.faults

-- the source failed after a part of it was taken
pub record EndsFailed (tells : Type 0) (i j : Feed) (limit : ℕ) : Type 0 where
  pub text : List ℕ
  pub read : Read tells i j text
  pub short : length text ≤ limit
  pub rose : Rose i.faults j.faults

-- out of memory after a part of the source was taken
pub record EndsWanting (tells : Type 0) (i j : Feed) (limit : ℕ) : Type 0 where
  pub text : List ℕ
  pub read : Read tells i j text
  pub short : length text ≤ limit
  pub faults : j.faults ≡ i.faults

-- the reading of a source fails with this fault
abbrev pub ReadFails : (tells : Type 0) (i j : Feed) (limit : ℕ) → ReadFault → Type 0
ReadFails tells i j limit TooLong = EndsTooLong tells i j limit
ReadFails tells i j limit Failed = EndsFailed tells i j limit
ReadFails tells i j limit OutOfMemory = EndsWanting tells i j limit

-- a take gives at most `room` bytes
abbrev pub GetsAtMost : ℕ → Taken → Type 0
GetsAtMost room (Got count) = count ≤ room
GetsAtMost room End = Unit {0}
GetsAtMost room TakeFault = Unit {0}
