-- The state of sources and sinks, and the effect of one call.
use Rattle.std.specs.Prelude.{◌≡◌, ℕ, ◌+◌, ◌<◌, ◌≤◌, ◌⊎◌, Bool, true, false, List, [], ◌++◌, length, take}
use Rattle.satip_base.specs.declared.streams.Taken.{Taken}
use Rattle.satip_base.specs.declared.streams.Taken.TheVariants.{Got, End, Failed as TakeFault}
use Rattle.satip_base.specs.declared.streams.Put.{Put}
use Rattle.satip_base.specs.declared.streams.Put.TheVariants.{Whole, Failed as PutFault}

-- a source: the bytes that are left, whether the end was met, the count of faults and the count of bytes taken
pub record Feed : Type 0 where
  pub left : List ℕ
  pub ended : Bool
  pub faults : ℕ
  pub taken : ℕ

-- a source of a text before anything was taken
abbrev pub fresh_feed : List ℕ → Feed
fresh_feed text = record { left = text; ended = false; faults = 0; taken = 0 }

-- a sink: the bytes that were sent, and the count of faults
pub record Drain : Type 0 where
  pub sent : List ℕ
  pub faults : ℕ

-- a sink before anything was sent
abbrev pub fresh_drain : Drain
fresh_drain = record { sent = []; faults = 0 }

-- a count of faults rose, or has its greatest value
abbrev pub Rose : ℕ → ℕ → Type 0
Rose before now = (before < now) ⊎ (18446744073709551615 ≤ now)

-- count bytes were taken into the start of the buffer; which ones they are is said only if `tells` holds
pub record TookBytes (tells : Type 0) (o n : Feed) (buf : List ℕ) (count : ℕ) : Type 0 where
  pub some : 1 ≤ count
  pub within : count ≤ length buf
  pub before : o.ended ≡ false
  pub after : n.ended ≡ false
  pub faults : n.faults ≡ o.faults
  pub taken : n.taken ≡ o.taken + count
  pub content : tells → o.left ≡ take count buf ++ n.left

-- the source is at its end, for good
pub record MetEnd (tells : Type 0) (o n : Feed) : Type 0 where
  pub after : n.ended ≡ true
  pub faults : n.faults ≡ o.faults
  pub taken : n.taken ≡ o.taken
  pub nothing_left : tells → o.left ≡ []
  pub content : tells → n.left ≡ []

-- the source failed, and nothing was taken
pub record FailedToTake (tells : Type 0) (o n : Feed) : Type 0 where
  pub before : o.ended ≡ false
  pub after : n.ended ≡ false
  pub faults : Rose o.faults n.faults
  pub taken : n.taken ≡ o.taken
  pub content : tells → n.left ≡ o.left

-- one call of `take`, with the contents of the buffer after it
abbrev pub Takes : (tells : Type 0) (o n : Feed) (buf : List ℕ) → Taken → Type 0
Takes tells o n buf (Got count) = TookBytes tells o n buf count
Takes tells o n buf End = MetEnd tells o n
Takes tells o n buf TakeFault = FailedToTake tells o n

-- all bytes were sent after the earlier ones, which is said only if `tells` holds; the count of faults is unchanged
pub record PutAll (tells : Type 0) (o n : Drain) (bytes : List ℕ) : Type 0 where
  pub faults : n.faults ≡ o.faults
  pub content : tells → n.sent ≡ o.sent ++ bytes

-- a prefix of some bytes was sent after the earlier ones
pub record Began (before now bytes : List ℕ) : Type 0 where
  pub part : List ℕ
  pub rest : List ℕ
  pub whole : bytes ≡ part ++ rest
  pub sent : now ≡ before ++ part

-- the sink failed, and a prefix of the bytes was sent
pub record FailedToPut (tells : Type 0) (o n : Drain) (bytes : List ℕ) : Type 0 where
  pub faults : Rose o.faults n.faults
  pub content : tells → Began o.sent n.sent bytes

-- one call of `put`
abbrev pub Puts : (tells : Type 0) (o n : Drain) (bytes : List ℕ) → Put → Type 0
Puts tells o n bytes Whole = PutAll tells o n bytes
Puts tells o n bytes PutFault = FailedToPut tells o n bytes
