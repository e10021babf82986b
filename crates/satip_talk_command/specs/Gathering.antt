-- Bytes that wait to be put after those that were sent.
use Rattle.std.specs.Prelude.{◌≡◌, ℕ, List, ◌++◌}
use Rattle.satip_base.specs.Streams.{Drain, FailedToPut}
use Rattle.satip_base.specs.declared.streams.Put.{Put}
use Rattle.satip_base.specs.declared.streams.Put.TheVariants.{Whole, Failed as PutFault}

-- all of a text but the waiting bytes was sent
pub record SentBut (before now waiting text : List ℕ) : Type 0 where
  pub part : List ℕ
  pub whole : text ≡ part ++ waiting
  pub sent : now ≡ before ++ part

-- bytes were added to those that waited, and nothing is lost: the bytes that don't wait were put
pub record GatheredAll (tells : Type 0) (o n : Drain) (old new bytes : List ℕ) : Type 0 where
  pub faults : n.faults ≡ o.faults
  pub content : tells → SentBut o.sent n.sent new (old ++ bytes)

-- one call of `gather`
abbrev pub Gathers : (tells : Type 0) (o n : Drain) (old new bytes : List ℕ) → Put → Type 0
Gathers tells o n old new bytes Whole = GatheredAll tells o n old new bytes
Gathers tells o n old new bytes PutFault = FailedToPut tells o n (old ++ bytes)
