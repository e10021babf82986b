-- The results of a desk's calls.
use Rattle.std.specs.Prelude.{◌≡◌, ℕ, List, Option}
use Rattle.satip_base.specs.Streams.{Feed}
use Rattle.satip_world.specs.Counts.{Rises}
use Rattle.satip_world.specs.Recordings.{IsStarted}
use Rattle.satip_desk.specs.declared.desk.JobsFault.{JobsFault}
use Rattle.satip_desk.specs.declared.desk.JobsFault.TheVariants.{Failed, Want}

-- a desk fails only if its count of faults rises; out of memory leaves the count as it was
abbrev pub FailsFor : (before now : ℕ) → JobsFault → Type 0
FailsFor before now Failed = Rises before now
FailsFor before now Want = now ≡ before

-- a source that the desk gave and from which nothing was read, with a fact about it
pub record GivenFrom (tells : Type 0) (text : Option (List ℕ)) (Said : Feed → Type 0) : Type 0 where
  pub source : Feed
  pub started : IsStarted tells source text
  pub untaken : source.taken ≡ 0
  pub said : Said source
