-- The outcome of serving, by its status.
use Rattle.std.specs.Prelude.{◌≡◌, ℕ, ◌+◌, ◌≤◌, ◌⊎◌, ◌↔◌, List, Option, Some, None, option_map, IsSome, IsNone, IfSome, IsSomeAnd, MatchOption}
use Rattle.satip_base.specs.Streams.{Feed, Rose}
use Rattle.satip_world.specs.Counts.{Rises}
use Rattle.satip_plain.specs.Types.{Config as Configuration}
use Rattle.satip_config.specs.declared.fault.ConfigFault.{ConfigFault}
use Rattle.satip_base.specs.Lists.{Has}
use Rattle.satip_config.specs.Configurations.{configuration_limit, Configured, Refused}
use Rattle.satip_serve.specs.declared.all_jobs.Last.{Last}
use Rattle.satip_desk.specs.Views.{DeskView, JobsView}
use Rattle.satip_desk.specs.Streams.{Tells}
use Rattle.satip_desk.specs.Given.{ComeUnused}
use Rattle.satip_serve.specs.CommandRan.{LastView, ServingRun, last_view}
use Rattle.satip_desk.specs.Desks.{GivenFrom}
use Rattle.satip_desk.specs.Fresh.{AreUnused}
use Rattle.satip_serve.specs.Servings.{IsOneOf, IsNeitherOf}
use Rattle.satip_serve.specs.Statuses.{serve_statuses, IsServeSettled}

-- what serving left, as contracts see it: the configuration's source, if the desk gave it; what the jobs left, if any began; the kits with which no job began;
-- and the status
pub record ServingLeft (L : Type 0) : Type 0 where
  pub source : Option Feed
  pub last : Option L
  pub unused : Option JobsView
  pub status : ℕ

-- jobs ran by the configuration that this source gave of a desk's text
pub record RanBy (config_tells : Type 0) (text : Option (List ℕ)) (source : Feed) (Ran : Configuration → Type 0) : Type 0 where
  pub config : Configuration
  pub configured : GivenFrom config_tells text (λ a. Configured config_tells a source config)
  pub ran : Ran config

-- the outcome of serving by the configuration of this name. `Told` says how a fault of the configuration is shown, and `accepts` is the limit of each worker's
-- doors. `d` and `f` are the desk before and after. `Ran` says what jobs left that ran with the desk's kits and by this configuration
pub record ServingEnds {L : Type 0} (config_tells : Type 0) (Told : ConfigFault → Type 0) (accepts : ℕ) (name : List ℕ) (d f : DeskView)
    (Ran : JobsView → Configuration → L → Type 0) (left : ServingLeft L) : Type 0 where
  pub status_is : Has left.status serve_statuses
  -- the jobs ran with the kits that the desk gave, by the configuration of its text
  pub ran : IfSome left.last (λ l. IsSomeAnd left.source (λ s. IsSomeAnd f.given (λ g. RanBy config_tells (d.text name) s (λ c. Ran g c l))))
  -- the source is given back, unless the desk failed to open it: then its fault count rose. Otherwise the count stays, or the status is 7 and no job began
  pub config : MatchOption left.source (Rises d.faults f.faults) (λ _. (f.faults ≡ d.faults) ⊎ ((left.status ≡ 7) × IsNone left.last))
  -- at most one byte more than its limit is read of it; with any other status than 5 it was opened and never failed
  pub config_limit : IfSome left.source (λ s. s.taken ≤ configuration_limit + 1)
  pub read : (left.status ≡ 5 → ⊥) → IsSomeAnd left.source (λ s. s.faults ≡ 0)
  -- if the desk gave kits, either the jobs left something or the kits are unused. Unused kits show what the given ones showed, but for one reading of the clock
  pub kits : MatchOption f.given (IsNeitherOf left.last left.unused) (λ _. IsOneOf left.last left.unused)
  pub kits_unused : IfSome left.unused (λ k. IsSomeAnd f.given (λ g. ComeUnused g k))
  pub unused_kits : IfSome left.unused (AreUnused accepts)
  -- the causes of each status; `ran` has those of 0, 7 and 9 if jobs began
  pub unused_status : IfSome left.unused (λ _. left.status ≡ 70)
  pub served : (left.status ≡ 0) ⊎ (left.status ≡ 9) → IsSome left.last
  pub configuration : left.status ≡ 3 → (fault : ConfigFault) × Told fault
      × IsSomeAnd left.source (λ s. GivenFrom config_tells (d.text name) (λ a. Refused config_tells a s fault))
  pub input : (left.status ≡ 5) ↔ MatchOption left.source (Rises d.faults f.faults) (λ s. Rose 0 s.faults)
  pub doors_fault : left.status ≡ 7 → IsNone left.last → (f.given ≡ None) × Rises d.faults f.faults
  pub settled : (told : List ℕ) → d.text name ≡ Some told → IfSome left.source (λ s. (Rose 0 s.faults → ⊥) → IsServeSettled told left.status)

-- the outcome of a serve, whose jobs run over one history of the server, by the configuration of its setting
abbrev pub Serves : (t : Tells) → (ConfigFault → Type 0) → ℕ → List ℕ → (d f : DeskView) → ServingLeft LastView → Type 0
Serves t Told accepts name d f left =
    ServingEnds t.config Told accepts name d f (λ g c l. (l.server.setting.config ≡ c) × ServingRun t.conn t.outlet accepts g l left.status) left

-- of which devices of a serve the content is known; of others nothing is said
abbrev pub serve_tells : (config conn outlet : Type 0) → Tells
serve_tells config conn outlet = record {
  input = ⊥;
  output = ⊥;
  errors = ⊥;
  config = config;
  conn = conn;
  outlet = outlet;
  journal = ⊥;
  wire = ⊥;
  inlet = ⊥;
}

-- what a serve left, by the contract's views of a source and of kits
abbrev pub serving_left : {S J : Type 0} → (S → Feed) → (J → JobsView) → Option S → Option (Last J) → Option J → ℕ → ServingLeft LastView
serving_left feed view source last unused status = record {
  source = option_map feed source;
  last = option_map (last_view view) last;
  unused = option_map view unused;
  status = status;
}
