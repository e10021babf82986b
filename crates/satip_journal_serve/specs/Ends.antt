-- The outcome of serving with journals, by its status.
use Rattle.std.specs.Prelude.{◌≡◌, ℕ, ◌+◌, ◌≤◌, ◌⊎◌, ◌↔◌, List, [], ◌++◌, length, map, Some, None, IsSome, IsNone, IfSome, IsSomeAnd, MatchOption}
use Rattle.satip_base.specs.Streams.{Drain, Rose, fresh_drain}
use Rattle.satip_world.specs.Counts.{Rises}
use Rattle.satip_config.specs.declared.fault.ConfigFault.{ConfigFault}
use Rattle.satip_base.specs.Lists.{Each, Has}
use Rattle.satip_config.specs.Configurations.{configuration_limit, Configured, Refused}
use Rattle.satip_desk.specs.Fresh.{AreFresh}
use Rattle.satip_desk.specs.Views.{DeskView, JobsView}
use Rattle.satip_desk.specs.Journals.{JournalView}
use Rattle.satip_desk.specs.Streams.{Tells}
use Rattle.satip_desk.specs.Given.{ComeUnused}
use Rattle.satip_desk.specs.Desks.{GivenFrom}
use Rattle.satip_serve.specs.CommandEnds.{ServingLeft}
use Rattle.satip_serve.specs.CommandRan.{LastView}
use Rattle.satip_serve.specs.Servings.{IsOneOf, IsNeitherOf}
use Rattle.satip_config.specs.Lines.{Says, configuration_line}
use Rattle.satip_journal_serve.specs.Asked.{first_jobs}
use Rattle.satip_journal_serve.specs.Statuses.{journal_statuses, IsJournalSettled}
use Rattle.satip_journal_serve.specs.Ran.{JournalRun}

-- kits with which no job began are as they were given, except that the clock may have been read once
abbrev pub AreUntouched : JobsView → JobsView → Type 0
AreUntouched given left = (left ≡ given) ⊎ ComeUnused given left

-- the result of serving with journals: that of serving, and the journals that the desk gave
pub record JournalLeft : Type 0 where
  pub serving : ServingLeft LastView
  pub journals : List JournalView

abbrev pub journal_left : ServingLeft LastView → List JournalView → JournalLeft
journal_left serving journals = record { serving = serving; journals = journals }

-- serving with journals, by the configuration of this name. `Told` says how a fault of the configuration is shown, and `accepts` is the number of connections
-- after which doors end. `d` and `f` are the desk before and after. `Ran` says what jobs left that ran with the desk's kits
pub record JournalingEnds (config_tells : Type 0) (Told : ConfigFault → Type 0) (accepts : ℕ) (name : List ℕ) (d f : DeskView)
    (Ran : JobsView → LastView → Type 0) (left : JournalLeft) : Type 0 where
  pub status_is : Has left.serving.status journal_statuses
  -- if jobs ran, it was by the configuration of the desk's text, with the kits that it gave
  pub served_by : IfSome left.serving.last (λ l. IsSomeAnd left.serving.source (λ s. GivenFrom config_tells (d.text name)
      (λ a. Configured config_tells a s l.server.setting.config)))
  pub ran : IfSome left.serving.last (λ l. IsSomeAnd f.given (λ g. Ran g l))
  -- if the desk gave no configuration its fault count rose; if it gave one the count is unchanged, or the status is 6 or 7 and no job began
  pub config : MatchOption left.serving.source (Rises d.faults f.faults)
      (λ _. (f.faults ≡ d.faults) ⊎ (((left.serving.status ≡ 6) ⊎ (left.serving.status ≡ 7)) × IsNone left.serving.last))
  -- at most one byte more than its limit is taken of it, and with any other status than 5 there is one and it never failed
  pub config_limit : IfSome left.serving.source (λ s. s.taken ≤ configuration_limit + 1)
  pub read : (left.serving.status ≡ 5 → ⊥) → IsSomeAnd left.serving.source (λ s. s.faults ≡ 0)
  -- if the desk gave kits there is either what the jobs left or the unused kits, and else neither; the given kits are fresh, and unused ones are untouched
  pub kits : MatchOption f.given (IsNeitherOf left.serving.last left.serving.unused) (λ _. IsOneOf left.serving.last left.serving.unused)
  pub fresh : IfSome f.given (AreFresh accepts)
  pub kits_unused : IfSome left.serving.unused (λ k. IsSomeAnd f.given (λ g. AreUntouched g k))
  -- the desk was asked for the journals of the first jobs, from job 0 on, and the journals are theirs, in this order
  pub asked_for : f.journaled ≡ d.journaled ++ first_jobs (length left.journals)
  pub of_jobs : map (λ (j : JournalView). j.job) left.journals ≡ first_jobs (length left.journals)
  -- without kits or out of memory it was asked for none
  pub none_asked : (f.given ≡ None) ⊎ (left.serving.status ≡ 70) → left.journals ≡ []
  -- if no job began nothing was sent to them
  pub empty : IsNone left.serving.last → Each (λ j. j.drain ≡ fresh_drain) left.journals
  -- the causes of the statuses
  pub unused_status : IfSome left.serving.unused (λ _. (left.serving.status ≡ 6) ⊎ (left.serving.status ≡ 70))
  pub served : (left.serving.status ≡ 0) ⊎ (left.serving.status ≡ 9) → IsSome left.serving.last
  pub configuration : left.serving.status ≡ 3 → (fault : ConfigFault) × Told fault
      × IsSomeAnd left.serving.source (λ s. GivenFrom config_tells (d.text name) (λ a. Refused config_tells a s fault))
  pub input : (left.serving.status ≡ 5) ↔ MatchOption left.serving.source (Rises d.faults f.faults) (λ s. Rose 0 s.faults)
  pub journal_fault : left.serving.status ≡ 6 → IsNone left.serving.last → IsSome left.serving.unused × Rises d.faults f.faults
  pub doors_fault : left.serving.status ≡ 7 → IsNone left.serving.last → (f.given ≡ None) × Rises d.faults f.faults
  pub settled : (told : List ℕ) → d.text name ≡ Some told
      → IfSome left.serving.source (λ s. (Rose 0 s.faults → ⊥) → IsJournalSettled told left.serving.status)

-- the outcome of `journal`: jobs wrote their journals, and a fault of the configuration is a line on the errors sink. `e` and `m` are that sink before and after
abbrev pub JournalEnds : (t : Tells) → ℕ → List ℕ → (d f : DeskView) → (e m : Drain) → JournalLeft → Type 0
JournalEnds t accepts name d f e m left =
    JournalingEnds t.config (λ fault. Says t.errors e m (configuration_line fault)) accepts name d f
    (λ g l. JournalRun t.conn t.outlet t.journal accepts g l left.journals left.serving.status) left

-- of which devices of `journal` the content is known; of others nothing is said
abbrev pub journal_tells : (config conn outlet journal errors : Type 0) → Tells
journal_tells config conn outlet journal errors = record {
  input = ⊥;
  output = ⊥;
  errors = errors;
  config = config;
  conn = conn;
  outlet = outlet;
  journal = journal;
  wire = ⊥;
  inlet = ⊥;
}
