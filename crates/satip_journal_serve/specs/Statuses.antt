-- The ends of serving with journals, and its statuses.
use Rattle.std.specs.Prelude.{◌≡◌, ℕ, Bool, true, false, List, [], ◌∷◌, Option, None, Err}
use Rattle.satip_world.specs.Counts.{Rises}
use Rattle.satip_config.specs.Config.{config}
use Rattle.satip_config.specs.declared.reading.ConfigurationEnd.{ConfigurationEnd}
use Rattle.satip_config.specs.declared.reading.ConfigurationEnd.TheVariants as reading
use Rattle.satip_config.specs.Configurations.{IsConfiguration}
use Rattle.satip_jobs.specs.declared.end.ServeEnd.{ServeEnd}
use Rattle.satip_jobs.specs.declared.end.ServeEnd.TheVariants as serves
use Rattle.satip_config.specs.Outcomes.{status_of}
use Rattle.satip_config.specs.declared.outcome.Outcome.{Outcome}
use Rattle.satip_config.specs.declared.outcome.Outcome.TheVariants as outcomes
use Rattle.satip_journal_serve.specs.declared.ends.JournalEnd.{JournalEnd}
use Rattle.satip_journal_serve.specs.declared.ends.JournalEnd.TheVariants.{Served, Configuration, InputFault, JournalFault, DoorsFault, HistoryFull, OutOfMemory}

-- the statuses of serving with journals
abbrev pub journal_statuses : List ℕ
journal_statuses = 0 ∷ 3 ∷ 5 ∷ 6 ∷ 7 ∷ 9 ∷ 70 ∷ []

-- the outcome of a command that ends so; a journal's fault is one of the output
abbrev pub outcome_of : JournalEnd → Outcome
outcome_of Served = outcomes.Done
outcome_of (Configuration fault) = outcomes.Configuration fault
outcome_of InputFault = outcomes.InputFault
outcome_of JournalFault = outcomes.OutputFault
outcome_of DoorsFault = outcomes.DoorsFault
outcome_of HistoryFull = outcomes.HistoryFull
outcome_of OutOfMemory = outcomes.OutOfMemory

-- the status of an end
abbrev pub journal_status : JournalEnd → ℕ
journal_status end = status_of (outcome_of end)

-- the end if the configuration isn't read
abbrev pub end_of_reading : ConfigurationEnd → JournalEnd
end_of_reading (reading.Fault fault) = Configuration fault
end_of_reading reading.SourceFailed = InputFault
end_of_reading reading.OutOfMemory = OutOfMemory

-- the end of a run whose jobs ended so; the bool says whether a put on a journal failed
abbrev pub end_of_run : ServeEnd → Bool → JournalEnd
end_of_run serves.Served false = Served
end_of_run serves.Served true = JournalFault
end_of_run serves.DoorsFault failed = DoorsFault
end_of_run serves.HistoryFull failed = HistoryFull

-- the jobs ran
abbrev pub IsEndOfRun : JournalEnd → Type 0
IsEndOfRun Served = Unit {0}
IsEndOfRun (Configuration fault) = ⊥
IsEndOfRun InputFault = ⊥
IsEndOfRun JournalFault = Unit {0}
IsEndOfRun DoorsFault = Unit {0}
IsEndOfRun HistoryFull = Unit {0}
IsEndOfRun OutOfMemory = ⊥

-- the desk gave kits, but no job began: it failed to give a journal, or the end is out of memory
abbrev pub IsUnusedEnd : (before now : ℕ) → JournalEnd → Type 0
IsUnusedEnd before now Served = ⊥
IsUnusedEnd before now (Configuration fault) = ⊥
IsUnusedEnd before now InputFault = ⊥
IsUnusedEnd before now JournalFault = Rises before now
IsUnusedEnd before now DoorsFault = ⊥
IsUnusedEnd before now HistoryFull = ⊥
IsUnusedEnd before now OutOfMemory = now ≡ before

-- there were no kits: no configuration is read, the desk failed to give kits, or the end is out of memory
abbrev pub IsUnready : {V : Type 0} → (before now : ℕ) → Option V → JournalEnd → Type 0
IsUnready before now given Served = ⊥
IsUnready before now given (Configuration fault) = now ≡ before
IsUnready before now given InputFault = now ≡ before
IsUnready before now given JournalFault = ⊥
IsUnready before now given DoorsFault = (given ≡ None) × Rises before now
IsUnready before now given HistoryFull = ⊥
IsUnready before now given OutOfMemory = now ≡ before

-- the ends that the text of the configuration allows, if its source doesn't fail
abbrev pub IsJournalOf : List ℕ → JournalEnd → Type 0
IsJournalOf text Served = IsConfiguration text
IsJournalOf text (Configuration fault) = config text ≡ Err fault
IsJournalOf text InputFault = ⊥
IsJournalOf text JournalFault = IsConfiguration text
IsJournalOf text DoorsFault = IsConfiguration text
IsJournalOf text HistoryFull = IsConfiguration text
IsJournalOf text OutOfMemory = Unit {0}

-- the status is that of an end which the text of the configuration allows
pub record IsJournalSettled (text : List ℕ) (status : ℕ) : Type 0 where
  pub ending : JournalEnd
  pub told : status ≡ journal_status ending
  pub ends : IsJournalOf text ending
