-- The statuses of a serve with journals.
use Rattle.std.proofs.Common.{◌≡◌, ℕ, ◌⊎◌, inl, inr, Option, Some, None, IsSomeAnd, MatchOption, sym, ◌∙◌, arith}
use Rattle.satip_base.specs.Streams.{Feed, Rose}
use Rattle.satip_world.specs.Counts.{Rises}
use Rattle.satip_journal_serve.specs.declared.ends.JournalEnd.{JournalEnd}
use Rattle.satip_journal_serve.specs.declared.ends.JournalEnd.TheVariants.{Served, Configuration, InputFault, JournalFault, DoorsFault, HistoryFull, OutOfMemory}
use Rattle.satip_journal_serve.specs.Statuses.{journal_status}
use Rattle.satip_program.specs.Journaling.{IsOfJournal}

never_usage : (end : JournalEnd) → journal_status end ≡ 2 → ⊥
never_usage Served is = omega (arith, is)
never_usage (Configuration fault) is = omega (arith, is)
never_usage InputFault is = omega (arith, is)
never_usage JournalFault is = omega (arith, is)
never_usage DoorsFault is = omega (arith, is)
never_usage HistoryFull is = omega (arith, is)
never_usage OutOfMemory is = omega (arith, is)

never_script : (end : JournalEnd) → journal_status end ≡ 4 → ⊥
never_script Served is = omega (arith, is)
never_script (Configuration fault) is = omega (arith, is)
never_script InputFault is = omega (arith, is)
never_script JournalFault is = omega (arith, is)
never_script DoorsFault is = omega (arith, is)
never_script HistoryFull is = omega (arith, is)
never_script OutOfMemory is = omega (arith, is)

never_long : (end : JournalEnd) → journal_status end ≡ 8 → ⊥
never_long Served is = omega (arith, is)
never_long (Configuration fault) is = omega (arith, is)
never_long InputFault is = omega (arith, is)
never_long JournalFault is = omega (arith, is)
never_long DoorsFault is = omega (arith, is)
never_long HistoryFull is = omega (arith, is)
never_long OutOfMemory is = omega (arith, is)

-- a status that a serve with journals never has
pub journal_apart : (end : JournalEnd) (status : ℕ) → status ≡ journal_status end → IsOfJournal status
journal_apart end status of = record {
  usage = λ is. never_usage end (sym of ∙ is);
  script = λ is. never_script end (sym of ∙ is);
  long = λ is. never_long end (sym of ∙ is);
}

-- a fault of the configuration is the desk's or its source's
pub input_of : (source : Option Feed) (before now : ℕ) → MatchOption source (Rises before now) (λ s. Rose 0 s.faults)
    → Rose before now ⊎ IsSomeAnd source (λ s. Rose 0 s.faults)
input_of None before now failed = inl failed.rose
input_of (Some s) before now failed = inr failed
