-- The journals of jobs, as contracts see them.
use Rattle.std.specs.Prelude.{ℕ, List, map}
use Rattle.satip_base.specs.Streams.{Drain}

-- the journal of a job: the job, and what was sent to its sink
pub record JournalView : Type 0 where
  pub job : ℕ
  pub drain : Drain

abbrev pub journal_view : {K : Type 0} → (K → ℕ) → (K → Drain) → K → JournalView
journal_view job drain sink = record { job = job sink; drain = drain sink }

abbrev pub journals_view : {K : Type 0} → (K → ℕ) → (K → Drain) → List K → List JournalView
journals_view job drain sinks = map (journal_view job drain) sinks
