-- The journals of jobs.
use Rattle.std.specs.Prelude.{◌≡◌, ℕ, ◌+◌, ◌||◌, Bool, false, List, [], ◌∷◌, ◌++◌, map}
use Rattle.satip_base.specs.Streams.{Drain}
use Rattle.satip_entry_writer.specs.Lines.{start_line}
use Rattle.satip_plain.specs.Histories.{Item}
use Rattle.satip_journal_serve.specs.Journals.{journals}
use Rattle.satip_journal.specs.Logs.{Logs}
use Rattle.satip_journal.specs.declared.crew.JournalGear.{JournalGear}
use Rattle.satip_journal_serve.specs.declared.gears.Gears.{Gears}

-- jobs are numbered from this number on, and no put failed
abbrev pub AreOpen : {K : Type 0} → ℕ → List (JournalGear K) → Type 0
AreOpen number [] = Unit {0}
AreOpen number (g ∷ gs) = (g.number ≡ number) × (g.failed ≡ false) × AreOpen (number + 1) gs

-- a put on one of them failed
abbrev pub has_failed : {K : Type 0} → List (JournalGear K) → Bool
has_failed [] = false
has_failed (g ∷ gs) = g.failed || has_failed gs

-- the sinks of journals
abbrev pub sinks_of : {K : Type 0} → List (JournalGear K) → List K
sinks_of gs = map (λ g. g.sink) gs

-- the jobs of these sinks
abbrev pub jobs_of : {K : Type 0} → (K → ℕ) → List (JournalGear K) → List ℕ
jobs_of job gs = map (λ g. job g.sink) gs

-- those of workers, pumps and the ticker, in the order of jobs
abbrev pub others_of : {K : Type 0} → Gears K → List (JournalGear K)
others_of gears = gears.workers.items ++ (gears.pumps.items ++ gears.ticker ∷ [])

-- the journals have these sinks, in order, and the first one's was sent the start line
pub record HasBegun {K : Type 0} (tells : Type 0) (job : K → ℕ) (drain : K → Drain) (start : ℕ) (sinks : List K) (root : JournalGear K)
    (others : List (JournalGear K)) : Type 0 where
  pub bare : K
  pub sinks_are : sinks ≡ bare ∷ sinks_of others
  pub number : root.number ≡ 0
  pub same_job : job root.sink ≡ job bare
  pub started : Logs tells (drain bare) (drain root.sink) false root.failed (start_line start)
  pub are_open : AreOpen 1 others

-- each sink was sent its text until a put failed
abbrev pub AreLogged : {K : Type 0} → (tells : Type 0) → (K → Drain) → List Drain → List (JournalGear K) → List (List ℕ) → Type 0
AreLogged tells drain [] [] [] = Unit {0}
AreLogged tells drain [] [] (t ∷ ts) = ⊥
AreLogged tells drain [] (g ∷ gs) ts = ⊥
AreLogged tells drain (o ∷ os) [] ts = ⊥
AreLogged tells drain (o ∷ os) (g ∷ gs) [] = ⊥
AreLogged tells drain (o ∷ os) (g ∷ gs) (t ∷ ts) = Logs tells o (drain g.sink) false g.failed t × AreLogged tells drain os gs ts

-- from journals that have begun to those that have ended: each sink has its job's journal, until a put failed
abbrev pub WentOn : {K : Type 0} → (tells : Type 0) → (K → Drain) → JournalGear K → List (JournalGear K) → JournalGear K → List (JournalGear K) → List ℕ → List Item → Type 0
WentOn tells drain o os n ns callers h = (start : ℕ) (bare : Drain) → AreOpen 1 os → o.number ≡ 0
    → Logs tells bare (drain o.sink) false o.failed (start_line start)
    → AreLogged tells drain (bare ∷ map (λ g. drain g.sink) os) (n ∷ ns) (journals start 0 callers h)
