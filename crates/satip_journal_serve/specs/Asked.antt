-- The jobs that get journals.
use Rattle.std.specs.Prelude.{ℕ, zero, suc, List, [], ◌∷◌, ◌++◌, map}
use Rattle.satip_base.specs.Streams.{Drain}
use Rattle.satip_desk.specs.Journals.{JournalView}

-- the first n jobs, from job 0 on
abbrev pub first_jobs : ℕ → List ℕ
first_jobs zero = []
first_jobs (suc n) = first_jobs n ++ n ∷ []

-- the drains of journals
abbrev pub drains_of : List JournalView → List Drain
drains_of journals = map (λ (j : JournalView). j.drain) journals
