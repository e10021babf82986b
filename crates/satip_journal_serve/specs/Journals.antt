-- The journals of all jobs of a run.
use Rattle.std.specs.Prelude.{ℕ, ◌+◌, ◌≤◌, ◌<◌, ◌^◌, List, [], ◌∷◌, ◌++◌, length}
use Rattle.satip_base.specs.Lists.{Each, Has}
use Rattle.satip_plain.specs.Histories.{Item}
use Rattle.satip_entry_writer.specs.Lines.{start_line}
use Rattle.satip_turn.specs.Faithful.{AreApart}
use Rattle.satip_journal.specs.Places.{own_at, lines_of}

-- the lines of a job's entries, which are those of its caller
abbrev pub journal_of : (job caller : ℕ) → List Item → List ℕ
journal_of job caller h = lines_of job (own_at 0 caller h)

-- a journal for each of these callers; their jobs are numbered from this one on
abbrev pub journals_from : ℕ → List ℕ → List Item → List (List ℕ)
journals_from job [] h = []
journals_from job (caller ∷ callers) h = journal_of job caller h ∷ journals_from (job + 1) callers h

-- the journals of jobs from 0 on; that of job 0 begins with the start line
abbrev pub journals : (start first : ℕ) (others : List ℕ) → List Item → List (List ℕ)
journals start first others h = (start_line start ++ journal_of 0 first h) ∷ journals_from 1 others h

-- each entry of a history is of one of these callers, whose numbers differ, and numbers and places fit their types
pub record AreCallersOf (callers : List ℕ) (h : List Item) : Type 0 where
  pub apart : AreApart callers
  pub all : Each (λ e. Has e.caller callers) h
  pub few : length callers ≤ 2 ^ 64
  pub short : length h < 2 ^ 64
