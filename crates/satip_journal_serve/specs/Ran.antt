-- Jobs that served and wrote journals.
use Rattle.std.specs.Prelude.{if◌then◌else◌, ◌≡◌, ◌==◌, ℕ, List, map, length, flat_map}
use Rattle.std.specs.List.Sorted.{IsPermutation}
use Rattle.satip_turn.specs.Views.{numbers_of}
use Rattle.satip_audit.specs.declared.verdicts.Verdict.TheVariants.{Yes}
use Rattle.satip_audit.specs.Replaying.{IsJudged}
use Rattle.satip_journal_serve.specs.Asked.{drains_of}
use Rattle.satip_journal_serve.specs.Journals.{journals as journals_of}
use Rattle.satip_journal_serve.specs.Sent.{AreSent, AreWhole, HasRisen, new_journals}
use Rattle.satip_desk.specs.Views.{JobsView}
use Rattle.satip_desk.specs.Journals.{JournalView}
use Rattle.satip_serve.specs.CommandRan.{LastView, ServingRun}

-- the journals of all jobs that the jobs left, as texts: the lines of each job's entries, in order, with those of job 0 after the start line
abbrev pub journals_left : LastView → List (List ℕ)
journals_left l = journals_of l.server.setting.start 0 (numbers_of l.pass.kept) l.pass.seen

-- put together in any order, these texts are judged `yes` with the length of the history
abbrev pub AreJudgedYes : LastView → List (List ℕ) → Type 0
AreJudgedYes l texts = (shuffled : List (List ℕ)) → IsPermutation texts shuffled
    → IsJudged l.server.setting.config (flat_map (λ text. text) shuffled) (Yes (length l.pass.seen))

-- the status of a serve whose jobs ended the same way: 6, with which a journal failed, counts as 0
abbrev pub status_of_jobs : ℕ → ℕ
status_of_jobs status = if status == 6 then 0 else status

-- jobs ran with these kits; `l` is what they left, and `journals` are their journals, in the order of jobs
pub record JournalRun (conn_tells outlet_tells journal_tells : Type 0) (accepts : ℕ) (given : JobsView) (l : LastView) (journals : List JournalView)
    (status : ℕ) : Type 0 where
  -- as in a serve
  pub serves : ServingRun conn_tells outlet_tells accepts given l (status_of_jobs status)
  -- each journal was sent its job's lines, or a prefix of them and its fault count rose
  pub sent : AreSent journal_tells (new_journals (drains_of journals)) (drains_of journals) (journals_left l)
  -- with 0 the journals are whole, and are judged `yes` if they expose their bytes; with 6 the fault count of one of them rose
  pub whole : status ≡ 0 → AreWhole journal_tells (new_journals (drains_of journals)) (drains_of journals) (journals_left l)
  pub judged : status ≡ 0 → journal_tells → AreJudgedYes l (map (λ d. d.sent) (drains_of journals))
  pub journal_fault : status ≡ 6 → HasRisen (new_journals (drains_of journals)) (drains_of journals)
