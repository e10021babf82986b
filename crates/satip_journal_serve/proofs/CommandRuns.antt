-- A run of jobs with journals, by its end.
use Rattle.std.proofs.Common.{◌≡◌, ℕ, Bool, true, false, List, map, refl, sym, subst, arith}
use Rattle.satip_base.specs.Streams.{Drain}
use Rattle.satip_jobs.specs.declared.end.ServeEnd.{ServeEnd}
use Rattle.satip_jobs.specs.declared.end.ServeEnd.TheVariants as serves
use Rattle.satip_journal_serve.specs.declared.all_jobs.Written.{Written}
use Rattle.satip_journal_serve.specs.Asked.{drains_of}
use Rattle.satip_journal_serve.specs.Journaled.{Journaled}
use Rattle.satip_journal_serve.specs.Judged.{AreOneHistory}
use Rattle.satip_journal_serve.specs.Sent.{AreWhole, AreWritten, HasRisen, new_journals}
use Rattle.satip_desk.specs.Views.{JobsView, WorkerView}
use Rattle.satip_desk.specs.Journals.{journals_view}
use Rattle.satip_serve.specs.CommandRan.{EndsAtLimit, LastView, ServingRun}
use Rattle.satip_serve.specs.Servings.{end_of_run as serving_end}
use Rattle.satip_serve.specs.Ran.{AreAtLimit}
use Rattle.satip_serve.specs.Statuses.{serving_status}
use Rattle.satip_serve.proofs.StatusLemmas.{limit_told}
use Rattle.satip_journal_serve.specs.Statuses.{journal_status, end_of_run}
use Rattle.satip_journal_serve.specs.Ran.{JournalRun, journals_left, status_of_jobs}
use Rattle.satip_journal_serve.proofs.Sending.{drains_viewed, written_sent}

-- the jobs' status is that of a serve that ends as they did
pub jobs_status : (end : ServeEnd) (failed : Bool) → serving_status (serving_end end) ≡ status_of_jobs (journal_status (end_of_run end failed))
jobs_status serves.Served false = refl
jobs_status serves.Served true = refl
jobs_status serves.DoorsFault failed = refl
jobs_status serves.HistoryFull failed = refl

-- so are the doors at their limit
pub jobs_limit : (by_limit : Type 0) (end : ServeEnd) (failed : Bool) (workers : List WorkerView) → AreAtLimit by_limit end workers
    → EndsAtLimit by_limit workers (status_of_jobs (journal_status (end_of_run end failed)))
jobs_limit by_limit end failed workers limits =
    subst (λ (status : ℕ). EndsAtLimit by_limit workers status) (jobs_status end failed) (limit_told by_limit end workers limits)

-- with 0 no put failed
unfailed_told : (end : ServeEnd) (failed : Bool) → journal_status (end_of_run end failed) ≡ 0 → failed ≡ false
unfailed_told serves.Served false is = refl
unfailed_told serves.Served true is = absurd (omega (arith, is))
unfailed_told serves.DoorsFault failed is = absurd (omega (arith, is))
unfailed_told serves.HistoryFull failed is = absurd (omega (arith, is))

whole_told : (tells : Type 0) (os ns : List Drain) (texts : List (List ℕ)) (end : ServeEnd) (failed : Bool) → AreWritten tells failed os ns texts
    → journal_status (end_of_run end failed) ≡ 0 → AreWhole tells os ns texts
whole_told tells os ns texts end failed written is = subst (λ (b : Bool). AreWritten tells b os ns texts) (unfailed_told end failed is) written

risen_told : (tells : Type 0) (os ns : List Drain) (texts : List (List ℕ)) (end : ServeEnd) (failed : Bool) → AreWritten tells failed os ns texts
    → journal_status (end_of_run end failed) ≡ 6 → HasRisen os ns
risen_told tells os ns texts serves.Served false written is = absurd (omega (arith, is))
risen_told tells os ns texts serves.Served true written is = written.1
risen_told tells os ns texts serves.DoorsFault failed written is = absurd (omega (arith, is))
risen_told tells os ns texts serves.HistoryFull failed written is = absurd (omega (arith, is))

-- the jobs ran, and wrote their journals
pub journal_run : {J : Type 0} (ct ot jt : Type 0) (job : J → ℕ) (drain : J → Drain) (accepts : ℕ) (given : JobsView) (l : LastView) (written : Written J)
    (end : ServeEnd) → ServingRun ct ot accepts given l (serving_status (serving_end end))
    → Journaled jt drain l.server.setting l.pass written
    → JournalRun ct ot jt accepts given l (journals_view job drain written.sinks.items) (journal_status (end_of_run end written.failed))
journal_run ct ot jt job drain accepts given l written end run journaled =
    let ns : List Drain = drains_of (journals_view job drain written.sinks.items) in
    let failed = written.failed in
    let texts = journals_left l in
    let seen : map drain written.sinks.items ≡ ns = sym (drains_viewed job drain written.sinks.items) in
    let H : List Drain → Type 0 = λ ds. AreOneHistory jt l.server.setting l.pass.seen ds in
    let all : AreWritten jt failed (new_journals ns) ns texts =
    subst (λ (ds : List Drain). AreWritten jt failed (new_journals ds) ds texts) seen journaled.journals in
    record {
      serves = subst (λ (status : ℕ). ServingRun ct ot accepts given l status) (jobs_status end failed) run;
      sent = written_sent jt failed (new_journals ns) ns texts all;
      whole = λ is. whole_told jt (new_journals ns) ns texts end failed all is;
      judged = λ is. subst H seen (journaled.yes (unfailed_told end failed is));
      journal_fault = λ is. risen_told jt (new_journals ns) ns texts end failed all is;
    }
