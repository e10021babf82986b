-- The content of a run's journals.
use Rattle.std.specs.Prelude.{◌≡◌, false, ◌∷◌, map}
use Rattle.satip_base.specs.Streams.{Drain}
use Rattle.satip_base.specs.Lists.{Each}
use Rattle.satip_plain.specs.declared.setting.Setting.{Setting}
use Rattle.satip_turn.specs.Views.{numbers_of}
use Rattle.satip_shared.specs.Calling.{ServerPass}
use Rattle.satip_journal_serve.specs.Journals.{AreCallersOf, journals as journals_of}
use Rattle.satip_entry_writer.specs.Entries.{IsTyped}
use Rattle.satip_journal_serve.specs.declared.all_jobs.Written.{Written}
use Rattle.satip_journal_serve.specs.Judged.{AreOneHistory}
use Rattle.satip_journal_serve.specs.Sent.{AreWritten, new_journals}

-- the jobs ran in this setting, and wrote their journals on new sinks
pub record Journaled {K : Type 0} (tells : Type 0) (drain : K → Drain) (c : Setting) (pass : ServerPass) (written : Written K) : Type 0 where
  -- each sink was sent the lines of its job's entries, job 0's after the start line. If no put failed it was sent all of them; else at least a prefix, and one
  -- fault count rose
  pub journals : AreWritten tells written.failed (new_journals (map drain written.sinks.items)) (map drain written.sinks.items)
      (journals_of c.start 0 (numbers_of pass.kept) pass.seen)
  -- these callers submitted all entries, whose values are of their types; so whole journals, put together in any order, are judged `yes`
  pub callers : AreCallersOf (0 ∷ numbers_of pass.kept) pass.seen
  pub typed : Each IsTyped pass.seen
  pub yes : written.failed ≡ false → AreOneHistory tells c pass.seen (map drain written.sinks.items)
