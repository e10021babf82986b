-- Each sink came back with its job's journal.
use Rattle.std.proofs.Common.{◌≡◌, ◌∙◌, ℕ, List, length, map, sym, ap, subst, arith}
use Rattle.satip_base.specs.Streams.{Drain, fresh_drain}
use Rattle.satip_turn.specs.Views.{numbers_of}
use Rattle.satip_journal_serve.specs.Journals.{journals as journals_of}
use Rattle.satip_journal_serve.specs.Sent.{AreWritten, new_journals}
use Rattle.satip_journal_serve.specs.SinkGears.{others_of}
use Rattle.satip_journal_serve.proofs.Judging.{judged_yes}
use Rattle.satip_journal_serve.proofs.Logging.{jobs_back, journals_written}
use Rattle.satip_journal_serve.proofs.Sending.{each_map, length_map, were_new, written_sent}
use Rattle.satip_journal_serve.proofs.all_jobs.run_journaled.Goals as goal

pub end_journals-failed-requires-clause-space : goal.end_journals-failed-requires-clause-space
end_journals-failed-requires-clause-space g c =
    let ran = c.run_gears-ran.ensures in
    let gears = c.begin_journals-gears in
    let after = c.run_gears-ran.result.journals in
    omega (
      arith,
      ran.worker_gears,
      ran.pump_gears,
      gears.ensures.workers,
      gears.ensures.pumps,
      gears.ensures.capacity,
      gears.result.workers.ok.0,
      gears.result.pumps.ok.0,
      after.workers.ok.0,
      after.pumps.ok.0,
      c.args.sinks.ok.0,
      c.args.sinks.ok.1,
      c.requires.sinks,
      c.len-workers.ensures,
      c.len-pumps.ensures,
    )

pub returns-clause-jobs : goal.returns-clause-jobs
returns-clause-jobs g c =
    let before = c.begin_journals-gears.result in
    let after = c.run_gears-ran.result.journals in
    jobs_back g.S.JobSink.tells g.S.JobSink.job g.S.JobSink.drain c.args.start c.args.sinks.items _ before.root after.root (others_of before)
    (others_of after) c.begin_journals-gears.ensures.begun c.run_gears-ran.ensures.jobs c.end_journals-failed.ensures.sinks

pub returns-clause-count : goal.returns-clause-count
returns-clause-count g c =
    let before = c.begin_journals-gears.result in
    let after = c.run_gears-ran.result.journals in
    let back = c.end_journals-failed.new.sinks.items in
    let J : g.row.S.Denot → ℕ = g.S.JobSink.job in
    let jobs : map J back ≡ map J c.args.sinks.items =
    jobs_back g.S.JobSink.tells g.S.JobSink.job g.S.JobSink.drain c.args.start c.args.sinks.items back before.root after.root (others_of before)
    (others_of after) c.begin_journals-gears.ensures.begun c.run_gears-ran.ensures.jobs c.end_journals-failed.ensures.sinks in
    sym (length_map J back) ∙ ap (λ (js : List ℕ). length js) jobs ∙ length_map J c.args.sinks.items

pub returns-clause-journaled : goal.returns-clause-journaled
returns-clause-journaled g c =
    let ran = c.run_gears-ran.ensures in
    let before = c.begin_journals-gears.result in
    let after = c.run_gears-ran.result.journals in
    let pass = c.run_gears-ran.result.pass in
    let failed = c.end_journals-failed.result in
    let drain : g.row.S.Denot → Drain = g.S.JobSink.drain in
    let os : List Drain = map drain c.args.sinks.items in
    let ns : List Drain = map drain c.end_journals-failed.new.sinks.items in
    let texts : List (List ℕ) = journals_of c.args.server.now.setting.start 0 (numbers_of pass.kept) pass.seen in
    let on_sinks : AreWritten g.S.JobSink.tells failed os ns texts =
    journals_written g.S.JobSink.tells g.S.JobSink.job drain c.args.start c.args.server.now.setting.start c.args.sinks.items
    c.end_journals-failed.new.sinks.items before.root after.root (others_of before) (others_of after) (numbers_of pass.kept) pass.seen failed
    c.begin_journals-gears.ensures.begun ran.went_on c.end_journals-failed.ensures.sinks c.end_journals-failed.ensures.failed c.requires.start in
    let were : os ≡ new_journals ns =
    were_new g.S.JobSink.tells os ns texts (each_map drain (λ d. d ≡ fresh_drain) c.args.sinks.items c.requires.empty)
    (written_sent g.S.JobSink.tells failed os ns texts on_sinks) in
    let on_new : AreWritten g.S.JobSink.tells failed (new_journals ns) ns texts =
    subst (λ (ds : List Drain). AreWritten g.S.JobSink.tells failed ds ns texts) were on_sinks in
    record {
      journals = on_new;
      callers = ran.callers;
      typed = ran.typed;
      yes = λ unfailed. judged_yes g.S.JobSink.tells c.args.server.now.setting pass.seen (numbers_of pass.kept) failed ns ran.ran.knows.lawful
          ran.typed ran.callers on_new unfailed;
    }
