-- The kits were fresh, but that the clock was read once, for the start.
use Rattle.std.proofs.Common.{rules, refl, ap, inr, arith}
use Rattle.satip_plain.specs.declared.setting.Setting.{Setting}
use Rattle.satip_desk.specs.Views.{JobsView, jobs_view}
use Rattle.satip_desk.specs.declared.kits.JobKits.{JobKits}
use Rattle.satip_serve.proofs.Starting.{from_start, is_first}
use Rattle.satip_journal_serve.proofs.all_jobs.serve_journaled.Goals as goal

pub run_journaled-ran-requires-clause-ready : goal.run_journaled-ran-requires-clause-ready
run_journaled-ran-requires-clause-ready g c κs within =
    let made = c.in-Ok-make.ensures in
    record {
      of = made.of;
      knows = made.knows;
      first = is_first c.in-Ok-make.pass c.in-Ok-make.server made.pass;
      workers = search rules;
      pumps = search rules;
    }

pub run_journaled-ran-requires-clause-sinks : goal.run_journaled-ran-requires-clause-sinks
run_journaled-ran-requires-clause-sinks g c κs within =
    let all = c.ask_journals.ensures.all c.if-ask_journals.true in
    omega (arith, all, c.len-workers.ensures, c.len-pumps.ensures, c.args.jobs.workers.ok.0, c.args.jobs.pumps.ok.0)

pub returns-then-ask_journals-clause-ran : goal.returns-then-ask_journals-clause-ran
returns-then-ask_journals-clause-ran g c =
    let jobs : JobKits g.row.K-Doors.Denot g.row.K-Outlet.Denot g.row.K-Pacer.Denot g.row.K-Store.Denot g.row.K-Clock.Denot =
    record c.args.jobs { tick = record c.args.jobs.tick { clock = c.now-start.new.self } } in
    let given : JobsView = jobs_view g.K.Doors.Doors.hall g.K.Outlet.Outlet.outbox g.K.Store.MuxStore.shelf g.K.Clock.Clock.dial c.args.jobs in
    let now : JobsView = jobs_view g.K.Doors.Doors.hall g.K.Outlet.Outlet.outbox g.K.Store.MuxStore.shelf g.K.Clock.Clock.dial jobs in
    let ran = c.run_journaled-ran.ensures.ran in
    record {
      of = ran.of;
      knows = ran.knows;
      jobs = from_start _ _ _ c.now-start.result given now _ _ _ (ap (λ (s : Setting). s.start) c.in-Ok-make.ensures.setting) refl refl
          c.now-start.ensures.reads refl ran.jobs;
    }

pub returns-else-ask_journals-clause-unused : goal.returns-else-ask_journals-clause-unused
returns-else-ask_journals-clause-unused g c =
    inr (record { workers = refl; pumps = refl; moment = c.now-start.result; clock = c.now-start.ensures.reads; outbox = refl })
