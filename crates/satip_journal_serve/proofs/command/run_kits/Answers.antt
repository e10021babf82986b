use Rattle.std.proofs.Common.{ap}
use Rattle.satip_desk.specs.Views.{jobs_view}
use Rattle.satip_serve.specs.CommandRan.{LastView, last_view}
use Rattle.satip_serve.proofs.ServingRuns.{serving_run}
use Rattle.satip_journal_serve.specs.Statuses.{journal_status}
use Rattle.satip_journal_serve.proofs.CommandRuns.{jobs_limit, journal_run}
use Rattle.satip_journal_serve.proofs.command.run_kits.Goals as goal

pub returns-in-Ok-clause-ran : goal.returns-in-Ok-clause-ran
returns-in-Ok-clause-ran g c =
    let view = jobs_view g.K.Doors.Doors.hall g.K.Outlet.Outlet.outbox g.K.Store.MuxStore.shelf g.K.Clock.Clock.dial in
    let last : LastView = last_view view c.in-Ok.last in
    let laws = c.keeps_laws.ensures in
    rw (ap journal_status c.of_run.ensures.end)
    (journal_run g.K.Doors.Conn.Conn.tells g.K.Outlet.Outlet.tells g.K.Journal.JobSink.tells g.K.Journal.JobSink.job g.K.Journal.JobSink.drain
    c.args._accepts (view c.args.jobs) last c.in-Ok.written c.in-Ok.end
    (serving_run g.K.Doors.Conn.Conn.tells g.K.Outlet.Outlet.tells c.args._accepts (view c.args.jobs) last c.in-Ok.end c.requires.fresh
    c.in-Ok.ensures.ran laws.payload laws.owners laws.busy laws.recordings) c.in-Ok.ensures.journaled)

pub returns-in-Ok-clause-at_limit : goal.returns-in-Ok-clause-at_limit
returns-in-Ok-clause-at_limit g c =
    rw (ap journal_status c.of_run.ensures.end)
    (jobs_limit g.K.Doors.Doors.by_limit c.in-Ok.end c.in-Ok.written.failed _ c.in-Ok.ensures.at_limit)
