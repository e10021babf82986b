use Rattle.std.proofs.Common.{ap}
use Rattle.satip_desk.specs.Views.{jobs_view}
use Rattle.satip_serve.specs.CommandRan.{last_view}
use Rattle.satip_serve.specs.Statuses.{serving_status}
use Rattle.satip_serve.proofs.EndLemmas.{unused_of, come_unused}
use Rattle.satip_serve.proofs.ServingRuns.{serving_run}
use Rattle.satip_serve.proofs.StatusLemmas.{limit_told}
use Rattle.satip_serve.proofs.command.serve_jobs.Goals as goal

pub returns-in-Ok-clause-ran : goal.returns-in-Ok-clause-ran
returns-in-Ok-clause-ran g c =
    let laws = c.keeps_laws.ensures in
    let view = jobs_view g.K.Doors.Doors.hall g.K.Outlet.Outlet.outbox g.K.Store.MuxStore.shelf g.K.Clock.Clock.dial in
    rw (ap serving_status c.of_run.ensures.end)
    (serving_run g.K.Doors.Conn.Conn.tells g.K.Outlet.Outlet.tells c.args._accepts (view c.args.jobs) (last_view view c.in-Ok.last) c.in-Ok.end c.requires.fresh
    c.in-Ok.ensures.ran laws.payload laws.owners laws.busy laws.recordings)

pub returns-in-Ok-clause-at_limit : goal.returns-in-Ok-clause-at_limit
returns-in-Ok-clause-at_limit g c =
    rw (ap serving_status c.of_run.ensures.end) (limit_told g.K.Doors.Doors.by_limit c.in-Ok.end _ c.in-Ok.ensures.at_limit)

pub returns-in-Err-clause-kits_unused : goal.returns-in-Err-clause-kits_unused
returns-in-Err-clause-kits_unused g c =
    come_unused g.K.Doors.Doors.hall g.K.Outlet.Outlet.outbox g.K.Store.MuxStore.shelf g.K.Clock.Clock.dial c.args.jobs c.in-Err.jobs c.in-Err.ensures.unused

pub returns-in-Err-clause-unused_kits : goal.returns-in-Err-clause-unused_kits
returns-in-Err-clause-unused_kits g c =
    unused_of g.K.Doors.Doors.hall g.K.Outlet.Outlet.outbox g.K.Store.MuxStore.shelf g.K.Clock.Clock.dial c.args._accepts c.args.jobs c.in-Err.jobs c.requires.fresh
    c.in-Err.ensures.unused
