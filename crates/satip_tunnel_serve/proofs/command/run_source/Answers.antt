use Rattle.std.proofs.Common.{◌∙◌}
use Rattle.satip_desk.specs.Views.{jobs_view}
use Rattle.satip_serve.proofs.StatusLemmas.{kits_ends, pair_each}
use Rattle.satip_tunnel_serve.specs.Ends.{tunnel_last_view}
use Rattle.satip_tunnel_serve.proofs.command.run_source.Goals as goal

pub returns-in-Ok-jobs-clause-ends : goal.returns-in-Ok-jobs-clause-ends
returns-in-Ok-jobs-clause-ends g c = λ name d started untaken same.
    let view = jobs_view g.K.Doors.Doors.hall g.K.Outlet.Outlet.outbox g.K.Store.MuxStore.shelf g.K.Clock.Clock.dial in
    let ran = c.run_kits.ensures in
    kits_ends (tunnel_last_view view) view c.run_kits.result.last c.run_kits.result.unused c.run_kits.result.end _ _ c.in-Ok.config
    (view c.in-Ok-jobs.jobs)
    started untaken c.in-Ok.ensures.limit c.in-Ok.ensures.ok c.in-Ok-jobs.ensures.kits (c.in-Ok-jobs.ensures.no_fault ∙ same) ran.one
    (pair_each c.run_kits.result.last _ _ ran.config ran.ran) ran.begun ran.kits_unused ran.unused_kits
