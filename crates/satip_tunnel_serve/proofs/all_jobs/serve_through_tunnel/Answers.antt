-- The kits were fresh, but that the clock was read once, for the start.
use Rattle.std.proofs.Common.{rules, ◌≡◌, refl, ap}
use Rattle.satip_plain.specs.declared.setting.Setting.{Setting}
use Rattle.satip_turn.specs.Shown.{first_pass}
use Rattle.satip_desk.specs.Views.{JobsView, jobs_view}
use Rattle.satip_desk.specs.declared.kits.JobKits.{JobKits}
use Rattle.satip_serve.proofs.Starting.{is_first}
use Rattle.satip_tunnel_serve.proofs.Starting.{from_start}
use Rattle.satip_tunnel_serve.proofs.all_jobs.serve_through_tunnel.Goals as goal

pub serve_all-requires-clause-ready : goal.serve_all-requires-clause-ready
serve_all-requires-clause-ready g c κs within =
    let first : c.in-Ok.pass ≡ first_pass c.in-Ok.server = search rules in
    record {
      of = search rules;
      knows = search rules;
      first = is_first c.in-Ok.pass c.in-Ok.server first;
      workers = search rules;
      pumps = search rules;
    }

pub returns-in-Ok-serve_all-clause-ran : goal.returns-in-Ok-serve_all-clause-ran
returns-in-Ok-serve_all-clause-ran g c =
    let setting : c.in-Ok.server.setting ≡ record { config = c.args.config; start = c.now-start.result } = search rules in
    let jobs : JobKits g.row.K-Doors.Denot g.row.K-Outlet.Denot g.row.K-Pacer.Denot g.row.K-Store.Denot g.row.K-Clock.Denot =
    record c.args.jobs { tick = record c.args.jobs.tick { clock = c.now-start.new.self } } in
    let given : JobsView = jobs_view g.K.Doors.Doors.hall g.K.Outlet.Outlet.outbox g.K.Store.MuxStore.shelf g.K.Clock.Clock.dial c.args.jobs in
    let now : JobsView = jobs_view g.K.Doors.Doors.hall g.K.Outlet.Outlet.outbox g.K.Store.MuxStore.shelf g.K.Clock.Clock.dial jobs in
    let ran = c.in-Ok-serve_all.ensures.ran in
    record {
      of = ran.of;
      knows = ran.knows;
      jobs = from_start _ _ c.now-start.result given now _ _ _ (ap (λ (s : Setting). s.start) setting) refl refl c.now-start.ensures.reads refl ran.jobs;
    }
