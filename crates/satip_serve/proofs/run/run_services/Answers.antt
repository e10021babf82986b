-- The jobs work over the service, and what they did is a serve run.
use Rattle.std.proofs.Common.{◌∙◌}
use denote.Param.Send.{sendable}
use Rattle.satip_desk.specs.declared.kits.PumpKit.{PumpKit}
use Rattle.satip_desk.specs.declared.kits.WorkerKit.{WorkerKit}
use Rattle.satip_jobs.proofs.Beside.{worked_as}
use Rattle.satip_jobs.proofs.Following.{pumps_keep, run_as, workers_keep}
use Rattle.satip_jobs.proofs.WholeRuns.{made_is, number_is}
use Rattle.satip_serve.specs.Deeds.{WorkerDid, PumpDid, TickerDid}
use Rattle.satip_serve.specs.Services.{SeatDid}
use Rattle.satip_desk.specs.Views.{worker_view, pump_view, tick_view}
use Rattle.satip_serve.proofs.Ended.{at_limits, end_tells}
use Rattle.satip_serve.proofs.LeftKits.{come_back}
use Rattle.satip_serve.proofs.WholeRuns.{seat_same, serve_run}
use Rattle.satip_serve.proofs.run.run_services.Goals as goal

pub run_jobs-requires-clause-work : goal.run_jobs-requires-clause-work
run_jobs-requires-clause-work g c κs within = record {
  takes = let memory = c.requires.serves.never_wants in λ argument. search sendable depth 14;
  same = λ before after call. seat_same g.X.Service.known g.X.Service.may_want g.X.Service.same g.X.Crew.cell g.X.Crew.pass g.X.Crew.gear g.X.Crew.legal
      g.X.Crew.is_stop g.X.Crew.goes_on
      c.requires.serves (worker_view {P = g.row.P.Denot} g.D.Doors.hall g.O.Outlet.outbox)
      (WorkerDid g.D.Conn.Conn.tells g.O.Outlet.tells g.D.Doors.by_limit) before.now after.now call;
}

pub run_jobs-requires-clause-pump : goal.run_jobs-requires-clause-pump
run_jobs-requires-clause-pump g c κs within = record {
  takes = let memory = c.requires.serves.never_wants in λ argument. search sendable depth 14;
  same = λ before after call. seat_same g.X.Service.known g.X.Service.may_want g.X.Service.same g.X.Crew.cell g.X.Crew.pass g.X.Crew.gear g.X.Crew.legal
      g.X.Crew.is_stop g.X.Crew.goes_on
      c.requires.serves (pump_view {P = g.row.P.Denot} g.M.MuxStore.shelf g.O.Outlet.outbox) (PumpDid g.O.Outlet.tells) before.now after.now call;
}

pub run_jobs-requires-clause-tick : goal.run_jobs-requires-clause-tick
run_jobs-requires-clause-tick g c κs within = record {
  takes = let memory = c.requires.serves.never_wants in λ argument. search sendable depth 14;
  same = λ before after call. seat_same g.X.Service.known g.X.Service.may_want g.X.Service.same g.X.Crew.cell g.X.Crew.pass g.X.Crew.gear g.X.Crew.legal
      g.X.Crew.is_stop g.X.Crew.goes_on
      c.requires.serves (tick_view {P = g.row.P.Denot} g.C.Clock.dial g.O.Outlet.outbox) (λ _. TickerDid g.O.Outlet.tells) before.now after.now call;
}

pub returns-clause-did : goal.returns-clause-did
returns-clause-did g c =
    let worker_of = worker_view {P = g.row.P.Denot} g.D.Doors.hall g.O.Outlet.outbox in
    let pump_of = pump_view {P = g.row.P.Denot} g.M.MuxStore.shelf g.O.Outlet.outbox in
    let tick_of = tick_view {P = g.row.P.Denot} g.C.Clock.dial g.O.Outlet.outbox in
    run_as g.X.Crew.cell g.X.Crew.pass g.X.Crew.gear g.X.Crew.legal g.X.Crew.is_stop g.X.Crew.goes_on _ _ _ c.args.root c.args.posts c.run_jobs.result.0
    c.run_jobs.result.1
    c.run_jobs.result.2 c.run_jobs.ensures.did
    (SeatDid g.X.Service.same g.X.Service.known worker_of (WorkerDid g.D.Conn.Conn.tells g.O.Outlet.tells g.D.Doors.by_limit))
    (SeatDid g.X.Service.same g.X.Service.known pump_of (PumpDid g.O.Outlet.tells))
    (SeatDid g.X.Service.same g.X.Service.known tick_of (λ _. TickerDid g.O.Outlet.tells))
    (λ x y work. worked_as _ _ (SeatDid g.X.Service.same g.X.Service.known worker_of
    (WorkerDid g.D.Conn.Conn.tells g.O.Outlet.tells g.D.Doors.by_limit)) (λ a b call. call) x y work)
    (λ x y work. worked_as _ _ (SeatDid g.X.Service.same g.X.Service.known pump_of (PumpDid g.O.Outlet.tells)) (λ a b call. call) x y work)
    (λ x y work. worked_as _ _ (SeatDid g.X.Service.same g.X.Service.known tick_of (λ _. TickerDid g.O.Outlet.tells)) (λ a b call. call) x y work)

pub returns-clause-ran : goal.returns-clause-ran
returns-clause-ran g c =
    let worker_of = worker_view {P = g.row.P.Denot} g.D.Doors.hall g.O.Outlet.outbox in
    let pump_of = pump_view {P = g.row.P.Denot} g.M.MuxStore.shelf g.O.Outlet.outbox in
    let tick_of = tick_view {P = g.row.P.Denot} g.C.Clock.dial g.O.Outlet.outbox in
    let did = returns-clause-did g c in
    let root = c.run_jobs.result.0 in
    let posts = c.run_jobs.result.1 in
    record {
      number = number_is g.X.Crew.cell g.X.Crew.pass g.X.Crew.gear g.X.Crew.legal g.X.Crew.is_stop g.X.Crew.goes_on _ _ _ c.args.root c.args.posts root posts
          c.run_jobs.result.2 did ∙ c.requires.first.number;
      joined = made_is g.X.Crew.cell g.X.Crew.pass g.X.Crew.gear g.X.Crew.legal g.X.Crew.is_stop g.X.Crew.goes_on _ _ _ c.args.root c.args.posts root posts
          c.run_jobs.result.2 did
          (seat_same g.X.Service.known g.X.Service.may_want g.X.Service.same g.X.Crew.cell g.X.Crew.pass g.X.Crew.gear g.X.Crew.legal g.X.Crew.is_stop
          g.X.Crew.goes_on c.requires.serves worker_of (WorkerDid g.D.Conn.Conn.tells g.O.Outlet.tells g.D.Doors.by_limit))
          (seat_same g.X.Service.known g.X.Service.may_want g.X.Service.same g.X.Crew.cell g.X.Crew.pass g.X.Crew.gear g.X.Crew.legal g.X.Crew.is_stop
          g.X.Crew.goes_on c.requires.serves pump_of (PumpDid g.O.Outlet.tells))
          (seat_same g.X.Service.known g.X.Service.may_want g.X.Service.same g.X.Crew.cell g.X.Crew.pass g.X.Crew.gear g.X.Crew.legal g.X.Crew.is_stop
          g.X.Crew.goes_on c.requires.serves tick_of (λ _. TickerDid g.O.Outlet.tells))
          c.requires.first.kept c.requires.first.made;
      kits_left = come_back g.D.Doors.hall g.O.Outlet.outbox g.M.MuxStore.shelf c.args.posts.workers.items posts.workers.items
          c.args.posts.pumps.items posts.pumps.items (tick_of c.args.posts.ticker) (tick_of posts.ticker)
          (workers_keep g.X.Crew.cell g.X.Crew.pass g.X.Crew.gear g.X.Crew.legal g.X.Crew.is_stop g.X.Crew.goes_on _ _ _ c.args.root c.args.posts root posts
          c.run_jobs.result.2 did (λ (kit : WorkerKit g.row.D.Denot g.row.O.Denot g.row.P.Denot). kit.key) (λ x y did. did.deed.key))
          (pumps_keep g.X.Crew.cell g.X.Crew.pass g.X.Crew.gear g.X.Crew.legal g.X.Crew.is_stop g.X.Crew.goes_on _ _ _ c.args.root c.args.posts root posts
          c.run_jobs.result.2 did (λ (kit : PumpKit g.row.M.Denot g.row.O.Denot g.row.P.Denot). (g.M.MuxStore.shelf kit.store).recording)
          (λ x y did. did.deed.run.recordings));
      run = λ accepts fresh.
          serve_run g.X.Service.known g.X.Service.may_want g.X.Service.same g.X.Crew.cell g.X.Crew.pass g.X.Crew.gear g.X.Crew.legal g.X.Crew.is_stop
          g.X.Crew.goes_on
          c.requires.serves g.D.Conn.Conn.tells g.O.Outlet.tells g.D.Doors.by_limit worker_of pump_of tick_of c.args.root c.args.posts root posts
          c.run_jobs.result.2 did
          accepts c.requires.first c.run_jobs.ensures.knows fresh c.requires.worker_count c.requires.pump_count;
      ended = λ accepts fresh.
          end_tells g.X.Service.known g.X.Service.may_want g.X.Service.same g.X.Crew.cell g.X.Crew.pass g.X.Crew.gear g.X.Crew.legal g.X.Crew.is_stop
          g.X.Crew.goes_on
          c.requires.serves g.D.Conn.Conn.tells g.O.Outlet.tells g.D.Doors.by_limit worker_of pump_of tick_of c.args.root c.args.posts root posts
          c.run_jobs.result.2 did
          accepts c.run_jobs.ensures.knows fresh.workers_are;
    }

pub returns-clause-at_limit : goal.returns-clause-at_limit
returns-clause-at_limit g c =
    at_limits g.X.Service.known g.X.Service.may_want g.X.Service.same g.X.Crew.cell g.X.Crew.pass g.X.Crew.gear g.X.Crew.legal g.X.Crew.is_stop
    g.X.Crew.goes_on c.requires.serves g.D.Conn.Conn.tells g.O.Outlet.tells g.D.Doors.by_limit (worker_view {P = g.row.P.Denot} g.D.Doors.hall g.O.Outlet.outbox)
    (pump_view {P = g.row.P.Denot} g.M.MuxStore.shelf g.O.Outlet.outbox) (tick_view {P = g.row.P.Denot} g.C.Clock.dial g.O.Outlet.outbox)
    c.args.root c.args.posts c.run_jobs.result.0 c.run_jobs.result.1 c.run_jobs.result.2 (returns-clause-did g c) c.run_jobs.ensures.knows
