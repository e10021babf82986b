-- The jobs work over the tunnel, and what they did is a run of it.
use Rattle.std.proofs.Common.{◌∙◌}
use Rattle.std.proofs.iter.Serving.{serving}
use Rattle.satip_desk.specs.declared.kits.PumpKit.{PumpKit}
use Rattle.satip_desk.specs.declared.kits.WorkerKit.{WorkerKit}
use Rattle.satip_desk.specs.Views.{worker_view, pump_view, tick_view}
use Rattle.satip_jobs.proofs.Beside.{worked_as}
use Rattle.satip_jobs.proofs.Following.{pumps_keep, run_as, workers_keep}
use Rattle.satip_jobs.proofs.WholeRuns.{made_is, number_is}
use Rattle.satip_serve.proofs.LeftKits.{come_back}
use Rattle.satip_tunnel_serve.specs.Deeds.{DoorsTell, SeatDid, doors_tell, worker_deed, pump_deed, ticker_deed}
use Rattle.satip_tunnel_serve.proofs.Seating.{pumped_at_seat, still_seated, ticked_at_seat}
use Rattle.satip_tunnel_serve.proofs.WholeRuns.{at_limits, end_tells, outlets_stay, tunnel_run}
use Rattle.satip_tunnel_serve.proofs.run.run_in_tunnel.Goals as goal

pub run_jobs-requires-clause-work : goal.run_jobs-requires-clause-work
run_jobs-requires-clause-work g c κs within = record {
  takes = c.requires.work.takes;
  same = λ before after call. (c.requires.work.does before after call).still;
}

pub run_jobs-requires-clause-pump : goal.run_jobs-requires-clause-pump
run_jobs-requires-clause-pump g c κs within = record {
  takes = let memory = c.requires.serves.never_wants in λ argument. grind serving steps 40000000;
  same = λ before after call. still_seated g.X.Service.known g.X.Service.may_want g.X.Service.same g.X.Crew.cell g.X.Crew.pass g.X.Crew.legal g.X.Crew.is_stop
      c.requires.serves before.now after.now call.same_is call.number;
}

pub run_jobs-requires-clause-tick : goal.run_jobs-requires-clause-tick
run_jobs-requires-clause-tick g c κs within = record {
  takes = let memory = c.requires.serves.never_wants in λ argument. grind serving steps 40000000;
  same = λ before after call. still_seated g.X.Service.known g.X.Service.may_want g.X.Service.same g.X.Crew.cell g.X.Crew.pass g.X.Crew.legal g.X.Crew.is_stop
      c.requires.serves before.now after.now call.same_is call.number;
}

pub returns-clause-ran : goal.returns-clause-ran
returns-clause-ran g c =
    let tells : DoorsTell = doors_tell g.D.Conn.Conn.tells g.D.Doors.by_limit in
    let worker_of = worker_view {P = g.row.P.Denot} g.D.Doors.hall g.O.Outlet.outbox in
    let pump_of = pump_view {P = g.row.P.Denot} g.M.MuxStore.shelf g.O.Outlet.outbox in
    let tick_of = tick_view {P = g.row.P.Denot} g.C.Clock.dial g.O.Outlet.outbox in
    let root = c.run_jobs.result.0 in
    let posts = c.run_jobs.result.1 in
    let did =
    run_as g.X.Crew.cell g.X.Crew.pass g.X.Crew.gear g.X.Crew.legal g.X.Crew.is_stop g.X.Crew.goes_on _ _ _ c.args.root c.args.posts root posts
    c.run_jobs.result.2 c.run_jobs.ensures.did
    (SeatDid g.X.Crew.cell g.X.Crew.pass (worker_deed tells worker_of))
    (SeatDid g.X.Crew.cell g.X.Crew.pass (pump_deed pump_of))
    (SeatDid g.X.Crew.cell g.X.Crew.pass (ticker_deed tick_of))
    (λ x y work. worked_as _ _ (SeatDid g.X.Crew.cell g.X.Crew.pass (worker_deed tells worker_of))
    (λ a b call. c.requires.work.does a b call) x y work)
    (λ x y work. worked_as _ _ (SeatDid g.X.Crew.cell g.X.Crew.pass (pump_deed pump_of))
    (λ a b call. pumped_at_seat g.X.Service.known g.X.Service.may_want g.X.Service.same g.X.Crew.cell g.X.Crew.pass g.X.Crew.legal g.X.Crew.is_stop
    c.requires.serves
    g.M.MuxStore.shelf g.O.Outlet.outbox a.now b.now call) x y work)
    (λ x y work. worked_as _ _ (SeatDid g.X.Crew.cell g.X.Crew.pass (ticker_deed tick_of))
    (λ a b call. ticked_at_seat g.X.Service.known g.X.Service.may_want g.X.Service.same g.X.Crew.cell g.X.Crew.pass g.X.Crew.legal g.X.Crew.is_stop
    c.requires.serves
    g.C.Clock.dial g.O.Outlet.outbox a.now b.now call) x y work) in
    record {
      number = number_is g.X.Crew.cell g.X.Crew.pass g.X.Crew.gear g.X.Crew.legal g.X.Crew.is_stop g.X.Crew.goes_on _ _ _ c.args.root c.args.posts root posts
          c.run_jobs.result.2 did ∙ c.requires.first.number;
      joined = made_is g.X.Crew.cell g.X.Crew.pass g.X.Crew.gear g.X.Crew.legal g.X.Crew.is_stop g.X.Crew.goes_on _ _ _ c.args.root c.args.posts root posts
          c.run_jobs.result.2 did (λ x y d. d.still) (λ x y d. d.still) (λ x y d. d.still) c.requires.first.kept c.requires.first.made;
      kits_left = come_back g.D.Doors.hall g.O.Outlet.outbox g.M.MuxStore.shelf c.args.posts.workers.items posts.workers.items
          c.args.posts.pumps.items posts.pumps.items (tick_of c.args.posts.ticker) (tick_of posts.ticker)
          (workers_keep g.X.Crew.cell g.X.Crew.pass g.X.Crew.gear g.X.Crew.legal g.X.Crew.is_stop g.X.Crew.goes_on _ _ _ c.args.root c.args.posts root posts
          c.run_jobs.result.2 did (λ (kit : WorkerKit g.row.D.Denot g.row.O.Denot g.row.P.Denot). kit.key) (λ x y did. did.deed.key))
          (pumps_keep g.X.Crew.cell g.X.Crew.pass g.X.Crew.gear g.X.Crew.legal g.X.Crew.is_stop g.X.Crew.goes_on _ _ _ c.args.root c.args.posts root posts
          c.run_jobs.result.2 did (λ (kit : PumpKit g.row.M.Denot g.row.O.Denot g.row.P.Denot). (g.M.MuxStore.shelf kit.store).recording)
          (λ x y did. did.deed.pumped.run.recordings));
      outlets = outlets_stay g.X.Crew.cell g.X.Crew.pass g.X.Crew.gear g.X.Crew.legal g.X.Crew.is_stop g.X.Crew.goes_on tells worker_of pump_of tick_of
          c.args.root c.args.posts root posts c.run_jobs.result.2 did;
      run = λ accepts fresh.
          tunnel_run g.X.Crew.cell g.X.Crew.pass g.X.Crew.gear g.X.Crew.legal g.X.Crew.is_stop g.X.Crew.goes_on tells worker_of pump_of tick_of
          c.args.root c.args.posts root posts c.run_jobs.result.2 did c.requires.serves.stops c.requires.serves.lawful accepts c.requires.first
          c.run_jobs.ensures.knows fresh c.requires.worker_count c.requires.pump_count;
      ended = λ accepts fresh.
          end_tells g.X.Crew.cell g.X.Crew.pass g.X.Crew.gear g.X.Crew.legal g.X.Crew.is_stop g.X.Crew.goes_on tells worker_of pump_of tick_of
          c.args.root c.args.posts root posts c.run_jobs.result.2 did accepts c.run_jobs.ensures.knows fresh.workers_are;
      at_limit =
          at_limits g.X.Crew.cell g.X.Crew.pass g.X.Crew.gear g.X.Crew.legal g.X.Crew.is_stop g.X.Crew.goes_on tells worker_of pump_of tick_of
          c.args.root c.args.posts root posts c.run_jobs.result.2 did c.run_jobs.ensures.knows;
    }
