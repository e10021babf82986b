-- The callers that worked may be joined, and there are as many as there were kits.
use Rattle.std.proofs.Common.{arith}
use Rattle.satip_jobs.proofs.Beside.{alone_after, both_length, same_seat}
use Rattle.satip_jobs.proofs.run.run_front.Goals as goal

pub join_all-worst-requires-clause-alone : goal.join_all-worst-requires-clause-alone
join_all-worst-requires-clause-alone g c κs within =
    let x = g.X.Crew in
    let front = c.args.front.now in
    alone_after x.cell x.pass (x.cell front.root) _ (same_seat x.cell x.pass g.F.Fn c.args.work.now c.requires.work) front.workers.items _
    c.run_seats.ensures.worked c.requires.ready.new

pub join_all-worst-requires-clause-kit_space : goal.join_all-worst-requires-clause-kit_space
join_all-worst-requires-clause-kit_space g c κs within =
    let before = c.args.front.now.workers in
    let after = c.run_seats.new.seats in
    let same = both_length _ before.items after.items c.run_seats.ensures.worked in
    omega (arith, same, before.ok.0, after.ok.0, c.requires.ready.kit_space)

pub join_all-worst-requires-clause-gear_space : goal.join_all-worst-requires-clause-gear_space
join_all-worst-requires-clause-gear_space g c κs within =
    let before = c.args.front.now.workers in
    let after = c.run_seats.new.seats in
    let same = both_length _ before.items after.items c.run_seats.ensures.worked in
    omega (arith, same, before.ok.0, after.ok.0, c.requires.ready.gear_space)
