-- What was done on the halves was done on the whole.
use Rattle.std.proofs.Common.{rules}
use Rattle.satip_jobs.specs.Pairs.{Both}
use Rattle.satip_jobs.specs.Working.{Worked}
use Rattle.satip_jobs.proofs.Halves.{both_halves}
use Rattle.satip_jobs.proofs.each.+fn-run_each-join_mut+arg2+fn-run_each-join_mut+arg3+run_each.Goals as goal

pub returns : goal.returns
returns g t c =
    let halves = c.split_at_mut-front in
    let front : Both (Worked g.F.Fn c.args.work.now) halves.result.0.now c.front-1.given.0 = search rules in
    let back : Both (Worked g.F.Fn c.args.work.now) halves.result.1.now c.back-1.given.0 = search rules in
    record { worked = both_halves (Worked g.F.Fn c.args.work.now) _ _ _ _ _ halves.ensures.value front back }
