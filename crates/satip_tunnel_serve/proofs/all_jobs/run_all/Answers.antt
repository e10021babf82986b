-- The callers of jobs may go to other threads.
use Rattle.std.proofs.Common.{rules}
use Rattle.std.proofs.iter.Serving.{serving}
use Rattle.satip_interleave.proofs.Crossing.{crossing}
use Rattle.satip_tunnel_serve.proofs.all_jobs.run_all.Goals as goal

pub run_in_tunnel-root-requires-send-X : goal.run_in_tunnel-root-requires-send-X
run_in_tunnel-root-requires-send-X g c κs within = search crossing depth 14

pub run_in_tunnel-root-requires-clause-work : goal.run_in_tunnel-root-requires-clause-work
run_in_tunnel-root-requires-clause-work g c κs within = record {
  takes = λ argument. grind serving steps 40000000;
  does = λ before after call. record {
    still = record { cell_is = call.cell_is; keeps = call.keeps; number = call.number };
    deed = call.did;
  };
}

pub returns : goal.returns
returns g c =
    let ran = c.run_in_tunnel-root.ensures in
    record { ran = record { of = search rules; knows = ran.knows; jobs = ran.ran } }
