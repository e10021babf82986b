-- The callers of jobs may go to other threads, and what their run comes to is that of the service.
use Rattle.std.proofs.Common.{rules}
use Rattle.satip_shared.proofs.Crossing.{crossing}
use Rattle.satip_serve.proofs.all_jobs.serve_all.Goals as goal

pub run_services-root-requires-send-X : goal.run_services-root-requires-send-X
run_services-root-requires-send-X g c κs within = search crossing depth 14

pub returns-in-Ok-clause-ran : goal.returns-in-Ok-clause-ran
returns-in-Ok-clause-ran g c =
    let ran = c.run_services-root.ensures in
    record { of = search rules; knows = ran.knows; jobs = ran.ran }
