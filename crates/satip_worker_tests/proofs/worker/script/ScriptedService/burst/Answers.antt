use Rattle.std.proofs.Common.{[], rules}
use Rattle.satip_worker_tests.proofs.WorkerLemmas.{refused_burst, ended_burst}
use Rattle.satip_worker_tests.proofs.worker.script.ScriptedService.burst.Goals as goal

pub returns-then-next-clause-bursts : goal.returns-then-next-clause-bursts
returns-then-next-clause-bursts g c =
    refused_burst _ _ _ c.next.new.event _ (c.next.ensures.taken _ [] (g.met.L.Lot.none_taken _)) (search rules)

pub returns-clause-bursts : goal.returns-clause-bursts
returns-clause-bursts g c =
    ended_burst _ _ _ _ _ (c.next.ensures.taken _ [] (g.met.L.Lot.none_taken _)) (search rules) (search rules)
