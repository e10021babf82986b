use Rattle.satip_replay.proofs.EndLemmas.{replay_runs}
use Rattle.satip_replay.proofs.command.ReplayCommandBatch.run.Goals as goal

pub returns-clause-runs : goal.returns-clause-runs
returns-clause-runs g c = replay_runs _ _ _ _ _ _ c.replay.ensures.ends
