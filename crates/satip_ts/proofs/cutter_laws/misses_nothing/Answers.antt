use Rattle.satip_ts.proofs.Runs as runs
use Rattle.satip_ts.proofs.cutter_laws.misses_nothing.Goals as goal

pub returns : goal.returns
returns c = record { complete = runs.misses_nothing }
