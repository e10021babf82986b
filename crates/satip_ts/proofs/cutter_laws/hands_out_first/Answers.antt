use Rattle.satip_ts.proofs.Runs as runs
use Rattle.satip_ts.proofs.cutter_laws.hands_out_first.Goals as goal

pub returns : goal.returns
returns c = record { first = runs.hands_out_first }
