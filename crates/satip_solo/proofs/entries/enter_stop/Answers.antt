use Rattle.satip_solo.proofs.LogLemmas.{stop_made}
use Rattle.satip_solo.proofs.entries.enter_stop.Goals as goal

pub returns-clause-stopped : goal.returns-clause-stopped
returns-clause-stopped c = rw c.keep.ensures.kept (stop_made _ _ _ _ _ c.stop-beat.ensures.setting c.stop-beat.ensures.steps)
