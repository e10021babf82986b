use Rattle.satip_worker.proofs.ProgressLemmas.{event_locked}
use Rattle.satip_worker.proofs.turns.make.Goals as goal

pub returns-clause-makes : goal.returns-clause-makes
returns-clause-makes g c =
    event_locked _ _ _ _ _ _ _ _ _ _ _ _ c.lock.ensures.locked c.unlock.ensures.unlocked c.call_and_post-made.ensures.makes
