use Rattle.satip_pump.proofs.WorkLemmas.{makes_locked}
use Rattle.satip_pump.proofs.events.make_event.Goals as goal

pub returns-clause-makes : goal.returns-clause-makes
returns-clause-makes g c =
    makes_locked _ _ _ _ _ _ _ _ _ _ c.requires.free c.lock.ensures.locked c.unlock.ensures.unlocked c.call_and_post-made.ensures.makes
