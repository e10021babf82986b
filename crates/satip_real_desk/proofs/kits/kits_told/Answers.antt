use Rattle.satip_real_desk.proofs.FreshKits.{kits_fresh}
use Rattle.satip_real_desk.proofs.kits.kits_told.Goals as goal

pub returns-clause-fresh : goal.returns-clause-fresh
returns-clause-fresh g c = kits_fresh _ _ _ _ c.in_ok-worker_kits.ensures.unused c.in_ok-pump_kits.ensures.unused c.in_ok-tick_kit.ensures.unused
