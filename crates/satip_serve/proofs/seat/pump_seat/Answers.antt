use Rattle.satip_serve.proofs.Unlocking.{pump_unlocked}
use Rattle.satip_serve.proofs.seat.pump_seat.Goals as goal

pub returns-clause-did : goal.returns-clause-did
returns-clause-did g c = λ memory. pump_unlocked _ _ _ _ _ _ c.unlock.ensures.unlocked (c.pump-end.ensures.did memory)
