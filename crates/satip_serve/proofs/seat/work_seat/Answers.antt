use Rattle.satip_serve.proofs.Unlocking.{worker_unlocked}
use Rattle.satip_serve.proofs.seat.work_seat.Goals as goal

pub returns-clause-did : goal.returns-clause-did
returns-clause-did g c = λ memory. worker_unlocked _ _ _ _ _ _ _ _ c.unlock.ensures.unlocked (c.work-end.ensures.did memory)
