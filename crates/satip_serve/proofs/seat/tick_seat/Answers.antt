use Rattle.satip_serve.proofs.Unlocking.{ticker_unlocked}
use Rattle.satip_serve.proofs.seat.tick_seat.Goals as goal

pub returns-clause-did : goal.returns-clause-did
returns-clause-did g c = λ memory. ticker_unlocked _ _ _ _ _ c.unlock.ensures.unlocked (c.tick-end.ensures.did memory)
