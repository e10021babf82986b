-- The outlet of the kit isn't used.
use Rattle.std.proofs.Common.{refl}
use Rattle.satip_tunnel_serve.proofs.Unheard.{pump_unheard}
use Rattle.satip_tunnel_serve.proofs.seat.pump_at_seat.Goals as goal

pub returns-clause-did : goal.returns-clause-did
returns-clause-did g c = λ memory. record { did = pump_unheard _ _ _ _ _ _ _ _ refl (c.pump-end.ensures.did memory); outbox = refl }
