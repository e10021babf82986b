-- The outlet of the kit isn't used.
use Rattle.std.proofs.Common.{refl}
use Rattle.satip_tunnel_serve.proofs.Unheard.{ticker_unheard}
use Rattle.satip_tunnel_serve.proofs.seat.tick_at_seat.Goals as goal

pub returns-clause-did : goal.returns-clause-did
returns-clause-did g c = λ memory. record { did = ticker_unheard _ _ _ _ _ _ _ refl (c.tick-end.ensures.did memory); outbox = refl }
