use Rattle.satip_base.proofs.Writing.{◌then_extended◌}
use Rattle.satip_solo.proofs.copies.copy_datagram.Goals as goal

pub returns : goal.returns
returns c = record { sent = rw (← c.in-Some.ensures.datagram) (c.begin.ensures.begun then_extended c.extend.ensures.extended) }
