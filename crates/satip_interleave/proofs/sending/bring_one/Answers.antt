use Rattle.satip_interleave.proofs.sending.bring_one.Goals as goal

pub returns : goal.returns
returns c = record { brought = rw (← c.in-Some.ensures.datagram) c.put.ensures.put }
