use Rattle.satip_stress.proofs.counting.Counts.add_datagram_at.Goals as goal

pub returns : goal.returns
returns c = record { counted = rw (← c.in-Some.ensures.datagram) (c.add_datagram.ensures.counted c.in-Some.field-0-0) }
