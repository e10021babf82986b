-- The tunnel is shared, and a pass goes to the other thread and comes back.
use Rattle.satip_interleave.proofs.Crossing.{crossing}
use Rattle.satip_tunnel_tests.proofs.callers.threads.tick_by_two.Goals as goal

pub join-one-requires-send-F : goal.join-one-requires-send-F
join-one-requires-send-F g c κs within = search crossing depth 12

pub join-one-requires-send-A : goal.join-one-requires-send-A
join-one-requires-send-A g c κs within = search crossing depth 12
