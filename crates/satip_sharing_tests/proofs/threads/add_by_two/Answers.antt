-- The cell is shared, and a pass goes to the other thread and comes back.
use denote.Param.Send.{sendable}
use Rattle.satip_turn.proofs.Crossing.{cell_sync, pass_send}
use Rattle.satip_sharing_tests.proofs.threads.add_by_two.Goals as goal

pub join-one-requires-send-F : goal.join-one-requires-send-F
join-one-requires-send-F g c κs within = search (sendable, cell_sync, pass_send) depth 12

pub join-one-requires-send-A : goal.join-one-requires-send-A
join-one-requires-send-A g c κs within = search (sendable, cell_sync, pass_send) depth 12
