-- The cell is shared, and a pass goes to the other thread.
use denote.Param.Send.{sendable}
use Rattle.satip_turn.proofs.Crossing.{cell_sync, pass_send}
use Rattle.satip_sharing_tests.proofs.threads.call_beside_try.Goals as goal

pub join-called-requires-send-F : goal.join-called-requires-send-F
join-called-requires-send-F g c κs within = search (sendable, cell_sync, pass_send) depth 12
