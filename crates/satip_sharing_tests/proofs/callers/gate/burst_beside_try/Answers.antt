-- The server is shared, and a pass goes to the other thread.
use Rattle.std.proofs.sync.atomic.AtomicBool.TheSendSync.{the_sync as flag_sync}
use Rattle.satip_shared.proofs.Crossing.{crossing}
use Rattle.satip_sharing_tests.proofs.callers.gate.burst_beside_try.Goals as goal

pub join-called-requires-send-F : goal.join-called-requires-send-F
join-called-requires-send-F g c κs within = search (crossing, flag_sync) depth 14
