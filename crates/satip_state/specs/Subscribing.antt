-- A session that starts to get packets.
use Rattle.std.specs.Prelude.{ℕ, [], if◌then◌else◌}
use Rattle.satip_table.specs.declared.session.Session.{Session as Row}
use Rattle.satip_table.specs.declared.stream.Stream.{Stream as StreamRow}
use Rattle.satip_rtp.specs.Packing.{packing}
use Rattle.satip_flow.specs.Subscription.{Subscription, Feed, ToAddress, ToQueue}

-- an empty queue, or a new packer with the session's address
unfoldable pub new_feed : Row → Feed
new_feed s = if s.http then ToQueue [] else ToAddress (record { ip = s.peer.ip; port = s.ports.rtp }) (packing s.ssrc s.first)

-- the subscription of the session of a slot
unfoldable pub subscription_of : ℕ → Row → StreamRow → Subscription
subscription_of slot s t = record {
  place = record { slot = slot; stream = t.number; count = s.id.count };
  front = t.front;
  pids = t.pids;
  feed = new_feed s;
}
