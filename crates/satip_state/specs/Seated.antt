-- The plain server's sessions with their slots, as the parts keep them.
use Rattle.std.specs.Prelude.{ℕ, ◌+◌, ◌*◌, ◌%◌, ◌==◌, Bool, if◌then◌else◌, List, filter, filter_map, flat_map, find, length, sum, Option, Some, None}
use Rattle.std.specs.Option.{option_map}
use Rattle.satip_base.specs.declared.network.Address.{Address}
use Rattle.satip_table.specs.declared.session.Seat.{Seat}
use Rattle.satip_table.specs.declared.session.Session.{Session as Row}
use Rattle.satip_rtp.specs.Packing.{Packing}
use Rattle.satip_flow.specs.Subscription.{Subscription, Feed, ToAddress, ToQueue}
use Rattle.satip_plain.specs.State.{Session, Stream, held}

-- a session with its slot
pub record Seated : Type 0 where
  pub slot : ℕ
  pub session : Session

abbrev pub is_seat : ℕ → Seated → Bool
is_seat slot x = x.slot == slot

-- the row of a session in the table: all but its packets
unfoldable pub row_of : Session → Row
row_of s = record {
  id = s.id;
  http = s.http;
  peer = s.peer;
  ports = s.ports;
  stream = s.stream;
  playing = s.playing;
  heard = s.heard;
  reported = s.reported;
  ssrc = s.ssrc;
  first = s.first;
}

-- the seat in the table of a session with its slot
abbrev pub seat_of : Seated → Seat
seat_of x = record { slot = x.slot; session = row_of x.session }

-- the address of a session's RTP datagrams
abbrev pub address_of : Session → Address
address_of s = record { ip = s.peer.ip; port = s.ports.rtp }

-- the state of a session's packer: the held packets, the next number, and the counts of what has left
unfoldable pub packing_of : Session → Packing
packing_of s = record {
  ssrc = s.ssrc;
  held = held s;
  next = (s.first + length s.sizes) % 65536;
  datagrams = length s.sizes % 4294967296;
  octets = 188 * sum s.sizes % 4294967296;
}

-- the feed of a session's packets: the queue of an HTTP session, else a packer with the session's address
unfoldable pub feed_of : Session → Feed
feed_of s = if s.http then ToQueue (held s) else ToAddress (address_of s) (packing_of s)

-- a playing session of the stream is a subscriber, with the stream's front end and PIDs
unfoldable pub subscriber : Stream → Seated → Option Subscription
subscriber t x =
    if x.session.playing
    then Some (record {
      place = record { slot = x.slot; stream = t.number; count = x.session.id.count };
      front = t.front;
      pids = t.pids;
      feed = feed_of x.session;
    })
    else None

-- the sessions of a stream, the owner first
abbrev pub seated_in : Stream → List Seated → List Seated
seated_in t seated = filter (λ x. x.session.stream == t.number) seated

-- all subscribers, by streams in rising number, the owner of each stream first
unfoldable pub subscribers : List Seated → List Stream → List Subscription
subscribers seated streams = flat_map (λ t. filter_map (subscriber t) (seated_in t seated)) streams

-- the moment at which a session without further activity ends, in milliseconds
abbrev pub end_of : ℕ → Seated → ℕ
end_of timeout x = x.session.heard + timeout * 1000

-- the moment at which the session of a slot ends
abbrev pub due_of : ℕ → List Seated → ℕ → Option ℕ
due_of timeout seated slot = option_map (end_of timeout) (find (is_seat slot) seated)
