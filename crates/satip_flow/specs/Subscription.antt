-- One subscriber of a flow, and its changes.
use Rattle.std.specs.List.{concat}
use Rattle.std.specs.Prelude.{◌*◌, take, ◌≡◌, MatchOption, option_map, ℕ, ◌==◌, ◌&&◌, nat_lt, not, Bool, true, false, List, [], ◌∷◌, ◌++◌, length, drop, Option, Some, None, if◌then◌else◌}
use Rattle.satip_base.specs.Output.{Output, Datagram, Wrote}
use Rattle.satip_base.specs.declared.network.Address.{Address}
use Rattle.satip_ts.specs.Packet.{pid_of}
use Rattle.satip_rtp.specs.Packing.{Packing, holding, after_cut, leaving}
use Rattle.satip_pids.specs.Pids.{Pids, has_pid}
use Rattle.satip_flow.specs.declared.place.Place.{Place}
use Rattle.satip_flow.specs.declared.place.SenderState.{SenderState}

-- the destination of its packets: datagrams to an address, or a queue
pub data Feed : Type 0 where
  ToAddress : Address → Packing → Feed
  ToQueue : List (List ℕ) → Feed

-- a session's place in the order, the front end and the PIDs of its stream, and the destination of its packets
pub record Subscription : Type 0 where
  pub place : Place
  pub front : Option ℕ
  pub pids : Pids
  pub feed : Feed

-- the subscriber with these fields
abbrev pub subscription : Place → Option ℕ → Pids → Feed → Subscription
subscription place front pids feed = record { place = place; front = front; pids = pids; feed = feed }

-- whether it has this slot
abbrev pub has_slot : ℕ → Subscription → Bool
has_slot slot s = s.place.slot == slot

-- whether it is of this stream
abbrev pub is_of : ℕ → Subscription → Bool
is_of stream s = s.place.stream == stream

-- whether a front end, if there is one, is this
abbrev pub is_at : ℕ → Option ℕ → Bool
is_at front None = false
is_at front (Some f) = f == front

-- whether it selects a packet of a front end
abbrev pub selects : ℕ → List ℕ → Subscription → Bool
selects front packet s = is_at front s.front && has_pid s.pids (pid_of packet)

-- whether a queue is full: it has room for 4096 packets
abbrev pub is_full : Feed → Bool
is_full (ToAddress to p) = false
is_full (ToQueue packets) = not (nat_lt (length packets) 4096)

-- the queue after a packet, which is appended unless the queue is full
abbrev pub queued : List (List ℕ) → List ℕ → List (List ℕ)
queued packets packet = if nat_lt (length packets) 4096 then packets ++ packet ∷ [] else packets

-- the packer or the queue after a packet
abbrev pub fed : List ℕ → Feed → Feed
fed packet (ToAddress to p) = ToAddress to (after_cut false (holding p packet))
fed packet (ToQueue packets) = ToQueue (queued packets packet)

-- the datagrams that a packet results in
abbrev pub fed_datagrams : List ℕ → ℕ → Feed → List Datagram
fed_datagrams packet clock (ToAddress to p) = leaving false (holding p packet) clock to
fed_datagrams packet clock (ToQueue packets) = []

-- whether it selects packets of a front end and a PID
abbrev pub takes : ℕ → ℕ → Subscription → Bool
takes front pid s = is_at front s.front && has_pid s.pids pid

-- the subscriber after a packet of a front end was given to it, if it selects the packet
abbrev pub given : ℕ → List ℕ → Subscription → Subscription
given front packet s = if selects front packet s then record s { feed = fed packet s.feed } else s

-- the datagrams that this results in
abbrev pub given_datagrams : ℕ → List ℕ → ℕ → Subscription → List Datagram
given_datagrams front packet clock s = if selects front packet s then fed_datagrams packet clock s.feed else []

-- whether it selects the packet and its queue is full
abbrev pub overruns : ℕ → List ℕ → Subscription → Bool
overruns front packet s = selects front packet s && is_full s.feed

-- the packer or the queue after a flush
abbrev pub flushed_feed : Feed → Feed
flushed_feed (ToAddress to p) = ToAddress to (after_cut true p)
flushed_feed (ToQueue packets) = ToQueue packets

-- the subscriber after a flush
abbrev pub flushed : Subscription → Subscription
flushed s = record s { feed = flushed_feed s.feed }

-- the datagrams that a flush results in
abbrev pub flush_datagrams : ℕ → Feed → List Datagram
flush_datagrams clock (ToAddress to p) = leaving true p clock to
flush_datagrams clock (ToQueue packets) = []

-- whether a list has elements
abbrev pub is_any : {X : Type 0} → List X → Bool
is_any [] = false
is_any (x ∷ xs) = true

-- whether it is a packer that holds packets
abbrev pub holds : Feed → Bool
holds (ToAddress to p) = is_any p.held
holds (ToQueue packets) = false

-- the packer, if it is one
abbrev pub packing_of : Feed → Option Packing
packing_of (ToAddress to p) = Some p
packing_of (ToQueue packets) = None

-- the packets of the queue, if it is one
abbrev pub queue_of : Feed → Option (List (List ℕ))
queue_of (ToAddress to p) = None
queue_of (ToQueue packets) = Some packets

-- the feed with its datagrams sent to another address
abbrev pub readdressed_feed : Address → Feed → Feed
readdressed_feed new (ToAddress to p) = ToAddress new p
readdressed_feed new (ToQueue packets) = ToQueue packets

-- the subscriber with its datagrams sent to another address
abbrev pub readdressed : Address → Subscription → Subscription
readdressed to s = record s { feed = readdressed_feed to s.feed }

-- the feed after the first 64 packets of a queue were removed
abbrev pub pulled_feed : Feed → Feed
pulled_feed (ToAddress to p) = ToAddress to p
pulled_feed (ToQueue packets) = ToQueue (drop 64 packets)

-- a pull of a queue wrote its first packets, at most 64; it wrote nothing if there is no queue
abbrev pub WrotePulled : Option (List (List ℕ)) → Output → Output → Type 0
WrotePulled queue old new =
    MatchOption queue (new ≡ old) (λ packets. Wrote old (concat (take 64 packets)) new)

-- the number of bytes that a pull writes
abbrev pub pulled_bytes : Option (List (List ℕ)) → Option ℕ
pulled_bytes queue = option_map (λ packets. 188 * length (take 64 packets)) queue

-- the sender state of a packer
abbrev pub sender_state : Option Packing → Option SenderState
sender_state packer = option_map (λ p. record { next = p.next; datagrams = p.datagrams; octets = p.octets }) packer

-- the subscriber after a pull
abbrev pub pulled : Subscription → Subscription
pulled s = record s { feed = pulled_feed s.feed }

-- the subscriber with another front end and other PIDs, if it is of this stream
abbrev pub changed : ℕ → Option ℕ → Pids → Subscription → Subscription
changed stream front pids s = if is_of stream s then record s { front = front; pids = pids } else s

-- whether it selects the packet, has this slot and its queue is full
abbrev pub meets_full : ℕ → List ℕ → ℕ → Subscription → Bool
meets_full front packet slot s = overruns front packet s && has_slot slot s
