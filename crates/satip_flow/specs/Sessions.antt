-- A subscriber, compared with all packets that its session was ever given.
use Rattle.std.specs.Prelude.{ℕ, ◌≡◌, ◌≤◌, nat_lt, true, false, List, [], ◌∷◌, ◌++◌, length, take, drop, sum, if◌then◌else◌}
use Rattle.satip_base.specs.Output.{Datagram}
use Rattle.satip_rtp.specs.Picked.{Picked, Keeps, picking, after_parts, numbered_parts}
use Rattle.satip_flow.specs.Subscription.{Feed, ToAddress, ToQueue, fed, fed_datagrams, flushed_feed, flush_datagrams, pulled_feed}

-- it holds the packets that it was given, except those sent or pulled
abbrev pub HoldsRest : ℕ → ℕ → Picked → Feed → Type 0
HoldsRest first source s (ToAddress to p) = Keeps first source s p
HoldsRest first source s (ToQueue packets) = (packets ≡ drop (sum s.sizes) s.packets) × (sum s.sizes ≤ length s.packets)

-- all packets, and the sizes of datagrams and pulls, after a packet was given
abbrev pub picked_given : List ℕ → Feed → Picked → Picked
picked_given packet (ToAddress to p) s = after_parts false (picking s packet)
picked_given packet (ToQueue packets) s = if nat_lt (length packets) 4096 then picking s packet else s

-- the same after a flush
abbrev pub picked_flushed : Feed → Picked → Picked
picked_flushed (ToAddress to p) s = after_parts true s
picked_flushed (ToQueue packets) s = s

-- the same after a pull
abbrev pub picked_pulled : Feed → Picked → Picked
picked_pulled (ToAddress to p) s = s
picked_pulled (ToQueue packets) s = record s { sizes = s.sizes ++ length (take 64 packets) ∷ [] }

-- the datagrams of a packet that is given: the cut of all packets, or none for a queue
abbrev pub cut_given : ℕ → ℕ → Picked → List ℕ → ℕ → Feed → List Datagram
cut_given first source s packet clock (ToAddress to p) = numbered_parts false first source (picking s packet) clock to
cut_given first source s packet clock (ToQueue packets) = []

-- the datagrams of a flush: the cut of all packets, or none for a queue
abbrev pub cut_flushed : ℕ → ℕ → Picked → ℕ → Feed → List Datagram
cut_flushed first source s clock (ToAddress to p) = numbered_parts true first source s clock to
cut_flushed first source s clock (ToQueue packets) = []

-- after a packet, a flush and a pull it holds its rest, and the datagrams sent are the cut of all packets
pub record KeepsRest (first source : ℕ) (s : Picked) (feed : Feed) : Type 0 where
  pub given : (packet : List ℕ) → HoldsRest first source (picked_given packet feed s) (fed packet feed)
  pub given_sends : (packet : List ℕ) (clock : ℕ) → fed_datagrams packet clock feed ≡ cut_given first source s packet clock feed
  pub flushed : HoldsRest first source (picked_flushed feed s) (flushed_feed feed)
  pub flushed_sends : (clock : ℕ) → flush_datagrams clock feed ≡ cut_flushed first source s clock feed
  pub pulled : HoldsRest first source (picked_pulled feed s) (pulled_feed feed)

-- the same for every subscriber that holds its rest
abbrev pub EachCallKeepsRest : Type 0
EachCallKeepsRest = (first source : ℕ) (s : Picked) (feed : Feed) → HoldsRest first source s feed → KeepsRest first source s feed
