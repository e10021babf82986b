-- The packing, seen from all packets that were ever pushed.
use Rattle.std.specs.Prelude.{ℕ, ◌≡◌, ◌+◌, ◌*◌, ◌%◌, ◌<◌, ◌≤◌, Bool, true, false, List, [], ◌∷◌, ◌++◌, length, drop, map, sum}
use Rattle.satip_base.specs.Output.{Datagram}
use Rattle.satip_base.specs.declared.network.Address.{Address}
use Rattle.satip_rtp.specs.Cut.{cut}
use Rattle.satip_rtp.specs.Packing.{Packing, packing, holding, after_cut, numbered, leaving}

-- all pushed packets, and the number of packets in each datagram so far
pub record Picked : Type 0 where
  pub packets : List (List ℕ)
  pub sizes : List ℕ

-- the start: nothing was pushed yet
abbrev pub none_picked : Picked
none_picked = record { packets = []; sizes = [] }

-- the same with one more packet pushed
abbrev pub picking : Picked → List ℕ → Picked
picking s packet = record s { packets = s.packets ++ packet ∷ [] }

-- the packets of the datagrams that are sent at this call: the cut of those that no datagram has yet
abbrev pub parts : Bool → Picked → List (List (List ℕ))
parts flush s = cut flush (drop (sum s.sizes) s.packets)

-- the same after these datagrams
abbrev pub after_parts : Bool → Picked → Picked
after_parts flush s = record s { sizes = s.sizes ++ map length (parts flush s) }

-- the datagrams sent at this call: one after k earlier datagrams has the number first + k, modulo 65536
abbrev pub numbered_parts : Bool → ℕ → ℕ → Picked → ℕ → Address → List Datagram
numbered_parts flush first source s clock to = numbered ((first + length s.sizes) % 65536) clock source to (parts flush s)

-- the state of a packer with this source and first number follows from all packets
pub record Keeps (first source : ℕ) (s : Picked) (p : Packing) : Type 0 where
  pub ssrc : p.ssrc ≡ source
  pub held : p.held ≡ drop (sum s.sizes) s.packets
  pub within : sum s.sizes ≤ length s.packets
  pub next : p.next ≡ (first + length s.sizes) % 65536
  pub datagrams : p.datagrams ≡ length s.sizes % 4294967296
  pub octets : p.octets ≡ 188 * sum s.sizes % 4294967296

-- a call of a packer, at a clock, for an address
pub data Call : Type 0 where
  Push : List ℕ → ℕ → Address → Call
  Flush : ℕ → Address → Call

-- the state of a packer after a call
abbrev pub after_call : Packing → Call → Packing
after_call p (Push packet clock to) = after_cut false (holding p packet)
after_call p (Flush clock to) = after_cut true p

-- the datagrams that a call sends
abbrev pub sent_by_call : Packing → Call → List Datagram
sent_by_call p (Push packet clock to) = leaving false (holding p packet) clock to
sent_by_call p (Flush clock to) = leaving true p clock to

-- the datagrams that a list of calls sends
abbrev pub sent_by : Packing → List Call → List Datagram
sent_by p [] = []
sent_by p (call ∷ calls) = sent_by_call p call ++ sent_by (after_call p call) calls

-- all packets and sizes after a call
abbrev pub picked_after : Picked → Call → Picked
picked_after s (Push packet clock to) = after_parts false (picking s packet)
picked_after s (Flush clock to) = after_parts true s

-- the datagrams of a call, from all packets
abbrev pub cut_at_call : ℕ → ℕ → Picked → Call → List Datagram
cut_at_call first source s (Push packet clock to) = numbered_parts false first source (picking s packet) clock to
cut_at_call first source s (Flush clock to) = numbered_parts true first source s clock to

-- the datagrams of a list of calls, from all packets
abbrev pub cut_at : ℕ → ℕ → Picked → List Call → List Datagram
cut_at first source s [] = []
cut_at first source s (call ∷ calls) = cut_at_call first source s call ++ cut_at first source (picked_after s call) calls

-- after each call the state follows from all packets, and the call sends their cut
abbrev pub EachCallCuts : Type 0
EachCallCuts =
    (first source : ℕ) (s : Picked) (p : Packing) (call : Call) → Keeps first source s p
    → Keeps first source (picked_after s call) (after_call p call) × (sent_by_call p call ≡ cut_at_call first source s call)

-- over every list of calls the datagrams are the cut of the pushed packets
abbrev pub AllCallsCut : Type 0
AllCallsCut =
    (first source : ℕ) (calls : List Call) → first < 65536
    → sent_by (packing source first) calls ≡ cut_at first source none_picked calls
