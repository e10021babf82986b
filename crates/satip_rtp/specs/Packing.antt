-- The state of a packer, and the datagrams that it sends.
use Rattle.std.specs.Prelude.{ℕ, ◌+◌, ◌*◌, ◌%◌, Bool, List, [], ◌∷◌, ◌++◌, length, drop, map, sum}
use Rattle.satip_base.specs.Output.{Datagram}
use Rattle.satip_base.specs.declared.network.Address.{Address}
use Rattle.satip_rtp.specs.Cut.{cut}
use Rattle.satip_rtp.specs.Bytes.{rtp_datagram}

-- the source, the held packets, the next sequence number, and the counts of datagrams and payload bytes sent
pub record Packing : Type 0 where
  pub ssrc : ℕ
  pub held : List (List ℕ)
  pub next : ℕ
  pub datagrams : ℕ
  pub octets : ℕ

-- a new packer
abbrev pub packing : ℕ → ℕ → Packing
packing ssrc first = record { ssrc = ssrc; held = []; next = first; datagrams = 0; octets = 0 }

-- the state with one more packet held
abbrev pub holding : Packing → List ℕ → Packing
holding p packet = record p { held = p.held ++ packet ∷ [] }

-- the number of packets in each datagram of the cut
abbrev pub sizes : Bool → Packing → List ℕ
sizes flush p = map length (cut flush p.held)

-- the state after the cut was sent: numbers count modulo 2^16, datagrams and payload bytes modulo 2^32
abbrev pub after_cut : Bool → Packing → Packing
after_cut flush p = record {
  ssrc = p.ssrc;
  held = drop (sum (sizes flush p)) p.held;
  next = (p.next + length (sizes flush p)) % 65536;
  datagrams = (p.datagrams + length (sizes flush p)) % 4294967296;
  octets = (p.octets + 188 * sum (sizes flush p)) % 4294967296;
}

-- datagrams with consecutive sequence numbers from `number` on
abbrev pub numbered : ℕ → ℕ → ℕ → Address → List (List (List ℕ)) → List Datagram
numbered number clock ssrc to [] = []
numbered number clock ssrc to (packets ∷ more) =
    record { to = to; bytes = rtp_datagram number clock ssrc packets } ∷ numbered ((number + 1) % 65536) clock ssrc to more

-- the datagrams that are sent
abbrev pub leaving : Bool → Packing → ℕ → Address → List Datagram
leaving flush p clock to = numbered p.next clock p.ssrc to (cut flush p.held)
