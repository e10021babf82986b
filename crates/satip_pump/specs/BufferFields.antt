-- The fields of a buffer, and the packets that they hold.
use Rattle.std.specs.Prelude.{ℕ, ◌+◌, ◌-◌, ◌≤◌, List, [], ◌∷◌, map, take, drop}
use Rattle.satip_ts.specs.Packet.{IsPacket}
use Rattle.satip_pump.specs.declared.buffer.Buffer.TheInside.{Inside}
use Rattle.satip_pump.specs.Buffers.{Buffered}

-- the packet that starts at this place
abbrev pub packet_at : List ℕ → ℕ → List ℕ
packet_at bytes start = take 188 (drop start bytes)

-- packets start at these places, and each ends within `count` bytes
abbrev pub AreStarts : List ℕ → ℕ → List ℕ → Type 0
AreStarts bytes count [] = Unit {0}
AreStarts bytes count (start ∷ starts) = (start + 188 ≤ count) × IsPacket (packet_at bytes start) × AreStarts bytes count starts

-- the places of the packets that were found and not yet given
abbrev pub left_starts : Inside → List ℕ
left_starts b = take (b.found - b.given) (drop b.given b.starts)

-- the contract's view of a buffer
abbrev pub buffered : Inside → Buffered
buffered b = record {
  packets = map (packet_at b.bytes) (left_starts b);
  rest = take (b.end - b.start) (drop b.start b.bytes);
  room = 64 - b.found;
  space = 12220 - b.end;
}

-- the counts and places of a buffer agree: the waiting packets come before the rest, which is within the bytes
pub record IsSound (b : Inside) : Type 0 where
  pub given : b.given ≤ b.found
  pub found : b.found ≤ 64
  pub start : b.start ≤ b.end
  pub end : b.end ≤ 12220
  pub starts : AreStarts b.bytes b.start (left_starts b)
