-- Bytes in a ring, and the writing of a piece into them.
use Rattle.std.specs.Prelude.{◌≡◌, ℕ, ◌+◌, ◌<◌, ◌≤◌, List, ◌++◌, length, take, drop}
use Rattle.satip_interleave.specs.declared.ring.Ring.TheInside.{Inside}

-- all bytes of a ring, from this place on and around its end
abbrev pub turned : ℕ → List ℕ → List ℕ
turned start bytes = drop start bytes ++ take start bytes

-- the bytes after a piece was written at this place
abbrev pub overwritten : ℕ → List ℕ → List ℕ → List ℕ
overwritten at piece bytes = take at bytes ++ piece ++ drop (at + length piece) bytes

-- the bytes that a ring holds
abbrev pub held_bytes : Inside → List ℕ
held_bytes r = take r.len (turned r.start r.bytes.items)

-- the ring has memory for 524288 bytes, and its start and length are within it
pub record IsRing (r : Inside) : Type 0 where
  pub size : length r.bytes.items ≡ 524288
  pub start : r.start < 524288
  pub len : r.len ≤ 524288
