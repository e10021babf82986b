-- Counts of events of a device.
use Rattle.std.specs.Prelude.{◌≡◌, ℕ, suc, ◌≤◌, min}
use Rattle.satip_base.specs.Streams.{Rose}

-- a count rose, or is at its last value; it never falls
pub record Rises (before now : ℕ) : Type 0 where
  pub rose : Rose before now
  pub kept : before ≤ now

-- a count rose by one, or is at its last value, 2^64 - 1
abbrev pub RisesByOne : (before now : ℕ) → Type 0
RisesByOne before now = now ≡ min (suc before) 18446744073709551615
