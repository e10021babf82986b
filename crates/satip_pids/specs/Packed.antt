-- Lists at the start of an array whose other places hold zero.
use Rattle.std.specs.Prelude.{◌≡◌, ℕ, ◌-◌, ◌≤◌, List, length, drop, replicate}

-- the first `count` places are the list, and each later one of the `room` places holds zero
pub record IsPacked (room : ℕ) (places : List ℕ) (count : ℕ) : Type 0 where
  pub within : count ≤ room
  pub size : length places ≡ room
  pub blank : drop count places ≡ replicate (room - count) 0
