-- The fields of the streams.
use Rattle.std.specs.Prelude.{◌≡◌, ◌+◌, ◌<◌, ℕ, true, List, length, slice_index_or}
use Rattle.satip_table.specs.Placed.{in_order, is_there}
use Rattle.satip_table.specs.Streams.{fresh}
use Rattle.satip_table.specs.declared.stream.Stream.{Stream}
use Rattle.satip_table.specs.declared.streams.Streams.TheInside.{Inside}

-- the stream at a place past the end
unfoldable pub no_stream : Stream
no_stream = fresh 0 (record { count = 0; word = 0 })

-- the living streams of the fields, as contracts see them
abbrev pub numbered : Inside → List Stream
numbered a = in_order no_stream a.streams.items a.order

-- the stream at place p has the number p + 1
pub record Numbered (a : Inside) : Type 0 where
  pub long : length a.streams.items ≡ 64
  pub numbers : (place : ℕ) → place < 64 → (slice_index_or a.streams.items place no_stream).number ≡ place + 1
  pub within : (place : ℕ) → is_there place a.order ≡ true → place < 64
