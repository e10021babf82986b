-- The places that a catcher's fields hold.
use Rattle.std.specs.Prelude.{ℕ, ◌<◌, List, [], ◌∷◌, ◌++◌, replicate, Option, None, Some}
use Rattle.circular_buffer.specs.Buffer.{Buffer}
use Rattle.satip_rtp_receiver.specs.declared.tail.Tail.{Tail}

-- the newest datagram, after the missing ones before it
abbrev pub tail_held : Option Tail → List (Option (List ℕ))
tail_held None = []
tail_held (Some tail) = replicate tail.skip None ++ Some tail.packets ∷ []

-- fewer datagrams are missing before the newest than a number can be ahead
abbrev pub IsNear : Option Tail → Type 0
IsNear None = Unit {0}
IsNear (Some tail) = tail.skip < 32767

-- the ring's places, and then the newest datagram
abbrev pub held_by : Buffer (Option (List ℕ)) → Option Tail → List (Option (List ℕ))
held_by ring tail = ring.items ++ tail_held tail
