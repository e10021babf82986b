-- Tables, as contracts see them.
use Rattle.std.specs.Prelude.{◌≡◌, ℕ, ◌<◌, ◌≤◌, ◌==◌, ◌||◌, Bool, true, false, List, [], ◌∷◌, Some, length}
use Rattle.std.specs.List.{list_any, list_all}
use Rattle.satip_table.specs.declared.session.Seat.{Seat}
use Rattle.satip_table.specs.declared.stream.Stream.{Stream}
use Rattle.satip_table.specs.Sessions.{has_slot, owner_of}
use Rattle.satip_table.specs.Streams.{is_live}

-- the living sessions in order of creation, each with its slot, the living streams by rising number, and the count of sessions created
pub record Living : Type 0 where
  pub seats : List Seat
  pub streams : List Stream
  pub made : ℕ

-- the table before any session was created
abbrev pub none : Living
none = record { seats = []; streams = []; made = 0 }

-- whether no session can be created: 64 live, or the count of sessions created has its greatest value
abbrev pub is_full : Living → Bool
is_full v = length v.seats == 64 || v.made == 4294967295

-- the sessions' counts rise; the first is above the first number, and the last is at most the second
abbrev pub CountsRise : ℕ → ℕ → List Seat → Type 0
CountsRise above last [] = above ≤ last
CountsRise above last (seat ∷ seats) = (above < seat.session.id.count) × CountsRise seat.session.id.count last seats

-- the slots are below 64, and no two are the same
abbrev pub SlotsApart : List Seat → Type 0
SlotsApart [] = Unit {0}
SlotsApart (seat ∷ seats) = (seat.slot < 64) × (list_any (has_slot seat.slot) seats ≡ false) × SlotsApart seats

-- the streams' numbers rise, and all are above this number
abbrev pub NumbersRise : ℕ → List Stream → Type 0
NumbersRise above [] = Unit {0}
NumbersRise above (stream ∷ streams) = (above < stream.number) × NumbersRise stream.number streams

-- each stream is owned by the first of its sessions
abbrev pub Owned : List Seat → List Stream → Type 0
Owned seats [] = Unit {0}
Owned seats (stream ∷ streams) = (owner_of seats stream.number ≡ Some stream.owner) × Owned seats streams

-- the invariant of a table
pub record Sound (v : Living) : Type 0 where
  pub few : length v.seats ≤ 64
  pub made : v.made ≤ 4294967295
  pub counts : CountsRise 0 v.made v.seats
  pub slots : SlotsApart v.seats
  pub numbers : NumbersRise 0 v.streams
  pub owned : Owned v.seats v.streams
  pub housed : list_all (λ (seat : Seat). is_live v.streams seat.session.stream) v.seats ≡ true
