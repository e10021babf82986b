-- The fields of the sessions.
use Rattle.std.specs.Prelude.{◌≡◌, ◌<◌, ℕ, true, false, List, None, length, slice_index_or}
use Rattle.satip_table.specs.Placed.{in_order, is_there}
use Rattle.satip_table.specs.declared.session.Seat.{Seat}
use Rattle.satip_table.specs.declared.session.Session.{Session}
use Rattle.satip_table.specs.declared.seats.Seats.TheInside.{Inside}

-- the content of a slot that had no session yet
abbrev pub nobody : Session
nobody = record {
  id = record { count = 0; word = 0 };
  http = false;
  peer = record { ip = 0 };
  ports = record { rtp = 0; rtcp = 0 };
  stream = 0;
  playing = false;
  heard = 0;
  reported = None;
  ssrc = 0;
  first = 0;
}

-- the session at a slot past the end
abbrev pub no_seat : Seat
no_seat = record { slot = 0; session = nobody }

-- the living sessions of the fields, as contracts see them
abbrev pub seated : Inside → List Seat
seated a = in_order no_seat a.seats.items a.order

-- at each slot is a session with this slot
pub record Seated (a : Inside) : Type 0 where
  pub long : length a.seats.items ≡ 64
  pub slots : (slot : ℕ) → slot < 64 → (slice_index_or a.seats.items slot no_seat).slot ≡ slot
  pub within : (slot : ℕ) → is_there slot a.order ≡ true → slot < 64
