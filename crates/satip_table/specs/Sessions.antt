-- Sessions, in order of creation, each with its slot.
use Rattle.std.specs.Prelude.{◌≡◌, ℕ, ◌+◌, ◌<◌, ◌==◌, ◌&&◌, not, Bool, true, false, if◌then◌else◌, List, [], ◌∷◌, ◌++◌, Option, None, Some, find, filter, map}
use Rattle.std.specs.List.{list_any}
use Rattle.std.specs.Option.{option_map}
use Rattle.satip_base.specs.declared.identity.SessionId.{SessionId}
use Rattle.satip_base.specs.declared.network.Peer.{Peer}
use Rattle.satip_base.specs.declared.network.Ports.{Ports}
use Rattle.satip_table.specs.declared.session.Session.{Session}
use Rattle.satip_table.specs.declared.session.NewSession.{NewSession}
use Rattle.satip_table.specs.declared.session.Seat.{Seat}

-- whether two ids are the same
abbrev pub id_eq : SessionId → SessionId → Bool
id_eq a b = a.count == b.count && a.word == b.word

-- whether the session has this id
abbrev pub has_id_of : SessionId → Seat → Bool
has_id_of id seat = id_eq seat.session.id id

-- whether the session has this slot
abbrev pub has_slot : ℕ → Seat → Bool
has_slot slot seat = seat.slot == slot

-- whether the session is at this stream
abbrev pub is_in : ℕ → Seat → Bool
is_in stream seat = seat.session.stream == stream

-- the sessions of a stream: its owner, followed by those that joined it, in order
abbrev pub members : ℕ → List Seat → List Seat
members stream seats = filter (is_in stream) seats

-- the owner of a stream: the first of its sessions
abbrev pub owner_of : List Seat → ℕ → Option SessionId
owner_of seats stream = option_map (λ (seat : Seat). seat.session.id) (find (is_in stream) seats)

-- the id of the next session after `made` ones
unfoldable pub following_id : ℕ → NewSession → SessionId
following_id made session = record { count = made + 1; word = session.draw.word }

-- the next session after `made` ones, at this stream; an HTTP session plays at once
unfoldable pub session_of : ℕ → NewSession → ℕ → Session
session_of made session stream = record {
  id = following_id made session;
  http = session.http;
  peer = session.peer;
  ports = session.ports;
  stream = stream;
  playing = session.http;
  heard = session.heard;
  reported = None;
  ssrc = session.draw.ssrc;
  first = session.draw.first;
}

-- the sessions after a new one was appended, in a slot below 64 that no other has
pub record Adds (old : List Seat) (session : Session) (new : List Seat) : Type 0 where
  pub slot : ℕ
  pub within : slot < 64
  pub free : list_any (has_slot slot) old ≡ false
  pub last : new ≡ old ++ record { slot = slot; session = session } ∷ []

-- the sessions without that of this id
abbrev pub without : SessionId → List Seat → List Seat
without id seats = filter (λ seat. not (has_id_of id seat)) seats

-- the session, changed if it has this id
unfoldable pub changed_where : SessionId → (Session → Session) → Seat → Seat
changed_where id change seat = if has_id_of id seat then record seat { session = change seat.session } else seat

-- the sessions after that of this id was changed
abbrev pub with_session : SessionId → (Session → Session) → List Seat → List Seat
with_session id change seats = map (changed_where id change) seats

-- the session after activity at this moment
unfoldable pub heard_at : ℕ → Session → Session
heard_at now session = record session { heard = now }

-- the session, as playing
unfoldable pub played : Session → Session
played session = record session { playing = true }

-- the session, with its datagrams sent to these ports of this peer
unfoldable pub moved_to : Peer → Ports → Session → Session
moved_to peer ports session = record session { peer = peer; ports = ports }

-- the session after a report at this moment
unfoldable pub reported_at : ℕ → Session → Session
reported_at now session = record session { reported = Some now }
