-- The session that a request names, by its id and its stream.
use Rattle.std.specs.Prelude.{ℕ, ◌≡◌, ◌==◌, not, Bool, true, false, Option, Some, find, is_some, option_map}
use Rattle.std.specs.Option.{option_map_or}
use Rattle.satip_base.specs.declared.identity.SessionId.{SessionId}
use Rattle.satip_plain.specs.Types.{Request}
use Rattle.satip_plain.specs.State.{Session, State, same_id, stream_of}
use Rattle.satip_plain.specs.Refusals.{session_named}
use Rattle.satip_plain.specs.Steps.{is_session}
use Rattle.satip_core.specs.declared.places.Party.{Party}

-- the id and the stream of a session
abbrev pub party_of : Session → Party
party_of s = record { id = s.id; stream = s.stream }

-- it is the session that the request names
abbrev pub NamesSession : State → Request → Option Party → Type 0
NamesSession st r party = party ≡ option_map party_of (session_named st r.session)

-- whether the session of an id is an HTTP session
abbrev pub kind_in : State → SessionId → Option Bool
kind_in st id = option_map (λ s. s.http) (find (is_session id) st.sessions)

-- it is an RTSP session, and its stream lives
pub record IsRtsp (st : State) (party : Party) : Type 0 where
  pub rtsp : kind_in st party.id ≡ Some false
  pub housed : is_some (stream_of st party.stream) ≡ true

-- the number of the session's stream
abbrev pub number_in : Option Party → Option ℕ
number_in session = option_map (λ s. s.stream) session

-- whether both are given, and the stream isn't the session's
abbrev pub of_another : Option Party → Option ℕ → Bool
of_another session stream = option_map_or (λ s. option_map_or (λ number. not (s.stream == number)) stream false) session false

-- whether both are given, and the session is the owner
abbrev pub owns_of : Option Party → Option SessionId → Bool
owns_of session owner = option_map_or (λ s. option_map_or (λ id. same_id id s.id) owner false) session false
