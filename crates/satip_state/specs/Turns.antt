-- Turns of sessions, one after another.
use Rattle.std.specs.Prelude.{ℕ, true, zero, suc, ◌+◌, ◌==◌, nat_le, ◌&&◌, not, Bool, List, [], ◌∷◌, ◌++◌, Option, None, Some, if◌then◌else◌}
use Rattle.satip_base.specs.declared.limits.TheConstants.{REPORT_MS}
use Rattle.std.specs.List.{cons_option}
use Rattle.std.specs.Option.{option_map_or}
use Rattle.satip_table.specs.declared.session.Session.{Session as Row}
use Rattle.satip_plain.specs.Types.{Config}
use Rattle.satip_plain.specs.State.{Session, State}
use Rattle.satip_plain.specs.Sending.{Sent, Move, Turn, let_go}
use Rattle.satip_plain.specs.Steps.{is_due, report_of}

-- the sessions after some turns, and the datagrams sent
pub record Round : Type 0 where
  pub sessions : List Session
  pub sent : List Sent

-- the session at a place, from 0, has its turn
abbrev pub turn_of : ℕ → (Session → Turn) → List Session → Round
turn_of place turn [] = record { sessions = []; sent = [] }
turn_of zero turn (s ∷ ss) = record { sessions = cons_option (turn s).after ss; sent = (turn s).sends }
turn_of (suc place) turn (s ∷ ss) =
    record { sessions = s ∷ (turn_of place turn ss).sessions; sent = (turn_of place turn ss).sent }

-- the first `count` sessions had their turns
abbrev pub first_turns : ℕ → (Session → Turn) → List Session → Round
first_turns zero turn ss = record { sessions = ss; sent = [] }
first_turns (suc count) turn [] = record { sessions = []; sent = [] }
first_turns (suc count) turn (s ∷ ss) = record {
  sessions = cons_option (turn s).after (first_turns count turn ss).sessions;
  sent = (turn s).sends ++ (first_turns count turn ss).sent;
}

-- the state after turns
abbrev pub after_round : State → Round → Move
after_round st r = record { state = record st { sessions = r.sessions }; sent = r.sent }

-- whether a flush of a stream, or of all streams, is for a session
abbrev pub is_flushed : Option ℕ → ℕ → Bool → Bool
is_flushed None stream http = not http
is_flushed (Some number) stream http = stream == number && not http

-- the turn of a session in a flush
abbrev pub flush_turn : Option ℕ → ℕ → Session → Turn
flush_turn only clock s =
    if is_flushed only s.stream s.http then let_go true clock s else record { sends = []; after = Some s }

-- the turn of a session when reports leave
abbrev pub report_turn : Config → State → Session → Turn
report_turn c st s =
    if is_due st.clock s
    then record { sends = report_of c st s; after = Some (record s { reported = Some st.clock }) }
    else record { sends = []; after = Some s }

-- whether a session of the table is due for a report
abbrev pub is_row_due : ℕ → Row → Bool
is_row_due clock row = row.playing && not row.http && option_map_or (λ at. nat_le (at + REPORT_MS) clock) row.reported true
