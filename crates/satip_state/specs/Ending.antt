-- The parts after a session ended, and while sessions of marked slots end.
use Rattle.std.specs.Prelude.{ℕ, ◌≡◌, ◌<◌, ◌≤◌, Bool, true, false, if◌then◌else◌, None, slice_set}
use Rattle.std.specs.Int.{bit_at}
use Rattle.satip_base.specs.Lists.{Each}
use Rattle.satip_base.specs.declared.identity.SessionId.{SessionId}
use Rattle.satip_table.specs.declared.session.Seat.{Seat}
use Rattle.satip_table.specs.Sessions.{without}
use Rattle.satip_table.specs.Streams.{is_live, kept_streams}
use Rattle.satip_fronts.specs.FrontEnds.{left}
use Rattle.satip_flow.specs.Subscriptions.{without as without_slot}
use Rattle.satip_plain.specs.Types.{Config}
use Rattle.satip_plain.specs.State.{Session, State}
use Rattle.satip_plain.specs.Steps.{end_where}
use Rattle.satip_state.specs.Kept.{Kept}
use Rattle.satip_state.specs.Standing.{StandsFor}

-- the session with this id and seat is gone; its stream left its front end if it has no other session
pub record Removed (id : SessionId) (seat : Seat) (v w : Kept) : Type 0 where
  pub clock : w.clock ≡ v.clock
  pub stopped : w.stopped ≡ v.stopped
  pub timeout : w.timeout ≡ v.timeout
  pub seats : w.table.seats ≡ without id v.table.seats
  pub streams : w.table.streams ≡ kept_streams w.table.seats v.table.streams
  pub made : w.table.made ≡ v.table.made
  pub dues : w.dues ≡ slice_set v.dues seat.slot None
  pub flow : w.flow ≡ without_slot seat.slot v.flow
  pub fronts_stay : is_live w.table.streams seat.session.stream ≡ true → w.fronts ≡ v.fronts
  pub fronts_left : is_live w.table.streams seat.session.stream ≡ false → 1 ≤ seat.session.stream → seat.session.stream ≤ 64
      → w.fronts ≡ left v.fronts seat.session.stream

-- the bit of a seat's slot is set exactly if its session is to end
abbrev pub IsMarked : ℕ → (SessionId → Bool) → Seat → Type 0
IsMarked marks ends seat = bit_at marks seat.slot ≡ (if ends seat.session.id then 1 else 0)

-- only sessions that are to end have ended, and all of them in slots below this one
pub record EndedMarked (c : Config) (w : Kept) (st : State) (ends : SessionId → Bool) (marks slot : ℕ) : Type 0 where
  pub who : Session → Bool
  pub some : (s : Session) → who s ≡ true → ends s.id ≡ true
  pub stands : StandsFor c w (end_where who st).state
  pub marked : Each (IsMarked marks ends) w.table.seats
  pub clear : Each (λ seat. seat.slot < slot → ends seat.session.id ≡ false) w.table.seats
