-- The outcome of one event of a connection.
use Rattle.std.specs.Prelude.{◌≡◌, ℕ, List, [], ◌∷◌, length, Result, Ok, Err}
use Rattle.satip_base.specs.declared.limits.TheConstants.{LONGEST_HISTORY}
use Rattle.satip_base.specs.declared.outcomes.Spent.{Spent}
use Rattle.satip_base.specs.Output.{Output}
use Rattle.satip_base.specs.History.{entry}
use Rattle.satip_plain.specs.Suits.{Suits}
use Rattle.satip_interleave.specs.declared.events.TunnelEvent.{TunnelEvent}
use Rattle.satip_interleave.specs.declared.events.TunnelEvent.TheVariants.{Inner, Enter, Drain, Leave}
use Rattle.satip_interleave.specs.declared.events.TunnelAnswer.{TunnelAnswer}
use Rattle.satip_interleave.specs.declared.events.TunnelAnswer.TheVariants.{Inner as InnerAnswer, Lane, Full, Frames, Empty, Broken, Gone, Left}
use Rattle.satip_interleave.specs.Histories.{TunnelItem}
use Rattle.satip_tunnel.specs.declared.ends.Entered.{Entered}
use Rattle.satip_tunnel.specs.declared.ends.Entered.TheVariants.{Lane as entered_lane, Full as entered_full, Spent as entered_spent}
use Rattle.satip_tunnel.specs.Ends.{IsLeave}
use Rattle.satip_tunnel.specs.Seats.{Seat, Grows}

-- the answers that an event may have
abbrev pub SuitsTunnel : TunnelEvent → TunnelAnswer → Type 0
SuitsTunnel (Inner event) (InnerAnswer answer) = Suits event answer
SuitsTunnel Enter (Lane lane) = Unit {0}
SuitsTunnel Enter Full = Unit {0}
SuitsTunnel (Drain lane) (Frames count) = Unit {0}
SuitsTunnel (Drain lane) Empty = Unit {0}
SuitsTunnel (Drain lane) Broken = Unit {0}
SuitsTunnel (Drain lane) Gone = Unit {0}
SuitsTunnel (Leave lane) Left = Unit {0}
SuitsTunnel (Leave lane) Gone = Unit {0}
SuitsTunnel event answer = ⊥

-- the event has an entry
pub record MadeEvent (o n : Seat) (event : TunnelEvent) (answer : TunnelAnswer) (out : Output) : Type 0 where
  pub suits : SuitsTunnel event answer
  pub grows : Grows o n (entry o.pass.number event answer out ∷ [])

-- the event has no entry, since the history is full
pub record UnmadeEvent (o n : Seat) : Type 0 where
  pub grows : Grows o n []
  pub full : length n.pass.seen ≡ LONGEST_HISTORY

-- the outcome of executing an event
abbrev pub MakesEvent : (o n : Seat) → TunnelEvent → Output → Result TunnelAnswer Spent → Type 0
MakesEvent o n event out (Ok answer) = MadeEvent o n event answer out
MakesEvent o n event out (Err spent) = UnmadeEvent o n

-- one entry with this event and this answer was made
pub record MadeOne (o n : Seat) (event : TunnelEvent) (answer : TunnelAnswer) : Type 0 where
  pub item : TunnelItem
  pub event_is : item.event ≡ event
  pub answer_is : item.answer ≡ answer
  pub grows : Grows o n (item ∷ [])

-- the outcome of an Enter
abbrev pub EntersBy : (o n : Seat) → Entered → Type 0
EntersBy o n (entered_lane lane) = MadeOne o n Enter (Lane lane)
EntersBy o n entered_full = MadeOne o n Enter Full
EntersBy o n entered_spent = UnmadeEvent o n

-- the lane was given up
pub record MadeLeave (lane : ℕ) (o n : Seat) : Type 0 where
  pub last : List TunnelItem
  pub leave : IsLeave lane last
  pub grows : Grows o n last

-- the outcome of a Leave
abbrev pub LeavesBy : ℕ → (o n : Seat) → Result (Unit {0}) Spent → Type 0
LeavesBy lane o n (Ok done) = MadeLeave lane o n
LeavesBy lane o n (Err spent) = UnmadeEvent o n
