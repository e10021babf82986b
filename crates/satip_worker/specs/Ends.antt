-- The reasons why the service of a connection ends.
use Rattle.std.specs.Prelude.{◌≡◌, ◌⊎◌, Bool, true, false}
use Rattle.satip_base.specs.declared.limits.TheConstants.{LONGEST_HISTORY}
use Rattle.satip_world.specs.declared.doors.ConnEnd.{ConnEnd}
use Rattle.satip_world.specs.declared.doors.ConnEnd.TheVariants.{Done, ReadFault, WriteFault, Spent, Want}
use Rattle.satip_world.specs.Counts.{Rises}
use Rattle.satip_world.specs.Lines.{Line}
use Rattle.satip_plain.specs.Known.{Known}
use Rattle.satip_plain.specs.declared.fault.ServiceFault.{ServiceFault}
use Rattle.satip_plain.specs.declared.fault.ServiceFault.TheVariants.{Spent as service_spent, Want as service_wants}
use Rattle.satip_worker.specs.Progress.{SameFaults}

-- a receive failed, before the input ended and before the connection ended with an answer; no send failed
pub record ReadFailed (o n : Line) (over : Bool) : Type 0 where
  pub goes_on : n.ended ≡ false
  pub unanswered : over ≡ false
  pub faults : Rises o.receive_faults n.receive_faults
  pub sends : n.send_faults ≡ o.send_faults

-- a send failed, before the input ended; no receive failed
pub record WriteFailed (o n : Line) : Type 0 where
  pub goes_on : n.ended ≡ false
  pub faults : Rises o.send_faults n.send_faults
  pub receives : n.receive_faults ≡ o.receive_faults

-- either the input ended, or the connection ended with the last answer before its input did
abbrev pub IsOver : (ended over : Bool) → Type 0
IsOver ended over = ((ended ≡ true) × (over ≡ false)) ⊎ ((ended ≡ false) × (over ≡ true))

-- the connection is over, and no receive and no send failed
pub record EndedWell (o n : Line) (over : Bool) : Type 0 where
  pub is_over : IsOver n.ended over
  pub calm : SameFaults o n

-- the connection's state at each end; `over` says whether it ended with the last answer
abbrev pub LineEnds : ConnEnd → (o n : Line) (over : Bool) → Type 0
LineEnds Done o n over = EndedWell o n over
LineEnds ReadFault o n over = ReadFailed o n over
LineEnds WriteFault o n over = WriteFailed o n
LineEnds Spent o n over = Unit {0}
LineEnds Want o n over = Unit {0}

-- the service's state at each end: its history is full, or it may return out of memory
abbrev pub ServiceEnds : ConnEnd → (may_want : Bool) → Known → Type 0
ServiceEnds Done may_want known = Unit {0}
ServiceEnds ReadFault may_want known = Unit {0}
ServiceEnds WriteFault may_want known = Unit {0}
ServiceEnds Spent may_want known = known.length ≡ LONGEST_HISTORY
ServiceEnds Want may_want known = may_want ≡ true

-- whether the service made no entry of an event
abbrev pub is_unmade : ConnEnd → Bool
is_unmade Done = false
is_unmade ReadFault = false
is_unmade WriteFault = false
is_unmade Spent = true
is_unmade Want = true

-- the end of a connection if an event has no entry
abbrev pub end_of : ServiceFault → ConnEnd
end_of service_spent = Spent
end_of service_wants = Want
