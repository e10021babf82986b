-- The cause of each end of a connection of a tunnel: what was answered, and what failed.
use Rattle.std.specs.Prelude.{List}
use Rattle.satip_interleave.specs.declared.events.TunnelAnswer.TheVariants.{Full as no_lane, Broken as lane_broken}
use Rattle.satip_interleave.specs.Histories.{TunnelItem, inners}
use Rattle.satip_world.specs.Lines.{Line}
use Rattle.satip_worker.specs.Answers.{ends_with_last}
use Rattle.satip_worker.specs.Ends.{EndedWell, ReadFailed, WriteFailed}
use Rattle.satip_tunnel.specs.declared.ends.TunnelEnd.{TunnelEnd}
use Rattle.satip_tunnel.specs.declared.ends.TunnelEnd.TheVariants.{Full, Broken, Done, ReadFault, WriteFault, Spent}
use Rattle.satip_tunnel.specs.Seats.{IsAnsweredBy}

-- no entry says that no lane was free, and none that the lane was broken
pub record HeldLane (made : List TunnelItem) : Type 0 where
  pub given : ¬ (IsAnsweredBy no_lane made)
  pub unbroken : ¬ (IsAnsweredBy lane_broken made)

-- `Full`: no lane was free
pub record EndedFull (made : List TunnelItem) : Type 0 where
  pub refused : IsAnsweredBy no_lane made
  pub unbroken : ¬ (IsAnsweredBy lane_broken made)

-- `Broken`: the lane broke
pub record EndedBroken (made : List TunnelItem) : Type 0 where
  pub given : ¬ (IsAnsweredBy no_lane made)
  pub broke : IsAnsweredBy lane_broken made

-- `Done`: the input ended or a closing reply was sent, and nothing failed
pub record EndedDone (made : List TunnelItem) (l m : Line) : Type 0 where
  pub held : HeldLane made
  pub well : EndedWell l m (ends_with_last (inners made))

-- `ReadFault`: a receive failed, and the connection wasn't over
pub record EndedUnread (made : List TunnelItem) (l m : Line) : Type 0 where
  pub held : HeldLane made
  pub failed : ReadFailed l m (ends_with_last (inners made))

-- `WriteFault`: a send failed
pub record EndedUnsent (made : List TunnelItem) (l m : Line) : Type 0 where
  pub held : HeldLane made
  pub failed : WriteFailed l m

-- `Spent`: the history is full; `full` says that
pub record EndedSpent (made : List TunnelItem) (full : Type 0) : Type 0 where
  pub held : HeldLane made
  pub filled : full

-- the cause of an end, by the entries that the connection made and its line before and after
abbrev pub HasCause : TunnelEnd → (made : List TunnelItem) → (l m : Line) → (full : Type 0) → Type 0
HasCause Full made l m full = EndedFull made
HasCause Broken made l m full = EndedBroken made
HasCause Done made l m full = EndedDone made l m
HasCause ReadFault made l m full = EndedUnread made l m
HasCause WriteFault made l m full = EndedUnsent made l m
HasCause Spent made l m full = EndedSpent made full
