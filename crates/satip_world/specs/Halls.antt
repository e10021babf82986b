-- Doors as contracts see them, and the effect of one call.
use Rattle.std.specs.Prelude.{◌≡◌, ◌≢◌, ℕ, suc, ◌<◌, ◌≤◌, ◌⊎◌, Bool, true, false, List, [], ◌∷◌, ◌++◌}
use Rattle.satip_base.specs.declared.network.Peer.{Peer}
use Rattle.satip_world.specs.declared.doors.DoorKind.{DoorKind}
use Rattle.satip_world.specs.declared.doors.ConnEnd.{ConnEnd}
use Rattle.satip_world.specs.declared.doors.Door.{Door}
use Rattle.satip_world.specs.declared.doors.Door.TheVariants.{Came, Idle, End, Failed}
use Rattle.satip_world.specs.Counts.{Rises, RisesByOne}
use Rattle.satip_world.specs.Lines.{Line, fresh_line}

-- a connection that was accepted: its protocol and its client
pub record Arrival : Type 0 where
  pub kind : DoorKind
  pub peer : Peer

-- a connection that was handed back: its protocol and its client, its line at that time, and the end of its service
pub record Return : Type 0 where
  pub kind : DoorKind
  pub peer : Peer
  pub line : Line
  pub end : ConnEnd

-- doors: the count of connections after which they end (0: no limit), the count accepted, whether they ended, the counts of idles and faults;
-- `told`: whether the connections that were accepted and handed back are exposed
pub record Hall : Type 0 where
  pub limit : ℕ
  pub count : ℕ
  pub ended : Bool
  pub idles : ℕ
  pub faults : ℕ
  pub told : Bool
  pub given : List Arrival
  pub returned : List Return

-- doors without a connection yet
abbrev pub fresh_hall : ℕ → Bool → Hall
fresh_hall limit told =
    record { limit = limit; count = 0; ended = false; idles = 0; faults = 0; told = told; given = []; returned = [] }

-- these connections were accepted and these were handed back; doors that stop exposing them never expose them again
pub record Moved (o n : Hall) (came : List Arrival) (left : List Return) : Type 0 where
  pub told : n.told ≡ true → o.told ≡ true
  pub given : n.told ≡ true → n.given ≡ o.given ++ came
  pub returned : n.told ≡ true → n.returned ≡ o.returned ++ left

-- a connection was accepted, within the limit
pub record LetIn (o n : Hall) (kind : DoorKind) (peer : Peer) (line : Line) : Type 0 where
  pub before : o.ended ≡ false
  pub after : n.ended ≡ false
  pub limit : n.limit ≡ o.limit
  pub within : (o.limit ≡ 0) ⊎ (o.count < o.limit)
  pub count : RisesByOne o.count n.count
  pub idles : n.idles ≡ o.idles
  pub faults : n.faults ≡ o.faults
  pub fresh : line ≡ fresh_line
  pub content : Moved o n (record { kind = kind; peer = peer } ∷ []) []

-- no connection came
pub record HadNone (o n : Hall) : Type 0 where
  pub before : o.ended ≡ false
  pub after : n.ended ≡ false
  pub limit : n.limit ≡ o.limit
  pub count : n.count ≡ o.count
  pub idles : Rises o.idles n.idles
  pub one_idle : n.idles ≤ suc o.idles
  pub faults : n.faults ≡ o.faults
  pub content : Moved o n [] []

-- there is a limit, and that many connections were accepted
pub record IsAtLimit (hall : Hall) : Type 0 where
  pub some : hall.limit ≢ 0
  pub reached : hall.limit ≤ hall.count

-- no further connection comes, ever; doors that end by their limit alone are at it
pub record Shut (by_limit : Type 0) (o n : Hall) : Type 0 where
  pub after : n.ended ≡ true
  pub at_limit : by_limit → IsAtLimit n
  pub limit : n.limit ≡ o.limit
  pub count : n.count ≡ o.count
  pub idles : n.idles ≡ o.idles
  pub faults : n.faults ≡ o.faults
  pub content : Moved o n [] []

-- the doors failed
pub record FailedToOpen (o n : Hall) : Type 0 where
  pub before : o.ended ≡ false
  pub after : n.ended ≡ false
  pub limit : n.limit ≡ o.limit
  pub count : n.count ≡ o.count
  pub idles : n.idles ≡ o.idles
  pub faults : Rises o.faults n.faults
  pub content : Moved o n [] []

-- the effect of one call of `next`; `line` is what a connection exposes
abbrev pub Opens : {C : Type 0} → (by_limit : Type 0) → (C → Line) → (o n : Hall) → Door C → Type 0
Opens by_limit line o n (Came kind peer conn) = LetIn o n kind peer (line conn)
Opens by_limit line o n Idle = HadNone o n
Opens by_limit line o n End = Shut by_limit o n
Opens by_limit line o n Failed = FailedToOpen o n

-- the effect of one call of `back`
pub record HandsBack (o n : Hall) (kind : DoorKind) (peer : Peer) (line : Line) (end : ConnEnd) : Type 0 where
  pub ended : n.ended ≡ o.ended
  pub limit : n.limit ≡ o.limit
  pub count : n.count ≡ o.count
  pub idles : n.idles ≡ o.idles
  pub faults : n.faults ≡ o.faults
  pub content : Moved o n [] (record { kind = kind; peer = peer; line = line; end = end } ∷ [])
