-- The run of a worker: connections one after another.
use Rattle.std.specs.Prelude.{◌≡◌, ℕ, Bool, true, false, List, [], ◌∷◌, ◌++◌, map}
use Rattle.satip_base.specs.declared.limits.TheConstants.{LONGEST_HISTORY}
use Rattle.satip_base.specs.declared.identity.Draw.{Draw}
use Rattle.satip_base.specs.Lists.{Each}
use Rattle.satip_plain.specs.Histories.{Item}
use Rattle.satip_world.specs.declared.doors.ConnEnd.{ConnEnd}
use Rattle.satip_world.specs.declared.doors.ConnEnd.TheVariants.{Spent as conn_spent, Want as conn_wants}
use Rattle.satip_world.specs.Counts.{Rises}
use Rattle.satip_world.specs.Halls.{Hall, Arrival, Return, Moved, HandsBack}
use Rattle.satip_world.specs.Lines.{Line, fresh_line}
use Rattle.satip_world.specs.Outboxes.{Outbox}
use Rattle.satip_desk.specs.declared.kits.WorkerKit.{WorkerKit}
use Rattle.satip_plain.specs.Known.{Known}
use Rattle.satip_worker.specs.declared.worker.WorkerEnd.{WorkerEnd}
use Rattle.satip_worker.specs.declared.worker.WorkerEnd.TheVariants.{Closed, DoorsFault, Spent, Want}
use Rattle.satip_worker.specs.Answers.{ends_with_last}
use Rattle.satip_worker.specs.Drawing.{DrawRange, draw_at}
use Rattle.satip_worker.specs.Ends.{LineEnds, is_unmade}
use Rattle.satip_worker.specs.Progress.{Stage, Makes, staged}
use Rattle.satip_worker.specs.Served.{ConnRun, ServesConn}

-- the arrival of a connection that was handed back
abbrev pub arrival_of : Return → Arrival
arrival_of r = record { kind = r.kind; peer = r.peer }

-- a worker's service, outlet and doors
pub record DoorsState : Type 0 where
  pub stage : Stage
  pub hall : Hall

-- the contract's view of a worker's service and kit
abbrev pub doors_state : {S D O P : Type 0} → (S → Bool) → (S → Known) → (D → Hall) → (O → Outbox) → S → WorkerKit D O P → DoorsState
doors_state may_want known hall outbox service kit = record { stage = staged may_want known outbox service kit.outlet; hall = hall kit.doors }

-- a connection was served and handed back; `line` is its state at the start
pub record ServesOne (conn_tells outlet_tells : Type 0) (came : Arrival) (draws : DrawRange) (o n : DoorsState) (line : Line) (end : ConnEnd) : Type 0 where
  pub later : Line
  pub serves : ServesConn conn_tells outlet_tells came.kind came.peer draws (record { stage = o.stage; line = line })
      (record { stage = n.stage; line = later }) end
  pub back : HandsBack o.hall n.hall came.kind came.peer later end

-- a connection arrived with no byte received or sent, and was served and handed back; these are the entries of its run
pub record ServedReturn (tells : Type 0) (drawn : ℕ → Draw) (from to : ℕ) (r : Return) (entries : List Item) : Type 0 where
  pub received : List ℕ
  pub sent : List ℕ
  pub run : ConnRun r.kind r.peer (record { drawn = drawn; from = from; to = to }) received sent r.end entries
  pub received_is : tells → r.line.received ≡ received
  pub sent_is : tells → r.line.sent ≡ sent
  pub line_ends : LineEnds r.end fresh_line r.line (ends_with_last entries)

-- these connections were served one after another, with these entries
abbrev pub ServesAll : (tells : Type 0) (drawn : ℕ → Draw) (from to : ℕ) → List Return → List Item → Type 0
ServesAll tells drawn from to [] entries = (to ≡ from) × (entries ≡ [])
ServesAll tells drawn from to (r ∷ rs) entries = (between : ℕ) × (own others : List Item) × (entries ≡ own ++ others)
    × ServedReturn tells drawn from between r own × ServesAll tells drawn between to rs others

-- the service made an entry of each event of these connections
abbrev pub AreMade : List Return → Type 0
AreMade returns = Each (λ r. is_unmade r.end ≡ false) returns

-- the service made no entry of an event of the last connection
pub record LastUnmade (end : ConnEnd) (returns : List Return) : Type 0 where
  pub before : List Return
  pub last : Return
  pub returns_are : returns ≡ before ++ last ∷ []
  pub made : AreMade before
  pub end_is : last.end ≡ end

-- the doors ended, and never failed
pub record DoorsEnded (o n : Hall) (returns : List Return) : Type 0 where
  pub ended : n.ended ≡ true
  pub calm : n.faults ≡ o.faults
  pub made : AreMade returns

-- the doors failed
pub record DoorsFailed (o n : Hall) (returns : List Return) : Type 0 where
  pub goes_on : n.ended ≡ false
  pub faults : Rises o.faults n.faults
  pub made : AreMade returns

-- the history is full, and the doors never failed
pub record HistoryFull (o n : Hall) (known : Known) (returns : List Return) : Type 0 where
  pub goes_on : n.ended ≡ false
  pub calm : n.faults ≡ o.faults
  pub full : known.length ≡ LONGEST_HISTORY
  pub last : LastUnmade conn_spent returns

-- memory was refused, and the doors never failed
pub record MemoryRefused (o n : Hall) (may_want : Bool) (returns : List Return) : Type 0 where
  pub goes_on : n.ended ≡ false
  pub calm : n.faults ≡ o.faults
  pub may : may_want ≡ true
  pub last : LastUnmade conn_wants returns

-- the reason why the worker ended
abbrev pub WorkerEnds : WorkerEnd → (o n : Hall) → (may_want : Bool) → Known → List Return → Type 0
WorkerEnds Closed o n may_want known returns = DoorsEnded o n returns
WorkerEnds DoorsFault o n may_want known returns = DoorsFailed o n returns
WorkerEnds Spent o n may_want known returns = HistoryFull o n known returns
WorkerEnds Want o n may_want known returns = MemoryRefused o n may_want returns

-- the connections that arrived at the doors were served, each handed back before the next arrived
pub record ServesDoors (conn_tells outlet_tells : Type 0) (key : List ℕ) (number : ℕ) (o n : DoorsState) (end : WorkerEnd) : Type 0 where
  pub returns : List Return
  pub entries : List Item
  pub draws : ℕ
  pub serves : ServesAll conn_tells (draw_at key number) 0 draws returns entries
  pub makes : Makes outlet_tells o.stage n.stage entries
  pub moved : Moved o.hall n.hall (map arrival_of returns) returns
  pub limit : n.hall.limit ≡ o.hall.limit
  pub ends : WorkerEnds end o.hall n.hall o.stage.may_want n.stage.known returns
