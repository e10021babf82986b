-- The run of a tunnel's worker: connections one after another.
use Rattle.std.specs.Prelude.{◌≡◌, ℕ, false, List, [], ◌∷◌, ◌++◌, map}
use Rattle.satip_base.specs.declared.identity.Draw.{Draw}
use Rattle.satip_base.specs.declared.network.Peer.{Peer}
use Rattle.satip_interleave.specs.Calling.{known_by}
use Rattle.satip_interleave.specs.Histories.{TunnelItem}
use Rattle.satip_tunnel.specs.Seats.{Seat, Grows, SeesFull}
use Rattle.satip_worker.specs.Drawing.{draw_at}
use Rattle.satip_worker.specs.WorkerRun.{WorkerEnds, arrival_of}
use Rattle.satip_worker.specs.declared.worker.WorkerEnd.{WorkerEnd}
use Rattle.satip_world.specs.declared.doors.ConnEnd.{ConnEnd}
use Rattle.satip_world.specs.declared.doors.DoorKind.{DoorKind}
use Rattle.satip_world.specs.Halls.{Hall, HandsBack, Moved, Return}
use Rattle.satip_world.specs.Lines.{Line, fresh_line}
use Rattle.satip_tunnel.specs.ConnRun.{ConnServed, ServesConn}

-- a worker of a tunnel: its caller and its doors
pub record WorkerState : Type 0 where
  pub seat : Seat
  pub hall : Hall

-- a connection as it arrived
pub record ArrivedConn : Type 0 where
  pub kind : DoorKind
  pub peer : Peer
  pub line : Line

-- a connection after it was served
abbrev pub return_of : ArrivedConn → Line → ConnEnd → Return
return_of arrived line end = record { kind = arrived.kind; peer = arrived.peer; line = line; end = end }

-- a connection was served and handed back
pub record ServesOne (tells : Type 0) (drawn : ℕ → Draw) (from to : ℕ) (o n : WorkerState) (arrived : ArrivedConn) (end : ConnEnd) : Type 0 where
  pub later : Line
  pub serves : ServesConn tells drawn from to o.seat n.seat arrived.line (return_of arrived later end)
  pub back : HandsBack o.hall n.hall arrived.kind arrived.peer later end

-- a connection arrived with no byte received or sent, and was served before the rest: it has the first of these entries, and took the draws up to number
-- `between`
pub record ServesNext (tells full : Type 0) (drawn : ℕ → Draw) (from : ℕ) (r : Return) (entries : List TunnelItem) (Rest : ℕ → List TunnelItem → Type 0)
    : Type 0 where
  pub between : ℕ
  pub own : List TunnelItem
  pub others : List TunnelItem
  pub whole : entries ≡ own ++ others
  pub served : ConnServed tells full drawn from between fresh_line r own
  pub rest : Rest between others

-- these connections were served one after another, with these entries and the draws from number `from` up to `to`. `full` says that the history is full
abbrev pub ServesAll : (tells full : Type 0) (drawn : ℕ → Draw) (from to : ℕ) → List Return → List TunnelItem → Type 0
ServesAll tells full drawn from to [] entries = (to ≡ from) × (entries ≡ [])
ServesAll tells full drawn from to (r ∷ rs) entries =
    ServesNext tells full drawn from r entries (λ between others. ServesAll tells full drawn between to rs others)

-- the connections that arrived at the doors were served, each handed back before the next arrived
pub record ServesDoors (tells : Type 0) (key : List ℕ) (stream : ℕ) (o n : WorkerState) (end : WorkerEnd) : Type 0 where
  pub returns : List Return
  pub entries : List TunnelItem
  pub draws : ℕ
  pub serves : ServesAll tells (SeesFull n.seat) (draw_at key stream) 0 draws returns entries
  pub grows : Grows o.seat n.seat entries
  pub moved : Moved o.hall n.hall (map arrival_of returns) returns
  pub limit : n.hall.limit ≡ o.hall.limit
  pub ends : WorkerEnds end o.hall n.hall false (known_by n.seat.pass) returns
