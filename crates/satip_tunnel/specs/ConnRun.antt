-- A connection of a tunnel's worker: RTSP by the run of the tunnel, HTTP by that of every worker.
use Rattle.std.specs.Prelude.{◌≡◌, ℕ, ◌+◌, List, [], length}
use Rattle.satip_base.specs.declared.identity.Draw.{Draw}
use Rattle.satip_interleave.specs.Calling.{outers}
use Rattle.satip_interleave.specs.Histories.{TunnelItem, inners}
use Rattle.satip_tunnel.specs.declared.ends.TunnelEnd.{TunnelEnd}
use Rattle.satip_tunnel.specs.declared.ends.TunnelEnd.TheVariants.{Full, Broken, Done, ReadFault, WriteFault, Spent}
use Rattle.satip_tunnel.specs.Ends.{LineEnds as TunnelLineEnds}
use Rattle.satip_tunnel.specs.Requests.{draws_from}
use Rattle.satip_tunnel.specs.Seats.{Seat, Grows, SeesFull}
use Rattle.satip_tunnel.specs.TunnelRun.{TunnelRun}
use Rattle.satip_worker.specs.Answers.{ends_with_last}
use Rattle.satip_worker.specs.Ends.{LineEnds}
use Rattle.satip_worker.specs.HttpRun.{HttpRun}
use Rattle.satip_worker.specs.Progress.{Carries}
use Rattle.satip_world.specs.declared.doors.ConnEnd.{ConnEnd}
use Rattle.satip_world.specs.declared.doors.ConnEnd.TheVariants.{Done as conn_done, ReadFault as conn_unread, WriteFault as conn_lost, Spent as conn_spent}
use Rattle.satip_world.specs.declared.doors.DoorKind.{DoorKind}
use Rattle.satip_world.specs.declared.doors.DoorKind.TheVariants.{Rtsp, Http}
use Rattle.satip_world.specs.Halls.{Return}
use Rattle.satip_world.specs.Lines.{Line}

-- how a connection of a tunnel is handed back: as done if it was given no lane, or if its lane was broken
abbrev pub conn_end : TunnelEnd → ConnEnd
conn_end Full = conn_done
conn_end Broken = conn_done
conn_end Done = conn_done
conn_end ReadFault = conn_unread
conn_end WriteFault = conn_lost
conn_end Spent = conn_spent

-- an RTSP connection had these entries, and took the draws from number `from` up to `to`. Its line was `l`, and `r` is how it was handed back. `full` says that
-- the history is full
pub record RtspServed (tells full : Type 0) (drawn : ℕ → Draw) (from to : ℕ) (l : Line) (r : Return) (entries : List TunnelItem) : Type 0 where
  pub tunnel_end : TunnelEnd
  pub end_is : r.end ≡ conn_end tunnel_end
  pub draws : List Draw
  pub draws_are : draws ≡ draws_from drawn from (length draws)
  pub to_is : to ≡ from + length draws
  pub received : List ℕ
  pub sent : List ℕ
  pub run : TunnelRun draws received sent full tunnel_end entries
  pub carries : Carries tells l r.line received sent
  pub line_ends : TunnelLineEnds tunnel_end l r.line (ends_with_last (inners entries))

-- an HTTP connection had these entries, all of them the server's
pub record HttpServed (tells : Type 0) (drawn : ℕ → Draw) (from to : ℕ) (l : Line) (r : Return) (entries : List TunnelItem) : Type 0 where
  pub alone : outers entries ≡ []
  pub received : List ℕ
  pub sent : List ℕ
  pub run : HttpRun r.peer drawn from to received sent r.end (inners entries)
  pub carries : Carries tells l r.line received sent
  pub line_ends : LineEnds r.end l r.line (ends_with_last (inners entries))

-- a fact for each kind of connection
abbrev pub MatchKind : DoorKind → (rtsp http : Type 0) → Type 0
MatchKind Rtsp rtsp http = rtsp
MatchKind Http rtsp http = http

-- the connection of either kind
abbrev pub ConnServed : (tells full : Type 0) → (drawn : ℕ → Draw) (from to : ℕ) → Line → Return → List TunnelItem → Type 0
ConnServed tells full drawn from to l r entries =
    MatchKind r.kind (RtspServed tells full drawn from to l r entries) (HttpServed tells drawn from to l r entries)

-- a connection was served, and its caller made these entries
pub record ServesConn (tells : Type 0) (drawn : ℕ → Draw) (from to : ℕ) (o n : Seat) (l : Line) (r : Return) : Type 0 where
  pub entries : List TunnelItem
  pub served : ConnServed tells (SeesFull n) drawn from to l r entries
  pub grows : Grows o n entries
