-- A served connection: its run, why it ended, and the state of the service, the outlet and the connection then.
use Rattle.std.specs.Prelude.{ℕ, List}
use Rattle.satip_base.specs.declared.network.Peer.{Peer}
use Rattle.satip_plain.specs.Histories.{Item}
use Rattle.satip_world.specs.declared.doors.ConnEnd.{ConnEnd}
use Rattle.satip_world.specs.declared.doors.DoorKind.{DoorKind}
use Rattle.satip_world.specs.declared.doors.DoorKind.TheVariants.{Rtsp, Http}
use Rattle.satip_worker.specs.Drawing.{DrawRange}
use Rattle.satip_worker.specs.Answers.{ends_with_last}
use Rattle.satip_worker.specs.Progress.{ConnState, Makes, Carries}
use Rattle.satip_worker.specs.Ends.{LineEnds, ServiceEnds}
use Rattle.satip_worker.specs.RtspRun.{RtspRun}
use Rattle.satip_worker.specs.HttpRun.{HttpRun}

-- the run of a connection of either kind
abbrev pub ConnRun : DoorKind → Peer → DrawRange → (received sent : List ℕ) → ConnEnd → List Item → Type 0
ConnRun Rtsp peer draws received sent end entries = RtspRun peer draws.drawn draws.from draws.to received sent end entries
ConnRun Http peer draws received sent end entries = HttpRun peer draws.drawn draws.from draws.to received sent end entries

-- a connection was served, with these draws
pub record ServesConn (conn_tells outlet_tells : Type 0) (kind : DoorKind) (peer : Peer) (draws : DrawRange) (o n : ConnState) (end : ConnEnd) : Type 0 where
  pub entries : List Item
  pub received : List ℕ
  pub sent : List ℕ
  pub run : ConnRun kind peer draws received sent end entries
  pub makes : Makes outlet_tells o.stage n.stage entries
  pub carries : Carries conn_tells o.line n.line received sent
  pub line_ends : LineEnds end o.line n.line (ends_with_last entries)
  pub service_ends : ServiceEnds end o.stage.may_want n.stage.known
