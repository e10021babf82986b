-- The part of an HTTP connection after the start of its session.
use Rattle.std.specs.Prelude.{ℕ, List}
use Rattle.satip_base.specs.declared.identity.SessionId.{SessionId}
use Rattle.satip_plain.specs.Histories.{Item}
use Rattle.satip_world.specs.declared.doors.ConnEnd.{ConnEnd}
use Rattle.satip_worker.specs.Answers.{ends_with_last}
use Rattle.satip_worker.specs.Ends.{LineEnds, ServiceEnds}
use Rattle.satip_worker.specs.HttpRun.{Pulls}
use Rattle.satip_worker.specs.Progress.{ConnState, Makes, Carries}

-- a session was pulled until it ended or was closed
pub record Streams (ct ot : Type 0) (id : SessionId) (o n : ConnState) (end : ConnEnd) : Type 0 where
  pub entries : List Item
  pub received : List ℕ
  pub sent : List ℕ
  pub pulls : Pulls id end entries sent
  pub makes : Makes ot o.stage n.stage entries
  pub carries : Carries ct o.line n.line received sent
  pub line_ends : LineEnds end o.line n.line (ends_with_last entries)
  pub service_ends : ServiceEnds end o.stage.may_want n.stage.known
