-- At most one proof exists that a pass is of a cell.
use Rattle.std.proofs.Props.{props}
use Rattle.satip_base.specs.Output.{Output}
use Rattle.satip_plain.specs.declared.setting.Setting.{Setting}
use Rattle.satip_plain.specs.Single.{Setting-set}
use Rattle.satip_interleave.specs.declared.events.TunnelAnswer.{TunnelAnswer}
use Rattle.satip_interleave.specs.declared.events.TunnelEvent.{TunnelEvent}
use Rattle.satip_turn.specs.Shown.{Cell, Shown, IsOf}

-- any two such proofs are the same
pub of_prop : (p : Shown TunnelEvent TunnelAnswer Output Setting) (k : Cell Setting) → IsProp (IsOf p k)
of_prop p k = hlevel (props, Setting-set)
