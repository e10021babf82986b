-- A fact with at most one proof: that a pass belongs to a cell.
use Rattle.std.proofs.Props.{props}
use Rattle.satip_base.specs.Output.{Output}
use Rattle.satip_plain.specs.declared.answers.Answer.{Answer}
use Rattle.satip_plain.specs.declared.events.Event.{Event}
use Rattle.satip_plain.specs.declared.setting.Setting.{Setting}
use Rattle.satip_plain.specs.Single.{Setting-set}
use Rattle.satip_turn.specs.Shown.{Cell, Shown, IsOf}

pub of_prop : (p : Shown Event Answer Output Setting) (k : Cell Setting) → IsProp (IsOf p k)
of_prop p k = hlevel (props, Setting-set)
