use Rattle.std.proofs.Common.{take}
use Rattle.satip_base.specs.Lists.{Each}
use Rattle.satip_plain.specs.Values.{IsFrontEnd}
use Rattle.satip_plain.proofs.setting_values.known_fronts.Given as goal

abbrev pub invariant-loop-front : goal.invariant-loop-front
invariant-loop-front l = Each IsFrontEnd (take l.front-index l.fronts)
