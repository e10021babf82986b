use Rattle.std.proofs.Common.{take}
use Rattle.satip_base.specs.Lists.{Each}
use Rattle.satip_plain.specs.Values.{IsMultiplex}
use Rattle.satip_plain.proofs.setting_values.known_muxes.Given as goal

abbrev pub invariant-loop-mux : goal.invariant-loop-mux
invariant-loop-mux l = Each IsMultiplex (take l.mux-index l.muxes)
