-- How a serve is told.
use Rattle.std.proofs.Common.{◌≡◌, List, ℕ, subst}
use Rattle.satip_config.specs.declared.fault.ConfigFault.{ConfigFault}
use Rattle.satip_config.specs.Lines.{configuration_line}
use Rattle.satip_config.specs.Outcomes.{line_of}
use Rattle.satip_tunnel_serve.specs.Serve.declared.command.ServingEnd.{ServingEnd}
use Rattle.satip_tunnel_serve.specs.Serve.declared.command.ServingEnd.TheVariants as serving
use Rattle.satip_tunnel_serve.specs.Serve.Statuses.{outcome_of}

-- the configuration's fault is told
pub fault_line : (Line : List ℕ → Type 0) (end : ServingEnd) → Line (line_of (outcome_of end)) → (fault : ConfigFault) → end ≡ serving.Configuration fault
    → Line (configuration_line fault)
fault_line Line end line fault is = let L : ServingEnd → Type 0 = λ e. Line (line_of (outcome_of e)) in subst L is line
