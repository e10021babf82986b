-- Equality of the values that multiplexes are compared by.
use Rattle.std.specs.Prelude.{Bool, true, false}
use Rattle.satip_tune.specs.declared.signal.Pol.{Pol}
use Rattle.satip_tune.specs.declared.signal.Pol.TheVariants.{H, V, L, R}
use Rattle.satip_tune.specs.declared.signal.System.{System}
use Rattle.satip_tune.specs.declared.signal.System.TheVariants.{Dvbs, Dvbs2}

-- whether two polarisations are the same
abbrev pub pol_eq : Pol → Pol → Bool
pol_eq H H = true
pol_eq V V = true
pol_eq L L = true
pol_eq R R = true
pol_eq _ _ = false

-- whether two systems are the same
abbrev pub system_eq : System → System → Bool
system_eq Dvbs Dvbs = true
system_eq Dvbs2 Dvbs2 = true
system_eq _ _ = false
