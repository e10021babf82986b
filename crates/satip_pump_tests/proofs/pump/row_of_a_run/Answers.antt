use Rattle.std.proofs.Common.{refl, inl, inr}
use Rattle.satip_pump_tests.proofs.pump.row_of_a_run.Goals as goal

pub returns : goal.returns
returns c = record { run = (inl (c.args.a, refl, refl), (0, (inr refl, (0, (refl, (0, (refl, refl), refl)), refl)), refl)) }
