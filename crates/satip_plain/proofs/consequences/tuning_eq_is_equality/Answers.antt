use Rattle.satip_plain.proofs.TuningLaw.{tuning_eq_decides}
use Rattle.satip_plain.proofs.consequences.tuning_eq_is_equality.Goals as goal

pub returns : goal.returns
returns c = record { law = tuning_eq_decides }
