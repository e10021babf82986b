use Rattle.satip_audit.proofs.OneReading.{one_thing}
use Rattle.satip_audit.proofs.verdict_law.journals_say_one_thing.Goals as goal

pub returns : goal.returns
returns c = record { one = one_thing }
