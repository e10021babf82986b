use Rattle.satip_laws.proofs.PayloadLaws.{numbers_from_first}
use Rattle.satip_laws.proofs.history_laws.numbers_count_from_first.Goals as goal

pub returns : goal.returns
returns c = record { law = numbers_from_first }
