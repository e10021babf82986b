use Rattle.satip_laws.proofs.ReadLaws.{numbers_from_draw}
use Rattle.satip_laws.proofs.theorems.numbers_from_draw.Goals as goal

pub returns : goal.returns
returns c = record { law = numbers_from_draw }
