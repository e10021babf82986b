use Rattle.satip_laws.proofs.ReadLaws.{ssrc_of_draw_tells}
use Rattle.satip_laws.proofs.theorems.ssrc_of_draw_tells.Goals as goal

pub returns : goal.returns
returns c = record { law = ssrc_of_draw_tells }
