use Rattle.satip_laws.proofs.PayloadLaws.{ssrc_tells}
use Rattle.satip_laws.proofs.history_laws.ssrc_tells.Goals as goal

pub returns : goal.returns
returns c = record { law = ssrc_tells }
