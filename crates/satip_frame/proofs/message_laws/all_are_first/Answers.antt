use Rattle.satip_frame.proofs.StreamLemmas.{all_lead}
use Rattle.satip_frame.proofs.message_laws.all_are_first.Goals as goal

pub returns : goal.returns
returns c = record { law = all_lead }
