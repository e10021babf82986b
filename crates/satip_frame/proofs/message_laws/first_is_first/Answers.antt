use Rattle.satip_frame.proofs.StreamLemmas.{leads_first}
use Rattle.satip_frame.proofs.message_laws.first_is_first.Goals as goal

pub returns : goal.returns
returns c = record { law = λ text ms ns t first messages. leads_first text ms ns first.0 t first.1 messages }
