use Rattle.satip_frame.proofs.StreamLemmas.{first_fit}
use Rattle.satip_frame.proofs.message_laws.no_more_than_bytes.Goals as goal

pub returns : goal.returns
returns c = record { law = λ text ms first. first_fit text ms first.0 first.1 }
