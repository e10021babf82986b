use Rattle.satip_frame.proofs.StreamLemmas.{one_list}
use Rattle.satip_frame.proofs.message_laws.one_reading.Goals as goal

pub returns : goal.returns
returns c = record { law = one_list }
