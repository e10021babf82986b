use Rattle.satip_frame.proofs.StreamLemmas.{list_grows, broken_stays}
use Rattle.satip_frame.proofs.message_laws.kept_by_more_bytes.Goals as goal

pub returns : goal.returns
returns c = record { law = record { messages = list_grows; broken = broken_stays } }
