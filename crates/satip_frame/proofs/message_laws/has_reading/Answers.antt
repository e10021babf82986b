use Rattle.satip_frame.proofs.ReadingLemmas.{reading_of}
use Rattle.satip_frame.proofs.message_laws.has_reading.Goals as goal

pub returns : goal.returns
returns c = record { law = reading_of }
