use Rattle.satip_rtsp_interleaved.proofs.PartLemmas.{parts_of}
use Rattle.satip_rtsp_interleaved.proofs.part_laws.has_reading.Goals as goal

pub returns : goal.returns
returns c = record { law = parts_of }
