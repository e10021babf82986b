use Rattle.satip_rtsp_interleaved.proofs.PartLemmas.{whole_parts}
use Rattle.satip_rtsp_interleaved.proofs.part_laws.whole_parts_are_read.Goals as goal

pub returns : goal.returns
returns c = record { law = whole_parts }
