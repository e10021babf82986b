use Rattle.satip_rtsp_interleaved.proofs.PartLemmas.{one_list}
use Rattle.satip_rtsp_interleaved.proofs.part_laws.one_reading.Goals as goal

pub returns : goal.returns
returns c = record { law = one_list }
