use Rattle.satip_rtsp_interleaved.proofs.PartLemmas.{leads_first}
use Rattle.satip_rtsp_interleaved.proofs.part_laws.first_is_first.Goals as goal

pub returns : goal.returns
returns c = record { law = λ text ms ns t first parts. leads_first text ms ns first.0 first.1 t first.2 parts }
