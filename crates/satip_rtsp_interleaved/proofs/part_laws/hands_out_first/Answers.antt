use Rattle.satip_rtsp_interleaved.proofs.CallLemmas.{parts_hold}
use Rattle.satip_rtsp_interleaved.proofs.part_laws.hands_out_first.Goals as goal

pub returns : goal.returns
returns c = record { law = parts_hold }
