use Rattle.satip_rtsp_interleaved.proofs.PartLemmas.{list_grows, broken_stays}
use Rattle.satip_rtsp_interleaved.proofs.part_laws.kept_by_more_bytes.Goals as goal

pub returns : goal.returns
returns c = record { law = record { messages = list_grows; broken = broken_stays } }
