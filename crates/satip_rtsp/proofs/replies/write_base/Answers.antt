use Rattle.satip_base.proofs.Writing.{◌then◌}
use Rattle.satip_rtsp.proofs.replies.write_base.Goals as goal

pub returns : goal.returns
returns c = record {
  wrote =
      c.write.ensures.wrote then c.write_address.ensures.wrote
      then c.write-2.ensures.wrote;
}
