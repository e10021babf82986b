use Rattle.satip_base.proofs.Writing.{◌then◌}
use Rattle.satip_rtsp.proofs.replies.write_transport.Goals as goal

pub returns : goal.returns
returns c = record {
  wrote =
      c.write.ensures.wrote then c.write_number.ensures.wrote then c.write-2.ensures.wrote
      then c.write_number-2.ensures.wrote then c.write-3.ensures.wrote;
}
