use Rattle.satip_base.proofs.Writing.{◌then◌}
use Rattle.satip_rtsp.specs.Replies.{describe_head}
use Rattle.satip_rtsp.proofs.replies.write_describe.Goals as goal

pub returns : goal.returns
unfolding describe_head
returns c = record {
  wrote =
      c.write_status.ensures.wrote then c.write_cseq.ensures.wrote then c.write.ensures.wrote
      then c.write_base.ensures.wrote then c.write_number_line.ensures.wrote then c.write-2.ensures.wrote;
}
