use Rattle.satip_base.proofs.Writing.{◌then◌}
use Rattle.satip_rtsp.specs.Replies.{options_reply}
use Rattle.satip_rtsp.proofs.replies.write_options.Goals as goal

pub returns : goal.returns
unfolding options_reply
returns c = record {
  wrote =
      c.write_status.ensures.wrote then c.write_cseq.ensures.wrote then c.write.ensures.wrote
      then c.write_session.ensures.wrote then c.write-2.ensures.wrote;
}
