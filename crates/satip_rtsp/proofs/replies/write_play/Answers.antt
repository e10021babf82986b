use Rattle.satip_base.proofs.Writing.{◌then◌}
use Rattle.satip_rtsp.specs.Replies.{play_reply}
use Rattle.satip_rtsp.proofs.replies.write_play.Goals as goal

pub returns : goal.returns
unfolding play_reply
returns c = record {
  wrote =
      c.write_status.ensures.wrote then c.write_cseq.ensures.wrote then c.write_session.ensures.wrote
      then c.write_rtp_info.ensures.wrote then c.write.ensures.wrote;
}
