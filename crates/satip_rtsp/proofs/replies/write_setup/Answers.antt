use Rattle.satip_base.proofs.Writing.{◌then◌}
use Rattle.satip_rtsp.specs.Replies.{setup_reply}
use Rattle.satip_rtsp.proofs.replies.write_setup.Goals as goal

pub returns : goal.returns
unfolding setup_reply
returns c = record {
  wrote =
      c.write_status.ensures.wrote then c.write_cseq.ensures.wrote then c.write_lasting_session.ensures.wrote
      then c.write_transport.ensures.wrote then c.write_number_line.ensures.wrote then c.write.ensures.wrote;
}
