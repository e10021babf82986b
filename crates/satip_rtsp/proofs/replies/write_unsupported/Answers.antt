use Rattle.satip_base.proofs.Writing.{◌then◌}
use Rattle.satip_rtsp.specs.Replies.{unsupported_reply}
use Rattle.satip_rtsp.proofs.replies.write_unsupported.Goals as goal

pub returns : goal.returns
unfolding unsupported_reply
returns c = record {
  wrote = rw (← c.bytes.ensures.bytes) (
      c.write_status.ensures.wrote then c.write_cseq.ensures.wrote then c.write.ensures.wrote
      then c.write-2.ensures.wrote then c.write-3.ensures.wrote);
}
