use Rattle.std.proofs.Common.{sym, ◌++◌}
use Rattle.satip_rtsp_interleaved.specs.Frames.{frame}
use Rattle.satip_rtsp_interleaved.proofs.FrameLemmas.{frame_passed}
use Rattle.satip_rtsp_interleaved.proofs.PartLemmas.{same_parts}
use Rattle.satip_rtsp_interleaved.proofs.part_laws.frames_count_nowhere.Goals as goal

pub returns : goal.returns
returns c = record {
  law = λ channel bytes text ms t short parts.
      same_parts text (frame channel bytes ++ text) ms t (sym (frame_passed channel bytes text)) parts;
}
