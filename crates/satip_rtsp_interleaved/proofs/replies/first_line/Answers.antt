use Rattle.std.proofs.Common.{◌∷◌, ap, ◌∙◌}
use Rattle.satip_tune.specs.Pieces.{pieces_left}
use Rattle.satip_rtsp_interleaved.proofs.replies.first_line.Goals as goal

pub returns-in_default-None-clause-last : goal.returns-in_default-None-clause-last
returns-in_default-None-clause-last c = record {
  piece = c.cut.result.0.now;
  pieces = c.cut.ensures.pieces ∙ ap (λ left. c.cut.result.0.now ∷ pieces_left 10 left) c.in_default-None.is-1;
}
