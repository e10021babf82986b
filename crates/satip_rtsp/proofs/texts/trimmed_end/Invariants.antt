use Rattle.std.proofs.Common.{◌≡◌, length}
use Rattle.satip_rtsp.specs.Blanks.{end_trimmed}
use Rattle.satip_rtsp.proofs.texts.trimmed_end.Given as goal

abbrev pub invariant-loop-last : goal.invariant-loop-last
invariant-loop-last l = end_trimmed l.initial.rest ≡ end_trimmed l.rest

abbrev pub decreases-loop-last : goal.decreases-loop-last
decreases-loop-last l = length l.rest
