use Rattle.std.proofs.Common.{refl, List, ℕ, subst}
use Rattle.satip_base.specs.Printed.{Printed}
use Rattle.satip_base.proofs.Writing.{◌then_printed◌}
use Rattle.satip_rtcp.proofs.ReportParts.{alone}
use Rattle.satip_sdp.specs.Sdp.{stream_lines, media_line, connection_line, control_line, format_line}
use Rattle.satip_sdp.proofs.lines.stream_text.Goals as goal

pub returns-clause-lines : goal.returns-clause-lines
unfolding stream_lines media_line connection_line control_line format_line
returns-clause-lines c =
    let last = subst (λ (bs : List ℕ). Printed c.write-6.new.self bs c.write-7.new.self) c.direction.ensures.line c.write-7.ensures.printed in
    alone _ _ _ _ c.new-strip.ensures.empty (
    c.write.ensures.printed then_printed c.write-2.ensures.printed
    then_printed (c.write-3.ensures.printed then_printed c.write_number.ensures.printed then_printed c.write-4.ensures.printed)
    then_printed (c.write-5.ensures.printed then_printed c.ses1_text.ensures.printed then_printed c.write-6.ensures.printed)
    then_printed last
    ) refl
