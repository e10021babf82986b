use Rattle.std.proofs.Common.{refl}
use Rattle.satip_base.proofs.Writing.{◌then_printed◌}
use Rattle.satip_rtcp.proofs.ReportParts.{alone}
use Rattle.satip_sdp.specs.Sdp.{head_lines, version_line, origin_line, name_line, time_line}
use Rattle.satip_sdp.proofs.lines.head_text.Goals as goal

pub returns-clause-lines : goal.returns-clause-lines
unfolding head_lines version_line origin_line name_line time_line
returns-clause-lines c =
    alone _ _ _ _ c.new-strip.ensures.empty (
    c.write.ensures.printed
    then_printed (c.write-2.ensures.printed then_printed c.write_address.ensures.printed then_printed c.write-3.ensures.printed)
    then_printed (c.write-4.ensures.printed then_printed c.write_number.ensures.printed then_printed c.write-5.ensures.printed)
    then_printed c.write-6.ensures.printed
    ) refl
