use Rattle.satip_base.proofs.Writing.{◌then_printed◌}
use Rattle.satip_rtcp.specs.Ses1.{ses1}
use Rattle.satip_rtcp.proofs.ses1.ses1_text.Goals as goal

pub returns-clause-printed : goal.returns-clause-printed
unfolding ses1
returns-clause-printed c =
    c.write.ensures.printed then_printed c.write_signal.ensures.printed then_printed c.write-2.ensures.printed then_printed c.print.ensures.printed
