use Rattle.satip_base.proofs.Writing.{◌and_extended◌}
use Rattle.satip_rtcp.proofs.report.extend_header.Goals as goal

pub returns : goal.returns
returns c = record { extended = c.extend.ensures.extended and_extended c.extend_half.ensures.extended }
