-- Rows that compute.
use Rattle.std.proofs.Common.{refl}
use Rattle.std.specs.Fmt.{digits}
use Rattle.satip_base.specs.Numbers.{number_of}
use Rattle.satip_rtsp_interleaved.specs.Turned.{turned, told_ports, channel_line}
use Rattle.satip_rtsp_interleaved.proofs.channel_examples.worked_replies.Goals as goal

pub returns-clause-setup : goal.returns-clause-setup
unfolding turned told_ports channel_line number_of digits
returns-clause-setup c = refl

pub returns-clause-greatest : goal.returns-clause-greatest
unfolding turned told_ports channel_line number_of digits
returns-clause-greatest c = refl

pub returns-clause-line : goal.returns-clause-line
unfolding turned told_ports channel_line number_of digits
returns-clause-line c = refl
