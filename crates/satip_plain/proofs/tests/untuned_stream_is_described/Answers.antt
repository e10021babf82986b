use Rattle.std.proofs.Common.{refl}
use Rattle.std.specs.Fmt.{digits}
use Rattle.satip_sdp.specs.Sdp.{sdp, head_lines, version_line, origin_line, name_line, time_line, media_line, connection_line, control_line, format_line, direction_line, stream_lines}
use Rattle.satip_sdp.specs.Rtcp.Ses1.{ses1, signal_text}
use Rattle.satip_pids.specs.Texts.{pids_text, listed_text}
use Rattle.satip_base.specs.Texts.{address_text}
use Rattle.satip_plain.proofs.tests.untuned_stream_is_described.Goals as goal

pub returns-clause-text : goal.returns-clause-text
unfolding digits sdp head_lines version_line origin_line name_line time_line media_line connection_line control_line format_line direction_line stream_lines
    ses1 signal_text pids_text listed_text address_text
returns-clause-text c = refl
