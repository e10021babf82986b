use Rattle.std.proofs.Common.{List, length, ◌++◌, ap, ◌∙◌}
use Rattle.std.specs.List.{flat_map}
use Rattle.std.proofs.lemmas.List.{take_all}
use Rattle.satip_rtcp.specs.declared.views.StreamView.{StreamView}
use Rattle.satip_sdp.specs.Sdp.{sdp, head_lines, stream_lines}
use Rattle.satip_sdp.proofs.sdp.sdp_length.Goals as goal

pub returns-clause-length : goal.returns-clause-length
unfolding sdp
returns-clause-length c =
    c.loop-stream.invariant.total
    ∙ ap (λ (streams : List StreamView). length (head_lines c.args.address c.args.fronts ++ flat_map stream_lines streams))
    (take_all c.loop-stream.stream-index c.args.streams.now c.loop-stream-test.false)
