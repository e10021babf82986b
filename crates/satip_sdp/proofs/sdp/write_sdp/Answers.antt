use Rattle.std.proofs.Common.{List, ◌++◌, subst, arith}
use Rattle.std.specs.List.{flat_map}
use Rattle.std.proofs.lemmas.List.{take_all}
use Rattle.satip_base.specs.Output.{Wrote}
use Rattle.satip_rtcp.specs.declared.views.StreamView.{StreamView}
use Rattle.satip_sdp.specs.Sdp.{sdp, head_lines, stream_lines}
use Rattle.satip_sdp.proofs.sdp.write_sdp.Goals as goal

wrote : (c : goal.After-loop-stream) → Wrote c.args.out.now (sdp c.args.address c.args.fronts c.args.streams.now) c.loop-stream.out
unfolding sdp
wrote c =
    subst (λ (streams : List StreamView). Wrote c.args.out.now (head_lines c.args.address c.args.fronts ++ flat_map stream_lines streams) c.loop-stream.out)
    (take_all c.loop-stream.stream-index c.args.streams.now c.loop-stream-test.false) c.loop-stream.invariant.wrote

pub returns-clause-wrote : goal.returns-clause-wrote
returns-clause-wrote c = wrote c

-- the description is as long as the room that it took
pub returns-clause-bound : goal.returns-clause-bound
returns-clause-bound c =
    omega (arith, (wrote c).reply_spare, c.loop-stream.invariant.room, c.loop-stream.auto.stream-index-end, c.requires.few)
