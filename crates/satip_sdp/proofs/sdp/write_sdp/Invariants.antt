use Rattle.std.proofs.Common.{◌+◌, ◌*◌, ◌≤◌, ◌++◌, take}
use Rattle.std.specs.List.{flat_map}
use Rattle.satip_base.specs.Output.{Wrote}
use Rattle.satip_sdp.specs.Sdp.{head_lines, stream_lines}
use Rattle.satip_sdp.proofs.sdp.write_sdp.Given as goal

abbrev pub invariant-loop-stream : goal.invariant-loop-stream
invariant-loop-stream l = record {
  wrote : Wrote l.fn.out (head_lines l.fn.address l.fn.fronts ++ flat_map stream_lines (take l.stream-index l.streams)) l.out;
  room : l.fn.out.reply_spare ≤ l.out.reply_spare + 100 + 1600 * l.stream-index;
}
