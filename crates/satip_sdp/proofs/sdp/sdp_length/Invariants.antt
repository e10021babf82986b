use Rattle.std.proofs.Common.{◌≡◌, ◌+◌, ◌*◌, ◌≤◌, ◌++◌, length, take}
use Rattle.std.specs.List.{flat_map}
use Rattle.satip_sdp.specs.Sdp.{head_lines, stream_lines}
use Rattle.satip_sdp.proofs.sdp.sdp_length.Given as goal

abbrev pub invariant-loop-stream : goal.invariant-loop-stream
invariant-loop-stream l = record {
  total : l.total ≡ length (head_lines l.fn.address l.fn.fronts ++ flat_map stream_lines (take l.stream-index l.streams));
  bound : l.total ≤ 100 + 1600 * l.stream-index;
}
