use Rattle.std.proofs.Common.{◌≡◌, ◌≤◌, ◌++◌, length, vec_capacity}
use Rattle.satip_rtsp_interleaved.specs.Turned.{turned}
use Rattle.satip_rtsp_interleaved.proofs.replies.append_turned.Given as goal

-- the lines so far were appended, and there is the same room
abbrev pub invariant-loop-line : goal.invariant-loop-line
invariant-loop-line l = record {
  begun : turned l.reply ≡ l.text.items ++ turned l.left;
  room : 262144 ≤ vec_capacity l.text;
}

abbrev pub decreases-loop-line : goal.decreases-loop-line
decreases-loop-line l = length l.left
