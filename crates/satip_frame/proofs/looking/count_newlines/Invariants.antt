use Rattle.std.proofs.Common.{◌≡◌, drop}
use Rattle.satip_frame.specs.Stream.{skip_newlines}
use Rattle.satip_frame.proofs.looking.count_newlines.Given as goal

-- the bytes so far are skipped
abbrev pub invariant-loop-i : goal.invariant-loop-i
invariant-loop-i l = skip_newlines (drop l.i l.text) ≡ skip_newlines l.text
