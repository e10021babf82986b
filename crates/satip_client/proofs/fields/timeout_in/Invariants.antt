use Rattle.std.proofs.Common.{◌≡◌}
use Rattle.satip_tune.specs.Pieces.{pieces_left}
use Rattle.satip_client.specs.Fields.{first_timeout, timeout_of_text}
use Rattle.satip_client.proofs.Bounds.{bytes_left}
use Rattle.satip_client.proofs.fields.timeout_in.Given as goal

-- no parameter so far is a timeout
abbrev pub invariant-loop-left : goal.invariant-loop-left
invariant-loop-left l = timeout_of_text l.value ≡ first_timeout (pieces_left 59 l.left)

abbrev pub decreases-loop-left : goal.decreases-loop-left
decreases-loop-left l = bytes_left l.left
