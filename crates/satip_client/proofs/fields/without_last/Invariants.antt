use Rattle.std.proofs.Common.{◌≡◌, length}
use Rattle.satip_client.specs.Fields.{without_last_spaces}
use Rattle.satip_client.proofs.fields.without_last.Given as goal

abbrev pub invariant-loop-last : goal.invariant-loop-last
invariant-loop-last l = without_last_spaces l.initial.rest ≡ without_last_spaces l.rest

abbrev pub decreases-loop-last : goal.decreases-loop-last
decreases-loop-last l = length l.rest
