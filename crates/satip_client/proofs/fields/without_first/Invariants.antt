use Rattle.std.proofs.Common.{◌≡◌, length}
use Rattle.satip_client.specs.Fields.{without_first_spaces}
use Rattle.satip_client.proofs.fields.without_first.Given as goal

abbrev pub invariant-loop-first : goal.invariant-loop-first
invariant-loop-first l = without_first_spaces l.initial.rest ≡ without_first_spaces l.rest

abbrev pub decreases-loop-first : goal.decreases-loop-first
decreases-loop-first l = length l.rest
