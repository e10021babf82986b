use Rattle.std.proofs.Common.{length}
use Rattle.satip_plain.specs.Types.{Config}
use Rattle.satip_plain.specs.State.{State}
use Rattle.satip_state.specs.Standing.{StandsFor}
use Rattle.satip_state.proofs.Expiring.{EndedSome}
use Rattle.satip_state.proofs.parts.Parts.end_expired.Given as goal

abbrev pub invariant-loop-slot : goal.invariant-loop-slot
invariant-loop-slot l = record { ended : (c : Config) (st : State) → StandsFor c l.initial.self st → EndedSome c l.self st }

abbrev pub decreases-loop-slot : goal.decreases-loop-slot
decreases-loop-slot l = length l.self.table.seats
