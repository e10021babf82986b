use Rattle.std.proofs.Common.{Bool}
use Rattle.satip_base.specs.declared.identity.SessionId.{SessionId}
use Rattle.satip_plain.specs.Types.{Config}
use Rattle.satip_plain.specs.State.{State}
use Rattle.satip_state.specs.Ending.{EndedMarked}
use Rattle.satip_state.proofs.parts.Parts.end_marked.Given as goal

abbrev pub invariant-loop-slot : goal.invariant-loop-slot
invariant-loop-slot l = record {
  ended : (c : Config) (st : State) (ends : SessionId → Bool) → EndedMarked c l.initial.self st ends l.marks 0 → EndedMarked c l.self st ends l.marks l.slot;
}
