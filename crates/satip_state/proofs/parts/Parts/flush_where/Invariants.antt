use Rattle.std.proofs.Common.{◌+◌, ◌*◌, ◌≤◌}
use Rattle.satip_plain.specs.Types.{Config}
use Rattle.satip_plain.specs.State.{State}
use Rattle.satip_state.specs.Standing.{StandsFor, Moved}
use Rattle.satip_state.specs.Turns.{after_round, first_turns, flush_turn}
use Rattle.satip_state.proofs.parts.Parts.flush_where.Given as goal

abbrev pub invariant-loop-place : goal.invariant-loop-place
invariant-loop-place l = record {
  moved : (c : Config) (st : State) → StandsFor c l.initial.self st
      → Moved c l.self l.initial.out l.out (after_round st (first_turns l.place (flush_turn l.only st.clock) st.sessions));
  bytes : l.initial.out.datagram_spare ≤ l.out.datagram_spare + 1328 * l.place;
  count : l.initial.out.count_spare ≤ l.out.count_spare + l.place;
}
