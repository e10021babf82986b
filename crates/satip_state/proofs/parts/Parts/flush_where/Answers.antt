use Rattle.std.proofs.Common.{◌≡◌, ◌≤◌, length, subst, arith}
use Rattle.satip_state.specs.Kept.{Kept}
use Rattle.satip_state.specs.Turns.{after_round, first_turns, flush_turn}
use Rattle.satip_state.proofs.Moving.{flushed_more, turned_all, as_many}
use Rattle.satip_state.proofs.parts.Parts.flush_where.Goals as goal

pub loop-place-preserved : goal.loop-place-preserved
loop-place-preserved c = record {
  moved = λ config st stands.
      let first = c.loop-place.invariant.moved config st stands in
      flushed_more config c.loop-place.self c.flush_place.new.self c.args.out.now c.loop-place.out c.flush_place.new.out st c.args.only c.loop-place.place first
      (c.flush_place.ensures.moved config (after_round st (first_turns c.loop-place.place (flush_turn c.args.only st.clock) st.sessions)).state first.stands);
  bytes = omega (arith, c.loop-place.invariant.bytes, c.flush_place.ensures.bytes_spare);
  count = omega (arith, c.loop-place.invariant.count, c.flush_place.ensures.count_spare);
}

pub returns-clause-moved : goal.returns-clause-moved
returns-clause-moved c config st stands =
    let many : length st.sessions ≡ length c.args.self.now.table.seats = as_many config c.args.self.now st stands in
    let counted : c.count-place-end.result ≡ length c.args.self.now.table.seats =
    subst (λ (v : Kept). c.count-place-end.result ≡ length v.table.seats) c.self.view_is c.count-place-end.ensures.count in
    let over : length st.sessions ≤ c.loop-place.place = omega (arith, many, counted) in
    turned_all config c.loop-place.self c.args.out.now c.loop-place.out st (flush_turn c.args.only st.clock) c.loop-place.place over
    (c.loop-place.invariant.moved config st stands)
