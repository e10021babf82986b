use Rattle.std.proofs.Common.{◌≡◌, Some, None, find, sym, subst, rules}
use Rattle.satip_table.specs.Sessions.{has_id_of}
use Rattle.satip_state.specs.Kept.{Kept}
use Rattle.satip_state.specs.Standing.{StandsFor}
use Rattle.satip_state.proofs.Leaving.{found_lives, seat_left, nobody_left}
use Rattle.satip_state.proofs.parts.Parts.end_session.Goals as goal

pub returns-in_default-clause-moved : goal.returns-in_default-clause-moved
returns-in_default-clause-moved c config st stands =
    let none : None ≡ find (has_id_of c.args.id) c.args.self.now.table.seats = search rules in
    nobody_left config c.args.self.now c.args.out.now st stands c.in_default.ensures.table c.in_default.ensures.fronts c.args.id
    (sym (found_lives config c.args.self.now st stands c.args.id None none))

pub returns-in_default-clause-lived : goal.returns-in_default-clause-lived
returns-in_default-clause-lived c config st stands =
    let none : None ≡ find (has_id_of c.args.id) c.args.self.now.table.seats = search rules in
    found_lives config c.args.self.now st stands c.args.id None none

pub returns-clause-lived : goal.returns-clause-lived
returns-clause-lived c config st stands =
    let found : Some c.in-Some.seat ≡ find (has_id_of c.args.id) c.args.self.now.table.seats = search rules in
    found_lives config c.args.self.now st stands c.args.id (Some c.in-Some.seat) found

pub returns-clause-moved : goal.returns-clause-moved
returns-clause-moved c config st stands =
    let inside : Kept = record {
      clock = c.self.inside.clock;
      stopped = c.self.inside.stopped;
      timeout = c.self.inside.timeout;
      table = c.self.inside.table;
      dues = c.self.inside.timer;
      fronts = c.self.inside.fronts;
      flow = c.self.inside.flow;
    } in
    let same : c.args.self.now ≡ inside = sym c.self.view_is in
    let found : find (has_id_of c.args.id) c.args.self.now.table.seats ≡ Some c.in-Some.seat = search rules in
    seat_left config inside c.remove.new.self c.args.out.now c.flush-sent.new.out st
    (subst (λ (v : Kept). StandsFor config v st) same stands) c.self.invariant.table c.self.invariant.fronts
    c.args.id c.in-Some.seat (subst (λ (v : Kept). find (has_id_of c.args.id) v.table.seats ≡ Some c.in-Some.seat) same found)
    c.flush-sent.new.self c.flush-sent.ensures.flushed c.remove.ensures.removed c.flush-sent.ensures.sent
