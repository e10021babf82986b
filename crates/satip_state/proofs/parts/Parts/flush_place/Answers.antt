use Rattle.std.proofs.Common.{◌≡◌, true, false, Some, None, sym, subst, rules}
use Rattle.std.specs.List.{slice_get}
use Rattle.satip_state.specs.Kept.{Kept}
use Rattle.satip_state.specs.Standing.{StandsFor}
use Rattle.satip_state.specs.Turns.{is_flushed}
use Rattle.satip_state.proofs.Flushes.{flush_nowhere, flush_unwanted_seat, flush_seat}
use Rattle.satip_state.proofs.parts.Parts.flush_place.Goals as goal

pub returns-in_default-clause-moved : goal.returns-in_default-clause-moved
returns-in_default-clause-moved c config st stands =
    let none : slice_get c.args.self.now.table.seats c.args.place ≡ None = search rules in
    flush_nowhere config c.args.self.now c.args.out.now st stands c.args.only c.args.place none

pub returns-then-not-is_wanted-clause-moved : goal.returns-then-not-is_wanted-clause-moved
returns-then-not-is_wanted-clause-moved c config st stands =
    let got : slice_get c.args.self.now.table.seats c.args.place ≡ Some c.in-Some.seat = search rules in
    let unwanted : is_flushed c.args.only c.in-Some.seat.session.stream c.in-Some.seat.session.http ≡ false = search rules in
    flush_unwanted_seat config c.args.self.now c.args.out.now st stands c.args.only c.args.place c.in-Some.seat got unwanted

pub returns-clause-moved : goal.returns-clause-moved
returns-clause-moved c config st stands =
    let inside : Kept = record {
      clock = c.self.inside.clock;
      stopped = c.self.inside.stopped;
      timeout = c.self.inside.timeout;
      table = c.self.inside.table;
      dues = c.self.inside.timer;
      fronts = c.self.inside.fronts;
      flow = c.self.inside.flow;
    } in
    let same : c.args.self.now ≡ inside = sym c.self.view_is in
    let got : slice_get c.args.self.now.table.seats c.args.place ≡ Some c.in-Some.seat = search rules in
    let wanted : is_flushed c.args.only c.in-Some.seat.session.stream c.in-Some.seat.session.http ≡ true = search rules in
    flush_seat config inside c.args.out.now c.flush-sent.new.out st (subst (λ (v : Kept). StandsFor config v st) same stands) c.self.invariant.table
    c.args.only c.args.place c.in-Some.seat
    (subst (λ (v : Kept). slice_get v.table.seats c.args.place ≡ Some c.in-Some.seat) same got) wanted
    c.flush-sent.new.self c.flush-sent.ensures.flushed c.flush-sent.ensures.sent
