use Rattle.std.proofs.Common.{◌≡◌, List, length, Some, None, find, is_some, sym, ap, ◌∙◌, rules, arith}
use Rattle.satip_table.specs.declared.session.Seat.{Seat}
use Rattle.satip_table.specs.Sessions.{has_id_of}
use Rattle.satip_table.proofs.Listing.{find_any, filter_none, length-filter-lt}
use Rattle.std.proofs.lemmas.Bool.{false≢true}
use Rattle.satip_state.proofs.Leaving.{found_lives, seat_gone, nobody_gone}
use Rattle.satip_state.proofs.parts.Parts.drop_session.Goals as goal

pub returns-in_default-clause-ended : goal.returns-in_default-clause-ended
returns-in_default-clause-ended c config st stands =
    let none : None ≡ find (has_id_of c.args.id) c.args.self.now.table.seats = search rules in
    nobody_gone config c.args.self.now st stands c.in_default.ensures.table c.in_default.ensures.fronts c.args.id
    (sym (found_lives config c.args.self.now st stands c.args.id None none))

pub returns-in_default-clause-found : goal.returns-in_default-clause-found
returns-in_default-clause-found c =
    let none : None ≡ find (has_id_of c.args.id) c.args.self.now.table.seats = search rules in
    ap is_some none ∙ find_any (has_id_of c.args.id) c.args.self.now.table.seats

pub returns-in_default-clause-seats : goal.returns-in_default-clause-seats
returns-in_default-clause-seats c =
    let none : None ≡ find (has_id_of c.args.id) c.args.self.now.table.seats = search rules in
    let held_none = sym (find_any (has_id_of c.args.id) c.args.self.now.table.seats) ∙ ap is_some (sym none) in
    sym (filter_none (has_id_of c.args.id) c.args.self.now.table.seats held_none)

pub returns-in_default-clause-fewer : goal.returns-in_default-clause-fewer
returns-in_default-clause-fewer c lives =
    let none : None ≡ find (has_id_of c.args.id) c.args.self.now.table.seats = search rules in
    absurd (false≢true (ap is_some none ∙ find_any (has_id_of c.args.id) c.args.self.now.table.seats ∙ lives))

pub returns-clause-ended : goal.returns-clause-ended
returns-clause-ended c config st stands =
    let found : find (has_id_of c.args.id) c.args.self.now.table.seats ≡ Some c.in-Some.seat = search rules in
    seat_gone config c.args.self.now c.remove.new.self st stands c.in-Some.ensures.table c.in-Some.ensures.fronts c.args.id c.in-Some.seat found
    c.remove.ensures.removed

pub returns-clause-found : goal.returns-clause-found
returns-clause-found c =
    let found : Some c.in-Some.seat ≡ find (has_id_of c.args.id) c.args.self.now.table.seats = search rules in
    ap is_some found ∙ find_any (has_id_of c.args.id) c.args.self.now.table.seats

pub returns-clause-fewer : goal.returns-clause-fewer
returns-clause-fewer c lives =
    let shorter = length-filter-lt (has_id_of c.args.id) c.args.self.now.table.seats lives in
    let same = ap (λ (seats : List Seat). length seats) c.remove.ensures.removed.seats in
    omega (arith, shorter, same)
