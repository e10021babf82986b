use Rattle.std.proofs.Common.{◌≡◌, ◌∙◌, ℕ, List, true, None, Some, get_or, find, ap, sym, subst, rules}
use Rattle.satip_table.specs.Seated.{no_seat, seated}
use Rattle.satip_table.specs.Placed.{in_order, is_there}
use Rattle.satip_table.specs.Sessions.{has_id_of}
use Rattle.satip_table.specs.Living.{CountsRise}
use Rattle.satip_table.specs.declared.session.Seat.{Seat}
use Rattle.std.specs.List.{list_any}
use Rattle.satip_table.specs.Sessions.{with_session}
use Rattle.satip_table.specs.Changes.{changed_by}
use Rattle.satip_table.specs.declared.session.Session.{Session}
use Rattle.satip_table.proofs.Listing.{any_none}
use Rattle.satip_table.proofs.SeatPlaces.{changed_at, changed_none, lives_some}
use Rattle.satip_table.proofs.seats.Seats.change.Goals as goal

pub slot_of-requires-clause-rising : goal.slot_of-requires-clause-rising
slot_of-requires-clause-rising c =
    let rise : (last : ℕ) × CountsRise 0 last (seated c.self.inside) =
    subst (λ (ss : List Seat). (last : ℕ) × CountsRise 0 last ss) (sym c.self.view_is) c.requires.rising in
    subst (λ (items : List Seat). (last : ℕ) × CountsRise 0 last (in_order no_seat items c.as_slice.result.now)) (sym c.deref.ensures.value)
    (subst (λ (order : List ℕ). (last : ℕ) × CountsRise 0 last (in_order no_seat c.self.inside.seats.items order)) (sym c.as_slice.ensures.numbers) rise)

pub returns-in_default-clause-lives : goal.returns-in_default-clause-lives
returns-in_default-clause-lives c =
    let lost : None ≡ find (has_id_of c.args.id) (seated c.self.inside) = search rules in
    sym (any_none (has_id_of c.args.id) (seated c.self.inside) (sym lost)) ∙ ap (list_any (has_id_of c.args.id)) c.self.view_is

pub returns-in_default-clause-changed : goal.returns-in_default-clause-changed
returns-in_default-clause-changed c =
    let lost : None ≡ find (has_id_of c.args.id) (seated c.self.inside) = search rules in
    changed_none c.args.id c.args.to c.args.self.now (lost ∙ ap (find (has_id_of c.args.id)) c.self.view_is)

pub returns-clause-lives : goal.returns-clause-lives
returns-clause-lives c =
    let found : Some (get_or c.self.inside.seats.items c.in-Some.slot no_seat) ≡ find (has_id_of c.args.id) (seated c.self.inside) = search rules in
    let there : is_there c.in-Some.slot c.self.inside.order ≡ true = search rules in
    lives_some c.args.id (seated c.self.inside) (get_or c.self.inside.seats.items c.in-Some.slot no_seat) found
    ∙ ap (list_any (has_id_of c.args.id)) c.self.view_is

pub returns-clause-changed : goal.returns-clause-changed
returns-clause-changed c =
    let rise : (last : ℕ) × CountsRise 0 last (seated c.self.inside) =
    subst (λ (ss : List Seat). (last : ℕ) × CountsRise 0 last ss) (sym c.self.view_is) c.requires.rising in
    let found : Some (get_or c.self.inside.seats.items c.in-Some.slot no_seat) ≡ find (has_id_of c.args.id) (seated c.self.inside) = search rules in
    let there : is_there c.in-Some.slot c.self.inside.order ≡ true = search rules in
    changed_at c.self.inside c.self.invariant c.args.id c.args.to c.in-Some.slot c.index_mut.result.now
    (record c.index_mut.result.now { session = c.apply.new.session }) rise found there c.index_mut.ensures.value
    (ap (λ (s : Session). record c.index_mut.result.now { session = s }) c.apply.ensures.changed)
    ∙ ap (with_session c.args.id (changed_by c.args.to)) c.self.view_is
