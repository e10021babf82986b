use Rattle.std.proofs.Common.{◌≡◌, ◌∙◌, ℕ, List, true, None, Some, get_or, find, ap, sym, subst, rules}
use Rattle.satip_table.specs.Seated.{no_seat, seated}
use Rattle.satip_table.specs.Placed.{in_order, is_there}
use Rattle.satip_table.specs.Sessions.{has_id_of}
use Rattle.satip_table.specs.Living.{CountsRise}
use Rattle.satip_table.specs.declared.session.Seat.{Seat}
use Rattle.std.specs.Option.{option_map}
use Rattle.satip_table.specs.Sessions.{without}
use Rattle.std.specs.List.{list_any}
use Rattle.satip_table.proofs.Listing.{any_none}
use Rattle.satip_table.proofs.OrderLaws.{removed_within}
use Rattle.satip_table.proofs.SeatPlaces.{lives_some, removed_at, removed_none}
use Rattle.satip_table.proofs.seats.Seats.remove.Goals as goal

pub slot_of-requires-clause-rising : goal.slot_of-requires-clause-rising
slot_of-requires-clause-rising c =
    let rise : (last : ℕ) × CountsRise 0 last (seated c.self.inside) =
    subst (λ (ss : List Seat). (last : ℕ) × CountsRise 0 last ss) (sym c.self.view_is) c.requires.rising in
    subst (λ (items : List Seat). (last : ℕ) × CountsRise 0 last (in_order no_seat items c.as_slice.result.now)) (sym c.deref.ensures.value)
    (subst (λ (order : List ℕ). (last : ℕ) × CountsRise 0 last (in_order no_seat c.self.inside.seats.items order)) (sym c.as_slice.ensures.numbers) rise)

pub returns-in_default-clause-removed : goal.returns-in_default-clause-removed
returns-in_default-clause-removed c =
    let lost : None ≡ find (has_id_of c.args.id) (seated c.self.inside) = search rules in
    removed_none c.args.id c.args.self.now (lost ∙ ap (find (has_id_of c.args.id)) c.self.view_is)

pub returns-in_default-clause-stream : goal.returns-in_default-clause-stream
returns-in_default-clause-stream c =
    let lost : None ≡ find (has_id_of c.args.id) (seated c.self.inside) = search rules in
    ap (option_map (λ (s : Seat). s.session.stream)) (lost ∙ ap (find (has_id_of c.args.id)) c.self.view_is)

pub returns-in_default-clause-lived : goal.returns-in_default-clause-lived
returns-in_default-clause-lived c =
    let lost : None ≡ find (has_id_of c.args.id) (seated c.self.inside) = search rules in
    sym (any_none (has_id_of c.args.id) (seated c.self.inside) (sym lost)) ∙ ap (list_any (has_id_of c.args.id)) c.self.view_is

pub returns-clause-lived : goal.returns-clause-lived
returns-clause-lived c =
    let found : Some (get_or c.self.inside.seats.items c.in-Some.slot no_seat) ≡ find (has_id_of c.args.id) (seated c.self.inside) = search rules in
    let there : is_there c.in-Some.slot c.self.inside.order ≡ true = search rules in
    lives_some c.args.id (seated c.self.inside) (get_or c.self.inside.seats.items c.in-Some.slot no_seat) found
    ∙ ap (list_any (has_id_of c.args.id)) c.self.view_is

pub returns-clause-removed : goal.returns-clause-removed
returns-clause-removed c =
    let rise : (last : ℕ) × CountsRise 0 last (seated c.self.inside) =
    subst (λ (ss : List Seat). (last : ℕ) × CountsRise 0 last ss) (sym c.self.view_is) c.requires.rising in
    let found : Some (get_or c.self.inside.seats.items c.in-Some.slot no_seat) ≡ find (has_id_of c.args.id) (seated c.self.inside) = search rules in
    let there : is_there c.in-Some.slot c.self.inside.order ≡ true = search rules in
    ap (in_order no_seat c.self.inside.seats.items) c.remove.ensures.removed
    ∙ removed_at c.self.inside c.self.invariant c.args.id c.in-Some.slot rise found there
    ∙ ap (without c.args.id) c.self.view_is

pub invariant_of-self : goal.invariant_of-self
invariant_of-self c = record {
  long = c.self.invariant.long;
  slots = c.self.invariant.slots;
  within = λ slot there. removed_within c.self.inside.order c.in-Some.slot c.self.invariant.within slot (ap (is_there slot) (sym c.remove.ensures.removed)
      ∙ there);
}
