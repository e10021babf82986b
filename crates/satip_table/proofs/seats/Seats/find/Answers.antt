use Rattle.std.proofs.Common.{◌≡◌, ◌∙◌, ℕ, List, true, None, Some, get_or, find, ap, sym, subst, rules, arith}
use Rattle.satip_table.specs.Seated.{no_seat, seated}
use Rattle.satip_table.specs.Placed.{in_order, is_there}
use Rattle.satip_table.specs.Sessions.{has_id_of}
use Rattle.satip_table.specs.Living.{CountsRise}
use Rattle.satip_table.specs.declared.session.Seat.{Seat}
use Rattle.std.proofs.lemmas.List.{get_or_default}
use Rattle.satip_table.proofs.seats.Seats.find.Goals as goal

pub slot_of-requires-clause-rising : goal.slot_of-requires-clause-rising
slot_of-requires-clause-rising c =
    let rise : (last : ℕ) × CountsRise 0 last (seated c.self.inside) =
    subst (λ (ss : List Seat). (last : ℕ) × CountsRise 0 last ss) (sym c.self.view_is) c.requires.rising in
    subst (λ (items : List Seat). (last : ℕ) × CountsRise 0 last (in_order no_seat items c.as_slice.result.now)) (sym c.deref.ensures.value)
    (subst (λ (order : List ℕ). (last : ℕ) × CountsRise 0 last (in_order no_seat c.self.inside.seats.items order)) (sym c.as_slice.ensures.numbers) rise)

pub returns-in_default : goal.returns-in_default
returns-in_default c =
    let lost : None ≡ find (has_id_of c.args.id) (seated c.self.inside) = search rules in
    record { seat = lost ∙ ap (find (has_id_of c.args.id)) c.self.view_is }

pub returns : goal.returns
returns c =
    let found : Some (get_or c.self.inside.seats.items c.in-Some.slot no_seat) ≡ find (has_id_of c.args.id) (seated c.self.inside) = search rules in
    let there : is_there c.in-Some.slot c.self.inside.order ≡ true = search rules in
    let below = c.self.invariant.within c.in-Some.slot there in
    let read = c.index.ensures ∙ get_or_default c.self.inside.seats.items c.in-Some.slot c.index.result.now no_seat
    (omega (arith, below, c.self.invariant.long)) in
    record { seat = ap Some read ∙ found ∙ ap (find (has_id_of c.args.id)) c.self.view_is }
