use Rattle.std.proofs.Common.{◌∙◌, ap, sym, ◌++◌, ◌∷◌, [], set}
use Rattle.satip_table.specs.Seated.{no_seat}
use Rattle.satip_table.specs.Placed.{in_order}
use Rattle.satip_table.specs.declared.session.Seat.{Seat}
use Rattle.std.specs.List.{list_any}
use Rattle.satip_table.specs.Sessions.{has_slot}
use Rattle.satip_table.proofs.SeatPlaces.{added, free_in}
use Rattle.satip_table.proofs.seats.Seats.add.Goals as goal

pub returns-clause-free : goal.returns-clause-free
returns-clause-free c = ap (list_any (has_slot c.free-slot.result)) (sym c.self.view_is)
    ∙ free_in c.self.inside c.self.invariant c.free-slot.result c.free-slot.ensures.free

pub returns-clause-last : goal.returns-clause-last
returns-clause-last c =
    let seat : Seat = record { slot = c.index_mut.result.now.slot; session = c.args.session } in
    ap (in_order no_seat (set c.self.inside.seats.items c.free-slot.result seat)) c.push.ensures.pushed
    ∙ added c.self.inside c.self.invariant c.free-slot.result c.args.session c.index_mut.result.now c.free-slot.ensures.within c.free-slot.ensures.free
    c.index_mut.ensures.value
    ∙ ap (λ ss. ss ++ record { slot = c.free-slot.result; session = c.args.session } ∷ []) c.self.view_is
