use Rattle.std.proofs.Common.{◌≡◌, ◌∙◌, true, false, find, ap, rules}
use Rattle.satip_table.specs.Placed.{is_there}
use Rattle.satip_table.specs.Sessions.{has_slot}
use Rattle.satip_table.proofs.SeatPlaces.{at_none, at_some}
use Rattle.satip_table.proofs.seats.Seats.at.Goals as goal

pub returns-then-not-has : goal.returns-then-not-has
returns-then-not-has c =
    let free : is_there c.args.slot c.self.inside.order ≡ false = search rules in
    record { seat = at_none c.self.inside c.self.invariant c.args.slot free ∙ ap (find (has_slot c.args.slot)) c.self.view_is }

pub returns : goal.returns
returns c =
    let there : is_there c.args.slot c.self.inside.order ≡ true = search rules in
    record {
      seat = at_some c.self.inside c.self.invariant c.args.slot there c.index.result.now c.index.ensures
          ∙ ap (find (has_slot c.args.slot)) c.self.view_is;
    }
