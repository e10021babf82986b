use Rattle.std.proofs.Common.{◌≡◌, ◌∙◌, ◌+◌, ℕ, false, find, ap}
use Rattle.satip_table.specs.Placed.{is_there}
use Rattle.satip_table.specs.Streams.{has_number}
use Rattle.satip_table.proofs.StreamPlaces.{find_none, find_some}
use Rattle.satip_table.proofs.streams.Streams.find.Goals as goal

pub returns-in_default : goal.returns-in_default
returns-in_default c =
    let none : (place : ℕ) → place + 1 ≡ c.args.number → is_there place c.self.inside.order ≡ false = c.in_default.ensures.none in
    let lost = find_none c.self.inside c.self.invariant c.args.number none in
    record { stream = lost.0 ∙ ap (find (has_number c.args.number)) c.self.view_is }

pub returns : goal.returns
returns c =
    let at = c.in-Some.ensures.some in
    record {
      stream = find_some c.self.inside c.self.invariant c.args.number c.in-Some.place at.0 at.1 c.index.result.now c.index.ensures
          ∙ ap (find (has_number c.args.number)) c.self.view_is;
    }
