use Rattle.std.proofs.Common.{◌≡◌, ◌∙◌, ◌+◌, ℕ, false, map, refl, ap}
use Rattle.satip_table.specs.Placed.{is_there}
use Rattle.satip_table.specs.Streams.{is_live}
use Rattle.satip_table.specs.Owners.{owned_where}
use Rattle.satip_table.proofs.StreamPlaces.{find_none, owned_at, owned_none}
use Rattle.satip_table.proofs.streams.Streams.own.Goals as goal

pub returns-in_default : goal.returns-in_default
returns-in_default c =
    let none : (place : ℕ) → place + 1 ≡ c.args.number → is_there place c.self.inside.order ≡ false = c.in_default.ensures.none in
    let lost = find_none c.self.inside c.self.invariant c.args.number none in
    record { owned = owned_none c.args.owner c.args.number c.args.self.now (lost.1 ∙ ap (λ ss. is_live ss c.args.number) c.self.view_is) }

pub returns : goal.returns
returns c =
    let at = c.in-Some.ensures.some in
    record {
      owned = owned_at c.self.inside c.self.invariant c.args.owner c.args.number c.in-Some.place at.0 at.1 c.index_mut.result.now
          (record c.index_mut.result.now { owner = c.args.owner }) c.index_mut.ensures.value refl
          ∙ ap (map (owned_where c.args.number c.args.owner)) c.self.view_is;
    }
