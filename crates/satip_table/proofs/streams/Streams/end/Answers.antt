use Rattle.std.proofs.Common.{◌≡◌, ◌∙◌, ◌+◌, ℕ, false, ap, sym, not, filter}
use Rattle.satip_table.specs.Placed.{is_there}
use Rattle.satip_table.specs.Streams.{has_number, is_live}
use Rattle.satip_table.specs.Placed.{in_order}
use Rattle.satip_table.specs.Numbered.{no_stream}
use Rattle.satip_table.proofs.Listing.{filter_none}
use Rattle.satip_table.proofs.OrderLaws.{removed_within}
use Rattle.satip_table.proofs.StreamPlaces.{ended_at, find_none}
use Rattle.satip_table.proofs.streams.Streams.end.Goals as goal

pub returns-in_default : goal.returns-in_default
returns-in_default c =
    let none : (place : ℕ) → place + 1 ≡ c.args.number → is_there place c.self.inside.order ≡ false = c.in_default.ensures.none in
    let lost = find_none c.self.inside c.self.invariant c.args.number none in
    record { ended = sym (filter_none (has_number c.args.number) c.args.self.now (sym (lost.1 ∙ ap (λ ss. is_live ss c.args.number) c.self.view_is))) }

pub returns : goal.returns
returns c =
    let at = c.in-Some.ensures.some in
    record {
      ended = ap (in_order no_stream c.self.inside.streams.items) c.remove.ensures.removed
          ∙ ended_at c.self.inside c.self.invariant c.args.number c.in-Some.place at.0
          ∙ ap (filter (λ stream. not (has_number c.args.number stream))) c.self.view_is;
    }

pub invariant_of-self : goal.invariant_of-self
invariant_of-self c = record {
  long = c.self.invariant.long;
  numbers = c.self.invariant.numbers;
  within = λ place there. removed_within c.self.inside.order c.in-Some.place c.self.invariant.within place (ap (is_there place) (sym c.remove.ensures.removed)
      ∙ there);
}
