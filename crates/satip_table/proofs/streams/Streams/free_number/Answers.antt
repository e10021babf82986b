use Rattle.std.proofs.Common.{◌∙◌, ◌+◌, ap, sym, subst}
use Rattle.satip_table.specs.Numbered.{numbered}
use Rattle.satip_table.specs.Living.{NumbersRise}
use Rattle.satip_table.specs.Streams.{gap}
use Rattle.satip_table.proofs.StreamPlaces.{least_place}
use Rattle.satip_table.proofs.streams.Streams.free_number.Goals as goal

pub returns : goal.returns
returns c =
    let rise : NumbersRise 0 (numbered c.self.inside) = subst (NumbersRise 0) (sym c.self.view_is) c.requires.rising in
    record {
      number = least_place c.self.inside c.self.invariant rise c.free.result c.free.ensures.free c.free.ensures.least
          ∙ ap (λ ss. gap 1 ss + 1) c.self.view_is;
    }
