use Rattle.std.proofs.Common.{◌∙◌, Bool, cond, Some, None, Option, ap, sym}
use Rattle.satip_plain.specs.Types.{Tuning}
use Rattle.satip_plain.specs.Streams.{other_than}
use Rattle.satip_state.proofs.Same.{derived_same}
use Rattle.satip_state.proofs.asking.other_than.Goals as goal

abbrev unless : Tuning → Bool → Option Tuning
unless new b = cond b None (Some new)

pub returns-then-eq : goal.returns-then-eq
returns-then-eq c =
    let same = c.if-eq.ensures ∙ derived_same c.in-Some.old c.args.new in
    record { other = ap (unless c.args.new) same ∙ ap (λ (old : Option Tuning). other_than old c.args.new) (sym c.in-Some.is) }

pub returns-else-eq : goal.returns-else-eq
returns-else-eq c =
    let same = c.if-eq.ensures ∙ derived_same c.in-Some.old c.args.new in
    record { other = ap (unless c.args.new) same ∙ ap (λ (old : Option Tuning). other_than old c.args.new) (sym c.in-Some.is) }
