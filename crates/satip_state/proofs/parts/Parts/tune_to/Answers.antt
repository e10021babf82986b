use Rattle.std.proofs.Common.{Option, sym, subst}
use Rattle.std.specs.Option.{option_map_or}
use Rattle.satip_plain.specs.Types.{Tuning}
use Rattle.satip_plain.specs.Sending.{settle}
use Rattle.satip_plain.specs.Streams.{retune}
use Rattle.satip_state.specs.Standing.{Moved}
use Rattle.satip_state.proofs.parts.Parts.tune_to.Goals as goal

pub returns-clause-moved : goal.returns-clause-moved
returns-clause-moved c = λ g st s lives.
    subst (λ (tuning : Option Tuning). Moved g c.retune.new.self c.args.out.now c.retune.new.out
    (option_map_or (retune g c.args.number st) tuning (settle st))) (sym c.in-Some.is) (c.retune.ensures.moved g st s lives)
