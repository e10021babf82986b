use Rattle.std.proofs.Common.{◌∙◌, ◌&&◌, Bool, Option, Some, false, ap, sym}
use Rattle.std.specs.Option.{option_map_or}
use Rattle.satip_tune.specs.Tunings.{gives_any}
use Rattle.satip_plain.specs.Types.{Tuning}
use Rattle.satip_plain.specs.Streams.{changed_tuning}
use Rattle.satip_state.specs.Looks.{is_blocked}
use Rattle.satip_core.proofs.PlaceLemmas.{first_later, first_now, first_none, key_first, key_later}
use Rattle.satip_core.proofs.deciding.decide_change.Goals as goal

pub returns-in-Err-clause-refused : goal.returns-in-Err-clause-refused
returns-in-Err-clause-refused c = λ cfg st stands.
    ap Some c.telling.ensures.telling
    ∙ key_first (gives_any c.args.query.now.change) (changed_tuning c.args.tuning c.args.query.now.change) c.in-Err.key _ c.in-Err.ensures.missing

pub returns-then-full-clause-refused : goal.returns-then-full-clause-refused
returns-then-full-clause-refused c = λ cfg st stands.
    ap Some c.telling-then-full.ensures.telling
    ∙ first_now _ _ _ (sym c.if-full.true ∙ ap (λ (full : Bool). c.args.makes && full) (c.is_full.ensures.full cfg st stands))
    ∙ first_none _ _ (c.in_default.ensures.refused _ c.ask_pids.ensures.fault)
    ∙ key_later (gives_any c.args.query.now.change) (changed_tuning c.args.tuning c.args.query.now.change) _ c.in-Ok.ensures.missing

pub returns-then-front_missing-clause-refused : goal.returns-then-front_missing-clause-refused
returns-then-front_missing-clause-refused c = λ cfg st stands.
    ap Some c.telling-then-front_missing.ensures.telling
    ∙ first_now _ _ _ (c.if-front_missing.ensures.missing cfg st stands
    ∙ ap (λ (set : Option Tuning). option_map_or (is_blocked cfg st c.args.stream) set false) c.in-Ok.ensures.to_set)
    ∙ first_later _ _ _ (sym c.if-full.false ∙ ap (λ (full : Bool). c.args.makes && full) (c.is_full.ensures.full cfg st stands))
    ∙ first_none _ _ (c.in_default.ensures.refused _ c.ask_pids.ensures.fault)
    ∙ key_later (gives_any c.args.query.now.change) (changed_tuning c.args.tuning c.args.query.now.change) _ c.in-Ok.ensures.missing

pub returns-clause-refused : goal.returns-clause-refused
returns-clause-refused c = λ cfg st stands.
    first_later _ _ _ (c.if-front_missing.ensures.missing cfg st stands
    ∙ ap (λ (set : Option Tuning). option_map_or (is_blocked cfg st c.args.stream) set false) c.in-Ok.ensures.to_set)
    ∙ first_later _ _ _ (sym c.if-full.false ∙ ap (λ (full : Bool). c.args.makes && full) (c.is_full.ensures.full cfg st stands))
    ∙ first_none _ _ (c.in_default.ensures.refused _ c.ask_pids.ensures.fault)
    ∙ key_later (gives_any c.args.query.now.change) (changed_tuning c.args.tuning c.args.query.now.change) _ c.in-Ok.ensures.missing
