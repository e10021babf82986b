use Rattle.std.proofs.Common.{◌∙◌, refl, ap, sym}
use Rattle.std.specs.List.{each_same}
use Rattle.satip_tune.specs.Configuration.{Configuration}
use Rattle.satip_plain.specs.declared.setting.Setting.{Setting}
use Rattle.satip_plain.specs.Histories.{opening}
use Rattle.satip_state.specs.Standing.{StandsFor}
use Rattle.satip_core.specs.Held.{Held}
use Rattle.satip_core.proofs.HistoryLemmas.{stands_first}
use Rattle.satip_core.proofs.server.Server.make.Goals as goal
use Rattle.satip_core.proofs.server.Server.make.Goals.{After-new}

-- the parts stand for the state before any event
opened : (c : After-new) → StandsFor c.args.config c.in_ok-parts.parts (opening (record { config = c.args.config; start = c.args.start }))
opened c =
    let setting : Setting = record { config = c.args.config; start = c.args.start } in
    c.in_ok-parts.ensures.opening setting
    (sym (each_same _ _ c.in-Ok.ensures.cases.0 ∙ ap (λ (x : Configuration). x.fronts) c.config.view_is))
    (sym (each_same _ _ c.in-Ok-clone.ensures.cases.0 ∙ ap (λ (x : Configuration). x.muxes) c.config.view_is))
    (sym (ap (λ (x : Configuration). x.timeout) c.config.view_is))
    refl

pub invariant_of-result : goal.invariant_of-result
invariant_of-result c = record {
  few = c.requires.few;
  state = opening (record { config = c.args.config; start = c.args.start });
  stands = opened c;
}

pub returns-clause-opening : goal.returns-clause-opening
returns-clause-opening c = opened c

pub returns-clause-history : goal.returns-clause-history
returns-clause-history c =
    let held : Held = record { setting = record { config = c.args.config; start = c.args.start }; kept = c.in_ok-parts.parts } in
    stands_first held c.requires.few c.requires.numbered c.requires.received c.known_setting.ensures.value (opened c)
