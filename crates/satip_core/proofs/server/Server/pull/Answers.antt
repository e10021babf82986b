use Rattle.std.proofs.Common.{ap, sym, subst}
use Rattle.satip_plain.specs.declared.events.Event.TheVariants.{Pull}
use Rattle.satip_plain.specs.Steps.{step}
use Rattle.satip_core.specs.Held.{Held}
use Rattle.satip_core.specs.Serving.{Stands}
use Rattle.satip_core.proofs.ServingLemmas.{did_pull, rests, steps_of}
use Rattle.satip_core.proofs.server.Server.pull.Goals as goal

pub invariant_of-self : goal.invariant_of-self
invariant_of-self c =
    let standing = c.self.invariant in
    record {
      few = standing.few;
      state = (step c.self.inside.setting.config standing.state (Pull c.args.session)).state;
      stands = (did_pull c.self.inside.setting.config _ c.clear.new.self _ _ c.args.session standing.state c.clear.ensures.empty (c.pull.ensures.stands c.self.inside.setting.config standing.state standing.stands) (c.pull.ensures.answer c.self.inside.setting.config standing.state standing.stands) (c.pull.ensures.wrote c.self.inside.setting.config standing.state standing.stands)).stands;
    }

pub returns-clause-setting : goal.returns-clause-setting
returns-clause-setting c = ap (λ (s : Held). s.setting) c.self.view_is

pub returns-clause-steps : goal.returns-clause-steps
returns-clause-steps c = steps_of _ c.args.self.now _ (Pull c.args.session) _ _ c.self.view_is
    (λ st stands. did_pull c.self.inside.setting.config _ c.clear.new.self _ _ c.args.session st c.clear.ensures.empty (c.pull.ensures.stands c.self.inside.setting.config st stands) (c.pull.ensures.answer c.self.inside.setting.config st stands) (c.pull.ensures.wrote c.self.inside.setting.config st stands))

pub returns-clause-gone : goal.returns-clause-gone
returns-clause-gone c = λ st stands e.
    let at = subst (λ (s : Held). Stands s st) (sym c.self.view_is) stands in
    let r = rests c.self.inside.setting.config _ _ _ _ _ (did_pull c.self.inside.setting.config _ c.clear.new.self _ _ c.args.session st c.clear.ensures.empty (c.pull.ensures.stands c.self.inside.setting.config st at) (c.pull.ensures.answer c.self.inside.setting.config st at) (c.pull.ensures.wrote c.self.inside.setting.config st at))
    ((c.gone_changes_nothing.ensures.law c.self.inside.setting.config st c.args.session e).0) in
    record { stands = r.0; sent = r.1 }

pub returns-clause-empty : goal.returns-clause-empty
returns-clause-empty c = λ st s stands e none.
    let at = subst (λ (s : Held). Stands s st) (sym c.self.view_is) stands in
    let r = rests c.self.inside.setting.config _ _ _ _ _ (did_pull c.self.inside.setting.config _ c.clear.new.self _ _ c.args.session st c.clear.ensures.empty (c.pull.ensures.stands c.self.inside.setting.config st at) (c.pull.ensures.answer c.self.inside.setting.config st at) (c.pull.ensures.wrote c.self.inside.setting.config st at))
    (c.empty_only_hears.ensures.law c.self.inside.setting.config st c.args.session s e none) in
    record { stands = r.0; sent = r.1 }
