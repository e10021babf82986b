use Rattle.std.proofs.Common.{refl, ap}
use Rattle.satip_plain.specs.declared.answers.Answer.TheVariants.{Work}
use Rattle.satip_plain.specs.declared.events.Event.TheVariants.{Ended}
use Rattle.satip_plain.specs.Steps.{step}
use Rattle.satip_core.specs.Held.{Held}
use Rattle.satip_core.proofs.ServingLemmas.{did_quietly, steps_of}
use Rattle.satip_core.proofs.server.Server.ended.Goals as goal

pub invariant_of-self : goal.invariant_of-self
invariant_of-self c =
    let standing = c.self.invariant in
    record {
      few = standing.few;
      state = (step c.self.inside.setting.config standing.state (Ended c.args.front c.args.tune)).state;
      stands = c.ended.ensures.ended c.self.inside.setting.config standing.state standing.stands;
    }

pub returns-clause-setting : goal.returns-clause-setting
returns-clause-setting c = ap (λ (s : Held). s.setting) c.self.view_is

pub returns-clause-steps : goal.returns-clause-steps
returns-clause-steps c = steps_of _ c.args.self.now _ (Ended c.args.front c.args.tune) _ _ c.self.view_is
    (λ st stands. did_quietly c.self.inside.setting.config _ c.clear.new.self _ (step c.self.inside.setting.config st (Ended c.args.front c.args.tune))
    c.clear.ensures.empty (c.ended.ensures.ended c.self.inside.setting.config st stands)
    (ap Work (c.work.ensures.work c.self.inside.setting.config (step c.self.inside.setting.config st (Ended c.args.front c.args.tune)).state (c.ended.ensures.ended c.self.inside.setting.config st stands))) refl refl)
