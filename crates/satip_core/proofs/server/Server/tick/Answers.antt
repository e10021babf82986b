use Rattle.std.proofs.Common.{ap}
use Rattle.satip_plain.specs.declared.events.Event.TheVariants.{Tick}
use Rattle.satip_plain.specs.Steps.{step}
use Rattle.satip_core.specs.Held.{Held}
use Rattle.satip_core.proofs.ServingLemmas.{steps_of}
use Rattle.satip_core.proofs.server.Server.tick.Goals as goal

pub invariant_of-self : goal.invariant_of-self
invariant_of-self c =
    let standing = c.self.invariant in
    record {
      few = standing.few;
      state = (step c.self.inside.setting.config standing.state (Tick c.args.now)).state;
      stands = (c.tick.ensures.did standing.state standing.stands).stands;
    }

pub returns-clause-setting : goal.returns-clause-setting
returns-clause-setting c = ap (λ (s : Held). s.setting) c.self.view_is

pub returns-clause-steps : goal.returns-clause-steps
returns-clause-steps c = steps_of _ c.args.self.now _ (Tick c.args.now) _ _ c.self.view_is (λ st stands. c.tick.ensures.did st stands)
