use Rattle.std.proofs.Common.{refl, ap, sym, subst}
use Rattle.satip_plain.specs.declared.answers.Answer.TheVariants.{Work}
use Rattle.satip_plain.specs.declared.events.Event.TheVariants.{Ask}
use Rattle.satip_plain.specs.Steps.{step}
use Rattle.satip_core.specs.Held.{Held}
use Rattle.satip_core.specs.Serving.{Stands}
use Rattle.satip_core.proofs.ServingLemmas.{did_quietly}
use Rattle.satip_core.proofs.server.Server.ask.Goals as goal

pub returns-clause-steps : goal.returns-clause-steps
returns-clause-steps c = λ st stands.
    let at = subst (λ (s : Held). Stands s st) (sym c.self.view_is) stands in
    did_quietly c.args.self.now.setting.config _ c.clear.new.self _ (step c.args.self.now.setting.config st (Ask c.args.front)) c.clear.ensures.empty stands
    (ap Work (c.work.ensures.work c.self.inside.setting.config st at)) refl refl
