use Rattle.std.proofs.Common.{◌∙◌, Bool, cond, ap}
use Rattle.satip_tune.specs.Configuration.{Configuration}
use Rattle.satip_plain.specs.declared.answers.Answer.TheVariants.{Beat}
use Rattle.satip_plain.specs.declared.answers.Beat.TheVariants.{Going, Stopping}
use Rattle.satip_plain.specs.Steps.{beat_of, tick}
use Rattle.satip_core.proofs.DoingLemmas.{did_move}
use Rattle.satip_core.proofs.server.tick.Goals as goal

pub returns : goal.returns
returns c = record {
  did = λ st stands.
      let cfg = c.args.config.now in
      did_move cfg _ c.args.out.now c.tick.new.out (tick cfg c.args.now st) _ (beat_of st) c.requires.cleared
      (ap Beat (c.beat_of.ensures.beat ∙ ap (λ (b : Bool). cond b Stopping Going) (c.is_stopped-stopped.ensures.stopped cfg st stands)))
      (c.tick.ensures.moved cfg st stands (ap (λ (x : Configuration). x.address) c.config.view_is));
}
