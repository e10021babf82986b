use Rattle.std.proofs.Common.{◌∙◌, ap, sym}
use Rattle.satip_fronts.specs.FrontEnds.{all_free}
use Rattle.satip_state.proofs.RequestMade.{made_stands}
use Rattle.satip_state.proofs.parts.Parts.make.Goals as goal

pub returns : goal.returns
returns c = record {
  opening = λ g fronts muxes timeout start. made_stands g c.capped_moment.result c.args.timeout c.args.start c.in_ok-table.table c.in_ok-timer.timer
      c.make-5.result c.in_ok-flow.flow
      c.capped_moment.ensures.capped start timeout c.in_ok-table.ensures.empty c.in_ok-timer.ensures.empty
      (c.make-5.ensures.free ∙ ap (λ f. all_free f c.args.muxes.items) (sym fronts) ∙ ap (all_free g.config.fronts) (sym muxes)) c.in_ok-flow.ensures.ok;
}
