use Rattle.std.proofs.Common.{◌∙◌, ap, List}
use Rattle.satip_tune.specs.Frontends.{mux_for}
use Rattle.satip_tune.specs.declared.frontends.Mux.{Mux}
use Rattle.satip_fronts.specs.FrontEnds.{FrontEnds}
use Rattle.satip_fronts.proofs.Choosing.{blocked_where}
use Rattle.satip_fronts.proofs.fronts.Fronts.is_blocked.Goals as goal

pub returns : goal.returns
returns c =
    let muxes = c.deref.ensures.value ∙ ap (λ (v : FrontEnds). v.muxes) c.self.view_is in
    let wanted = c.mux_of-mux.ensures.found ∙ ap (λ (ms : List Mux). mux_for ms c.args.tuning.now) muxes in
    record {
      blocked = blocked_where c.args.self.now c.args.stream c.mux_of-mux.result c.others-others.result c.args.tuning.now c.has_open.result wanted
          c.others-others.ensures.places c.has_open.ensures.found;
    }
