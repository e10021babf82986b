use Rattle.std.proofs.Common.{is_some, ap, ◌∙◌}
use Rattle.satip_tune.specs.Frontends.{is_meant_of}
use Rattle.satip_tune.proofs.Places.{is_some-position}
use Rattle.satip_tune.proofs.frontends.mux_of.Goals as goal

pub returns-in-None-clause-none : goal.returns-in-None-clause-none
returns-in-None-clause-none c =
    ap is_some c.in-None.ensures.found ∙ is_some-position (is_meant_of c.args.tuning.now) c.args.muxes.now

pub returns-in-Some-clause-none : goal.returns-in-Some-clause-none
returns-in-Some-clause-none c =
    ap is_some c.in-Some.ensures.found ∙ is_some-position (is_meant_of c.args.tuning.now) c.args.muxes.now
