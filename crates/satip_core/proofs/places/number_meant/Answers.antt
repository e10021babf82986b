use Rattle.std.proofs.Common.{◌∙◌, Option, ℕ, None, cond, option_map, is_some, ap, sym}
use Rattle.satip_plain.specs.Refusals.{session_named}
use Rattle.satip_rtsp.specs.Methods.{needs_session}
use Rattle.satip_core.proofs.places.number_meant.Goals as goal

pub returns-in-None : goal.returns-in-None
returns-in-None c = record {
  number = λ st names.
      let own : Option ℕ = cond (needs_session c.args.request.now.method) (option_map (λ s. s.stream) (session_named st c.args.request.now.session)) None in
      c.own_number.ensures.number st names ∙ ap (λ (stream : Option ℕ). cond (is_some stream) stream own) (sym c.in-None.is);
}
