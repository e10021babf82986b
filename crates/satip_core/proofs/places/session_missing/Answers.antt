use Rattle.std.proofs.Common.{◌∙◌, Bool, cond, ap, is_none}
use Rattle.satip_plain.specs.Refusals.{session_named}
use Rattle.satip_rtsp.specs.Methods.{needs_session}
use Rattle.satip_core.specs.RefusalRows.{party_of}
use Rattle.satip_core.proofs.PlaceLemmas.{none_is, none_mapped}
use Rattle.satip_core.proofs.places.session_missing.Goals as goal

pub returns-else-names_none : goal.returns-else-names_none
returns-else-names_none c = record {
  missing = λ st names.
      none_is c.args.session c.is_none.result c.is_none.ensures ∙ ap is_none names
      ∙ none_mapped party_of (session_named st c.args.request.now.session)
      ∙ ap (λ (b : Bool). cond b (needs_session c.args.request.now.method) (is_none (session_named st c.args.request.now.session)))
      c.if-names_none.ensures.none;
}
