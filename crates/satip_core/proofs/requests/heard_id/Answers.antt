use Rattle.std.proofs.Common.{◌∙◌, Option, None, cond, is_none, option_map, ap, sym}
use Rattle.satip_rtsp.specs.declared.requests.Refusal.{Refusal}
use Rattle.satip_plain.specs.State.{Session}
use Rattle.satip_plain.specs.Refusals.{session_named}
use Rattle.satip_core.proofs.FindingLemmas.{id_now}
use Rattle.satip_core.proofs.requests.heard_id.Goals as goal

pub returns-in-None : goal.returns-in-None
returns-in-None c = record {
  heard = λ cfg st stands.
      let named = session_named st c.args.request.now.session in
      c.id_of-id.ensures.id ∙ id_now st c.args.request.now c.session_named.result (c.session_named.ensures.named cfg st stands)
      ∙ ap (λ (refusal : Option Refusal). cond (is_none refusal) (option_map (λ (s : Session). s.id) named) None) (sym c.in-None.is);
}
