use Rattle.std.proofs.Common.{Option, subst, sym}
use Rattle.std.specs.Option.{option_map_or}
use Rattle.satip_http.specs.Heads.{http_refusal}
use Rattle.satip_plain.specs.declared.answers.Answer.TheVariants.{Get}
use Rattle.satip_plain.specs.declared.answers.GetAnswer.TheVariants.{Refused as GetRefused}
use Rattle.satip_plain.specs.Refusals.{Refused}
use Rattle.satip_plain.specs.Sending.{settle}
use Rattle.satip_plain.specs.Steps.{outcome, start}
use Rattle.satip_core.specs.Doing.{Did}
use Rattle.satip_core.proofs.SetupLemmas.{get_room}
use Rattle.satip_core.proofs.requests.answer_get.Goals as goal

pub returns-in-Ok : goal.returns-in-Ok
returns-in-Ok c = record {
  did = λ st stands.
      let cfg = c.args.config.now in
      let decided = c.in-Ok.ensures.decided cfg st stands in
      subst (λ (d : Option Refused). Did cfg c.start.new.parts (Get c.start.result) c.start.new.out
      (option_map_or (λ refused. outcome (settle st) (Get (GetRefused refused.status)) (http_refusal refused.status refused.body)) d
      (start cfg c.args.peer c.args.draw c.args.request.now st))) decided
      (c.start.ensures.did st stands (get_room cfg st c.args.request.now (sym decided)) c.in-Ok.ensures.asked);
}
