use Rattle.std.proofs.Common.{◌∙◌, Option, is_none, ap, refl, subst, sym}
use Rattle.std.specs.Option.{option_map_or}
use Rattle.satip_base.specs.declared.identity.SessionId.{SessionId}
use Rattle.satip_plain.specs.declared.answers.Answer.TheVariants.{Replied}
use Rattle.satip_plain.specs.Refusals.{Refused, session_named}
use Rattle.satip_plain.specs.Steps.{done_by, hear, heard_by, refuse}
use Rattle.satip_state.specs.Standing.{StandsFor}
use Rattle.satip_core.specs.Doing.{Did}
use Rattle.satip_core.proofs.DoingLemmas.{did_reply}
use Rattle.satip_core.proofs.FindingLemmas.{heard_now}
use Rattle.satip_core.proofs.HearingLemmas.{heard_as}
use Rattle.satip_core.proofs.requests.answer_request.Goals as goal

pub accept-requires-clause-ready : goal.accept-requires-clause-ready
accept-requires-clause-ready c =
    let cfg = c.args.config.now in
    let r = c.args.request.now in
    let standing = c.requires.standing in
    let decided = c.in-Ok.ensures.decided cfg standing.state standing.stands in
    let finds = c.in-Ok.ensures.found cfg standing.state standing.stands in
    record {
      few = standing.few;
      state = heard_by r standing.state;
      stands = subst (StandsFor cfg c.hear-in-Ok.new.parts) (heard_now cfg standing.state r _ _ c.id_of.result decided finds c.id_of.ensures.id)
          (c.hear-in-Ok.ensures.heard cfg standing.state standing.stands);
      accepted = record { before = standing.state; heard = refl; accepted = sym decided; finds = finds };
    }

pub returns-in-Err : goal.returns-in-Err
returns-in-Err c = record {
  did = λ st stands.
      let cfg = c.args.config.now in
      let r = c.args.request.now in
      let is = ap (λ (id : Option SessionId). option_map_or (λ id. hear id st) id st) (c.heard_id-id.ensures.heard cfg st stands)
      ∙ heard_as (is_none r.refusal) (session_named st r.session) st in
      let heard = subst (StandsFor cfg c.hear.new.parts) is (c.hear.ensures.heard cfg st stands) in
      subst (λ (d : Option Refused). Did cfg c.hear.new.parts (Replied c.refuse.result) c.refuse.new.out
      (option_map_or (refuse r (heard_by r st)) d (done_by r.method cfg c.args.peer c.args.draw r (heard_by r st)))) (c.in-Err.ensures.decided cfg st stands)
      (did_reply cfg _ c.args.out.now c.refuse.new.out (heard_by r st) _ _ _ c.requires.cleared (ap Replied c.refuse.ensures.answer) heard
      c.refuse.ensures.wrote);
}

pub returns-in-Ok : goal.returns-in-Ok
returns-in-Ok c = record {
  did = λ st stands.
      let cfg = c.args.config.now in
      let r = c.args.request.now in
      let decided = c.in-Ok.ensures.decided cfg st stands in
      let finds = c.in-Ok.ensures.found cfg st stands in
      let heard = subst (StandsFor cfg c.hear-in-Ok.new.parts) (heard_now cfg st r _ _ c.id_of.result decided finds c.id_of.ensures.id)
      (c.hear-in-Ok.ensures.heard cfg st stands) in
      subst (λ (d : Option Refused). Did cfg c.accept.new.parts (Replied c.accept.result) c.accept.new.out
      (option_map_or (refuse r (heard_by r st)) d (done_by r.method cfg c.args.peer c.args.draw r (heard_by r st)))) decided
      (c.accept.ensures.did (heard_by r st) heard (record { before = st; heard = refl; accepted = sym decided; finds = finds }));
}
