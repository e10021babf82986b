use Rattle.std.proofs.Common.{◌∙◌, Option, ap, subst, sym}
use Rattle.satip_base.specs.Output.{Wrote}
use Rattle.satip_base.specs.declared.identity.SessionId.{SessionId}
use Rattle.satip_rtsp.specs.Replies.{options_reply}
use Rattle.satip_rtsp.specs.declared.requests.Method.{Method}
use Rattle.satip_plain.specs.declared.answers.Answer.TheVariants.{Replied}
use Rattle.satip_plain.specs.Refusals.{session_named}
use Rattle.satip_plain.specs.Steps.{done_by}
use Rattle.satip_core.specs.Doing.{Did, torn_down}
use Rattle.satip_core.proofs.DoingLemmas.{did_reply}
use Rattle.satip_core.proofs.FindingLemmas.{id_now, names_now}
use Rattle.satip_core.proofs.HearingLemmas.{torn_down_as}
use Rattle.satip_core.proofs.SetupLemmas.{may_set_up}
use Rattle.satip_core.proofs.requests.accept.Goals as goal

pub returns-in-Options : goal.returns-in-Options
returns-in-Options c = record {
  did = λ st stands met.
      let cfg = c.args.config.now in
      let r = c.args.request.now in
      let id = c.id_of.ensures.id ∙ id_now st r c.args.accepted.now.session (names_now cfg st r _ _ met) in
      subst (λ (m : Method). Did cfg c.args.parts.now (Replied c.options.result) c.options.new.out
      (done_by m cfg c.args.peer c.args.draw r st)) (sym c.in-Options.is)
      (did_reply cfg _ c.args.out.now c.options.new.out st _ _ _ c.requires.cleared (ap Replied c.options.ensures.answer) stands
      (subst (λ (x : Option SessionId). Wrote c.args.out.now (options_reply r.cseq x) c.options.new.out) id c.options.ensures.wrote));
}

pub returns-in-Setup : goal.returns-in-Setup
returns-in-Setup c = record {
  did = λ st stands met.
      let cfg = c.args.config.now in
      subst (λ (m : Method). Did cfg c.set_up.new.parts (Replied c.set_up.result) c.set_up.new.out
      (done_by m cfg c.args.peer c.args.draw c.args.request.now st)) (sym c.in-Setup.is)
      (c.set_up.ensures.did st stands (may_set_up cfg st c.args.request.now _ _ met c.in-Setup.is) c.in-Setup.is met);
}

pub returns-in-Teardown : goal.returns-in-Teardown
returns-in-Teardown c = record {
  did = λ st stands met.
      let cfg = c.args.config.now in
      let r = c.args.request.now in
      let id = c.id_of-in-Teardown.ensures.id ∙ id_now st r c.args.accepted.now.session (names_now cfg st r _ _ met) in
      subst (λ (m : Method). Did cfg c.teardown.new.parts (Replied c.teardown.result) c.teardown.new.out
      (done_by m cfg c.args.peer c.args.draw r st)) (sym c.in-Teardown.is)
      (subst (Did cfg c.teardown.new.parts (Replied c.teardown.result) c.teardown.new.out)
      (ap (torn_down r.cseq st) id ∙ torn_down_as r st (session_named st r.session)) (c.teardown.ensures.did cfg st stands));
}
