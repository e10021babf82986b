use Rattle.std.proofs.Common.{Option, ap, subst, sym}
use Rattle.satip_base.specs.declared.identity.SessionId.{SessionId}
use Rattle.satip_plain.specs.declared.answers.Answer.TheVariants.{Replied}
use Rattle.satip_core.specs.Doing.{Did, torn_down}
use Rattle.satip_core.proofs.DoingLemmas.{did_nothing, did_reply_move}
use Rattle.satip_core.proofs.requests.teardown.Goals as goal

pub returns-in-None : goal.returns-in-None
returns-in-None c = record {
  did = λ cfg st stands.
      subst (λ (id : Option SessionId). Did cfg c.args.parts.now (Replied c.ok.result) c.args.out.now (torn_down c.args.cseq st id)) (sym c.in-None.is)
      (did_nothing cfg _ c.args.out.now st _ _ c.requires.cleared (ap Replied c.ok.ensures.accepted) stands);
}

pub returns-in-Some : goal.returns-in-Some
returns-in-Some c = record {
  did = λ cfg st stands.
      subst (λ (id : Option SessionId). Did cfg c.end_session-lived.new.self (Replied c.ok-in-Some.result) c.end_session-lived.new.out
      (torn_down c.args.cseq st id)) (sym c.in-Some.is)
      (did_reply_move cfg _ c.args.out.now c.write_plain.new.out _ _ _ _ _ c.requires.cleared (ap Replied c.ok-in-Some.ensures.accepted)
      c.write_plain.ensures.wrote (c.end_session-lived.ensures.moved cfg st stands));
}
