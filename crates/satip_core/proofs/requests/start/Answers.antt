use Rattle.std.proofs.Common.{◌∙◌, ℕ, Bool, cond, Option, Some, None, true, ap, subst, sym}
use Rattle.satip_http.specs.Heads.{start_head}
use Rattle.satip_plain.specs.Types.{SessionId}
use Rattle.satip_plain.specs.declared.answers.Answer.TheVariants.{Get}
use Rattle.satip_plain.specs.declared.answers.GetAnswer.TheVariants.{Started}
use Rattle.satip_plain.specs.State.{State}
use Rattle.satip_plain.specs.Streams.{change_by}
use Rattle.satip_plain.specs.Steps.{found, least_free, next_id, no_ports, outcome}
use Rattle.satip_state.specs.Asking.{IsUntuned}
use Rattle.satip_state.specs.Standing.{StandsFor}
use Rattle.satip_core.specs.Doing.{Did}
use Rattle.satip_core.proofs.DoingLemmas.{did_reply_move}
use Rattle.satip_core.proofs.SetupLemmas.{both_same}
use Rattle.satip_core.proofs.requests.start.Goals as goal

abbrev unless : {X : Type 0} → X → Bool → Option X
unless x full = cond full None (Some x)

pub returns-in-None : goal.returns-in-None
returns-in-None c = record {
  did = λ st stands room asks.
      let made = c.in-None.ensures.made c.args.config.now st stands ∙ ap (unless (next_id st c.args.draw, least_free st.streams)) room in
      absurd (cc);
}

pub returns-in-Some : goal.returns-in-Some
returns-in-Some c = record {
  did = λ st stands room asks.
      let cfg = c.args.config.now in
      let begun : State = found true c.args.peer c.args.draw no_ports st in
      let same = both_same c.in-Some.id (next_id st c.args.draw) c.in-Some.number (least_free st.streams)
      (c.in-Some.ensures.made cfg st stands ∙ ap (unless (next_id st c.args.draw, least_free st.streams)) room) in
      let standing = subst (StandsFor cfg c.found.new.self) (ap (λ (full : Bool). cond full st begun) room) (c.in-Some.ensures.founded cfg st stands) in
      let new = subst (IsUntuned begun) (sym same.1) (c.in-Some.ensures.untuned cfg st stands room) in
      let moved = c.change_by.ensures.moved cfg begun _ standing new asks in
      let did = did_reply_move cfg _ c.args.out.now c.write_start.new.out _ _ _ (Get (Started (next_id st c.args.draw))) _ c.requires.cleared
      (ap (λ (i : SessionId). Get (Started i)) same.0) c.write_start.ensures.wrote moved in
      subst (λ (n : ℕ). Did cfg c.change_by.new.self (Get (Started c.in-Some.id)) c.change_by.new.out
      (outcome (change_by cfg n c.args.request.now.query begun) (Get (Started (next_id st c.args.draw))) start_head)) same.1 did;
}
