use Rattle.std.proofs.Common.{◌∙◌, ℕ, refl, ap, subst, sym}
use Rattle.satip_tune.specs.Configuration.{Configuration}
use Rattle.satip_plain.specs.declared.answers.Answer.TheVariants.{Replied}
use Rattle.satip_plain.specs.Steps.{set_up, setup_number, setup_session}
use Rattle.satip_core.specs.Doing.{Did}
use Rattle.satip_core.proofs.DoingLemmas.{did_reply_move}
use Rattle.satip_core.proofs.FindingLemmas.{Meant, id_now, meant_by_setup, names_now}
use Rattle.satip_core.proofs.SetupLemmas.{both_same, setup_as}
use Rattle.satip_core.proofs.requests.set_up.Goals as goal

pub returns-in-None : goal.returns-in-None
returns-in-None c = record {
  did = λ st stands may is met.
      let r = c.args.request.now in
      let id = c.id_of-id.ensures.id ∙ id_now st r c.args.accepted.now.session (names_now c.args.config.now st r _ _ met) in
      let made = (c.in-None.ensures.placed c.args.config.now st r stands may refl id).made in
      absurd (cc);
}

pub returns-in-Some : goal.returns-in-Some
returns-in-Some c = record {
  did = λ st stands may is met.
      let r = c.args.request.now in
      let cfg = c.args.config.now in
      let ports = c.ports_of-ports.result in
      let given = c.id_of-id.ensures.id ∙ id_now st r c.args.accepted.now.session (names_now cfg st r _ _ met) in
      let placed = c.in-Some.ensures.placed cfg st r stands may refl given in
      let same = both_same c.in-Some.id (setup_session c.args.draw r st) c.in-Some.number (setup_number r st) placed.made in
      let meant = subst (λ (n : ℕ). Meant (set_up c.args.peer c.args.draw ports r st) n r.query c.args.accepted.now.tuning c.args.pids.now) (sym same.1)
      (meant_by_setup cfg c.args.peer c.args.draw ports st r c.args.accepted.now c.args.pids.now may met is placed.untuned) in
      let moved = c.change_by.ensures.moved cfg (set_up c.args.peer c.args.draw ports r st) meant.stream placed.stands meant.found meant.asks in
      let did = did_reply_move cfg _ c.args.out.now c.write_set_up.new.out _ _ _ _ _ c.requires.cleared (ap Replied c.ok.ensures.accepted)
      c.write_set_up.ensures.wrote moved in
      subst (Did cfg c.change_by.new.self (Replied c.ok.result) c.change_by.new.out)
      (setup_as cfg c.args.peer c.args.draw r st ports c.in-Some.id c.in-Some.number _ c.ports_of-ports.ensures.ports same.0 same.1
      (ap (λ (x : Configuration). x.timeout) c.config.view_is))
      did;
}
