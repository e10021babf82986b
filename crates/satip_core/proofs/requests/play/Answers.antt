use Rattle.std.proofs.Common.{◌∙◌, [], Option, ap, arith, subst, sym}
use Rattle.std.specs.Option.{option_map_or}
use Rattle.satip_base.specs.Output.{Output}
use Rattle.satip_tune.specs.Configuration.{Configuration}
use Rattle.satip_plain.specs.declared.answers.Answer.TheVariants.{Replied}
use Rattle.satip_plain.specs.State.{Session}
use Rattle.satip_plain.specs.Sending.{settle}
use Rattle.satip_plain.specs.Refusals.{session_named}
use Rattle.satip_plain.specs.Steps.{accepted, play_of}
use Rattle.satip_plain.specs.Streams.{change_by}
use Rattle.satip_state.proofs.Picking.{map_nothing}
use Rattle.satip_core.specs.Doing.{Did}
use Rattle.satip_core.specs.RefusalRows.{party_of}
use Rattle.satip_core.proofs.DoingLemmas.{did_nothing}
use Rattle.satip_core.proofs.FindingLemmas.{kind_now, meant_by_play, names_now}
use Rattle.satip_core.proofs.PlayLemmas.{did_play}
use Rattle.satip_core.proofs.requests.play.Goals as goal

pub write_playing-requires : goal.write_playing-requires
write_playing-requires c =
    let cfg = c.args.config.now in
    let ready = c.requires.ready in
    let meant = meant_by_play cfg ready.state c.args.request.now _ _ c.in-Some.session ready.accepted c.requires.method c.in-Some.is in
    let moved = c.change_by.ensures.moved cfg ready.state meant.stream ready.stands meant.found meant.asks in
    let same = moved.sent.reply_spare ∙ ap (λ (o : Output). o.reply_spare) c.requires.cleared in
    record { room = omega (arith, same) }

pub returns-in-None : goal.returns-in-None
returns-in-None c = record {
  did = λ st stands met.
      let cfg = c.args.config.now in
      let r = c.args.request.now in
      let none = map_nothing party_of (session_named st r.session) (sym (names_now cfg st r _ _ met) ∙ c.in-None.is) in
      subst (λ (o : Option Session). Did cfg c.args.parts.now (Replied c.ok.result) c.args.out.now
      (option_map_or (play_of cfg r st) o (accepted (settle st) []))) (sym none)
      (did_nothing cfg _ c.args.out.now st _ _ c.requires.cleared (ap Replied c.ok.ensures.accepted) stands);
}

pub returns-in-Some : goal.returns-in-Some
returns-in-Some c = record {
  did = λ st stands met.
      let cfg = c.args.config.now in
      let r = c.args.request.now in
      let named = sym c.in-Some.is ∙ names_now cfg st r _ _ met in
      let meant = meant_by_play cfg st r _ _ c.in-Some.session met c.requires.method c.in-Some.is in
      let moved = c.change_by.ensures.moved cfg st meant.stream stands meant.found meant.asks in
      let after = (change_by cfg c.in-Some.session.stream r.query st).state in
      let plays = c.play.ensures.plays cfg after moved.stands in
      did_play cfg c.change_by.new.self c.play.new.self c.args.out.now c.change_by.new.out c.write_playing.new.out r st c.in-Some.session _
      c.next_number-seq.result _
      c.requires.cleared (ap Replied c.ok-in-Some.ensures.accepted) named (kind_now cfg st r _ _ c.in-Some.session met c.in-Some.is) moved plays
      (c.next_number-seq.ensures.number cfg _ plays) (ap (λ (x : Configuration). x.address) c.config.view_is) c.write_playing.ensures.wrote;
}
