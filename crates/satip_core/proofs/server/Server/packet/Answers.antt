use Rattle.std.proofs.Common.{ap, sym, subst}
use Rattle.satip_plain.specs.declared.answers.Answer.TheVariants.{Work}
use Rattle.satip_plain.specs.declared.events.Event.TheVariants.{Packet}
use Rattle.satip_plain.specs.Steps.{step}
use Rattle.satip_core.specs.Held.{Held}
use Rattle.satip_core.specs.Serving.{Stands}
use Rattle.satip_core.proofs.DoingLemmas.{did_move}
use Rattle.satip_core.proofs.ServingLemmas.{rests, steps_of}
use Rattle.satip_core.proofs.server.Server.packet.Goals as goal

pub invariant_of-self : goal.invariant_of-self
invariant_of-self c =
    let standing = c.self.invariant in
    record {
      few = standing.few;
      state = (step c.self.inside.setting.config standing.state (Packet c.args.front c.args.tune c.args.packet.now)).state;
      stands = (c.packet.ensures.moved c.self.inside.setting.config standing.state standing.stands).stands;
    }

pub returns-clause-setting : goal.returns-clause-setting
returns-clause-setting c = ap (λ (s : Held). s.setting) c.self.view_is

pub returns-clause-steps : goal.returns-clause-steps
returns-clause-steps c = steps_of _ c.args.self.now _ (Packet c.args.front c.args.tune c.args.packet.now) _ _ c.self.view_is
    (λ st stands.
    let cfg = c.self.inside.setting.config in
    let moved = c.packet.ensures.moved cfg st stands in
    did_move cfg _ c.clear.new.self c.packet.new.out _ _ _ c.clear.ensures.empty (ap Work (c.work.ensures.work cfg _ moved.stands)) moved)

pub returns-clause-stale : goal.returns-clause-stale
returns-clause-stale c = λ st stands e.
    let at = subst (λ (s : Held). Stands s st) (sym c.self.view_is) stands in
    let cfg = c.self.inside.setting.config in
    let moved = c.packet.ensures.moved cfg st at in
    let did = did_move cfg _ c.clear.new.self c.packet.new.out _ _ _ c.clear.ensures.empty (ap Work (c.work.ensures.work cfg _ moved.stands)) moved in
    let r = rests cfg _ _ _ _ _ did (c.stale_changes_nothing.ensures.law c.self.inside.setting.config st c.args.front c.args.tune c.args.packet.now e) in
    record { stands = r.0; sent = r.1 }
