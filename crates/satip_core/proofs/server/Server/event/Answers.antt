use Rattle.std.proofs.Common.{subst, sym}
use Rattle.satip_plain.specs.declared.answers.Answer.TheVariants.{Replied, Beat, Work}
use Rattle.satip_plain.specs.declared.events.Event.{Event}
use Rattle.satip_core.specs.Serving.{Steps}
use Rattle.satip_core.proofs.server.Server.event.Goals as goal

pub returns-in-Request-clause-steps : goal.returns-in-Request-clause-steps
returns-in-Request-clause-steps c =
    subst (λ (e : Event). Steps c.args.self.now e c.request.new.self (Replied c.request.result) c.request.new.out) (sym c.in-Request.is) c.request.ensures.steps

pub returns-in-Packet-clause-steps : goal.returns-in-Packet-clause-steps
returns-in-Packet-clause-steps c =
    subst (λ (e : Event). Steps c.args.self.now e c.packet.new.self (Work c.packet.result) c.packet.new.out) (sym c.in-Packet.is) c.packet.ensures.steps

pub returns-in-Ended-clause-steps : goal.returns-in-Ended-clause-steps
returns-in-Ended-clause-steps c =
    subst (λ (e : Event). Steps c.args.self.now e c.ended.new.self (Work c.ended.result) c.ended.new.out) (sym c.in-Ended.is) c.ended.ensures.steps

pub returns-in-Stop-clause-steps : goal.returns-in-Stop-clause-steps
returns-in-Stop-clause-steps c =
    subst (λ (e : Event). Steps c.args.self.now e c.stop.new.self (Beat c.stop.result) c.stop.new.out) (sym c.in-Stop.is) c.stop.ensures.steps
