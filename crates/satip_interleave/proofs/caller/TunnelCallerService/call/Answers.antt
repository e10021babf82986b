-- The entry is the caller's own, and one of the server.
use Rattle.std.proofs.Common.{[], ◌∷◌, refl}
use Rattle.satip_base.specs.History.{entry}
use Rattle.satip_interleave.specs.declared.events.TunnelEvent.TheVariants.{Inner}
use Rattle.satip_interleave.proofs.Calling.{answered_by, made_by, same_turned, unmade_by}
use Rattle.satip_interleave.proofs.caller.TunnelCallerService.call.Goals as goal

pub returns-in-Ok-clause-same : goal.returns-in-Ok-clause-same
returns-in-Ok-clause-same g c =
    let p = c.args.self.now.pass in
    same_turned c.args.self.now.server.now p c.call.new.pass (entry p.number (Inner c.copy_of.result) c.in-Ok.answer c.call.new.out ∷ []) c.call.ensures.keeps
    c.in-Ok.ensures.history refl

pub returns-in-Ok-clause-called : goal.returns-in-Ok-clause-called
returns-in-Ok-clause-called g c =
    let k = c.args.self.now.server.now in
    let p = c.args.self.now.pass in
    let q = c.call.new.pass in
    let inner = answered_by k.setting p q c.copy_of.result c.in-Ok.answer c.call.new.out c.call.ensures.knows.lawful c.in-Ok.ensures.history in
    made_by k.setting p q c.args.event.now c.copy_of.result c.in-Ok.answer c.server_answer.result c.call.new.out c.copy_of.ensures.same
    (c.server_answer.ensures.told inner)
    c.call.ensures.knows.lawful c.in-Ok.ensures.history

pub returns-in-Err-clause-called : goal.returns-in-Err-clause-called
returns-in-Err-clause-called g c = unmade_by c.args.self.now.pass c.call.new.pass c.in-Err.ensures.history c.in-Err.ensures.full
