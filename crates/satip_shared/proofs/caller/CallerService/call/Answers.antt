-- The entry is the caller's own.
use Rattle.satip_shared.proofs.Calling.{made_by}
use Rattle.satip_shared.proofs.caller.CallerService.call.Goals as goal

pub returns-in-Ok-clause-called : goal.returns-in-Ok-clause-called
returns-in-Ok-clause-called g c = made_by c.args.self.now.server.now.setting c.args.self.now.pass c.call.new.pass c.args.event.now c.in-Ok.answer c.call.new.out
    c.call.ensures.knows.lawful c.in-Ok.ensures.history
