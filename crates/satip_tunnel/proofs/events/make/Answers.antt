use Rattle.std.proofs.Common.{[], ◌∷◌}
use Rattle.satip_base.specs.History.{entry}
use Rattle.satip_tunnel.proofs.SeatLemmas.{grows_turned, grows_looked}
use Rattle.satip_tunnel.proofs.SuitLemmas.{suits_by}
use Rattle.satip_tunnel.proofs.events.make.Goals as goal

pub returns-in-Ok : goal.returns-in-Ok
returns-in-Ok g c =
    let k = c.args.caller.now.server.now in
    let p = c.args.caller.now.pass in
    let q = c.call.new.pass in
    record {
      makes = record {
        suits = suits_by k.setting p q c.args.event.now c.in-Ok.answer c.call.new.out c.call.ensures.knows.lawful c.in-Ok.ensures.history;
        grows = grows_turned k p q (entry p.number c.args.event.now c.in-Ok.answer c.call.new.out ∷ []) c.call.ensures.keeps c.in-Ok.ensures.history;
      };
    }

pub returns-in-Err : goal.returns-in-Err
returns-in-Err g c =
    let k = c.args.caller.now.server.now in
    record {
      makes = record {
        grows = grows_looked k c.args.caller.now.pass c.call.new.pass c.call.ensures.keeps c.in-Err.ensures.history;
        full = c.in-Err.ensures.full;
      };
    }
