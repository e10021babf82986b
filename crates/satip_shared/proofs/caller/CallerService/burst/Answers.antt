-- Each event of the lot is an entry of the caller's own.
use Rattle.std.proofs.Common.{false, Ok, Err, rules}
use Rattle.satip_plain.specs.declared.fault.ServiceFault.TheVariants.{Spent}
use Rattle.satip_plain.specs.Calls.{Bursts}
use Rattle.satip_shared.specs.Calling.{known_by}
use Rattle.satip_shared.proofs.Calling.{at_last, bursts_by, ends_well, ends_spent}
use Rattle.satip_shared.proofs.caller.CallerService.burst.Goals as goal

pub returns-then-burst-clause-bursts : goal.returns-then-burst-clause-bursts
returns-then-burst-clause-bursts g c =
    let call = c.burst-burst.ensures in
    let p = c.args.self.now.pass in
    let q = c.burst-burst.new.pass in
    let lot = c.burst-burst.new.feed.lot.now in
    let made = c.burst-burst.result.made in
    let name = call.history.has.0 in
    at_last (λ l. Bursts false (known_by p) (known_by q) (g.L.Lot.ended l) (g.L.Lot.given l) (g.L.Lot.has_taken c.args.lot.now l) (Err Spent)) _ lot
    (search rules)
    (bursts_by c.args.self.now.server.now.setting p q made (g.L.Lot.ended lot) (g.L.Lot.given lot) _ (g.L.Lot.has_taken c.args.lot.now lot) (Err Spent)
    call.knows.lawful call.most call.history
    (ends_spent q made (g.L.Lot.ended lot) c.burst-burst.result.spent (g.L.Lot.given lot) c.if-burst.true call.spent call.full))

pub returns-clause-bursts : goal.returns-clause-bursts
returns-clause-bursts g c =
    let call = c.burst-burst.ensures in
    let p = c.args.self.now.pass in
    let q = c.burst-burst.new.pass in
    let lot = c.burst-burst.new.feed.lot.now in
    let made = c.burst-burst.result.made in
    let name = call.history.has.0 in
    at_last (λ l. Bursts false (known_by p) (known_by q) (g.L.Lot.ended l) (g.L.Lot.given l) (g.L.Lot.has_taken c.args.lot.now l) (Ok tt)) _ lot (search rules)
    (bursts_by c.args.self.now.server.now.setting p q made (g.L.Lot.ended lot) (g.L.Lot.given lot) _ (g.L.Lot.has_taken c.args.lot.now lot) (Ok tt)
    call.knows.lawful call.most call.history
    (ends_well q made (g.L.Lot.ended lot) c.burst-burst.result.spent (g.L.Lot.given lot) c.if-burst.false call.most call.few call.spent))
