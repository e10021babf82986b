use Rattle.std.proofs.Common.{◌+◌, ◌∙◌}
use Rattle.satip_worker.proofs.draws.Draws.next.Goals as goal

pub invariant_of-self : goal.invariant_of-self
invariant_of-self c =
    let stands = c.self.invariant in
    (stands.0, stands.1, stands.2 + 1, c.draw.ensures.next stands.0 stands.1 stands.2 stands.3)

pub returns-clause-next : goal.returns-clause-next
returns-clause-next c = λ key stream number are. c.draw.ensures.next key stream number (c.self.view_is ∙ are)
