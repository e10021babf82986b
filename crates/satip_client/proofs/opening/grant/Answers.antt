use Rattle.std.proofs.Common.{arith}
use Rattle.satip_client.proofs.SessionLemmas.{session_short}
use Rattle.satip_client.proofs.opening.grant.Goals as goal

pub unreachable-requires : goal.unreachable-requires
unreachable-requires c =
    let short = session_short c.args.text.now c.in-Reply.view c.in-Ok.grant.session.now c.in-Reply.ensures.read c.in-Ok.ensures.grants.session_is in
    omega (arith, short, c.in-None.ensures.long)
