use Rattle.std.proofs.Common.{arith}
use Rattle.satip_rtp.proofs.HeldLemmas.{length-packets_in}
use Rattle.satip_rtp.proofs.packer.Packer.next.Goals as goal

pub returns-clause-few : goal.returns-clause-few
returns-clause-few c =
    let inside = c.self.inside in
    rw (← c.self.view_is) (omega (arith, length-packets_in inside.bytes inside.count, c.self.invariant))
