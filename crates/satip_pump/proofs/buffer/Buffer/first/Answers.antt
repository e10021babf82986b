use Rattle.std.proofs.Common.{◌≤◌, ◌<◌, length, arith, rules}
use Rattle.satip_pump.proofs.BufferLemmas.{at_front, packets_first, starts_first}
use Rattle.satip_pump.proofs.buffer.Buffer.first.Goals as goal

pub returns : goal.returns
returns c =
    let b = c.self.inside in
    let all : 64 ≤ length b.starts = search rules in
    let some : b.given < b.found = omega (arith, c.if-self.false, c.self.invariant.given) in
    let front = packets_first b.bytes b.starts b.given b.found some (omega (arith, all, c.self.invariant.found)) in
    rw (← c.self.view_is) record { first = at_front _ _ _ c.packet_from.result front c.packet_from.ensures.packet }

pub packet_from-requires : goal.packet_from-requires
packet_from-requires c =
    let b = c.self.inside in
    let all : 64 ≤ length b.starts = search rules in
    let some : b.given < b.found = omega (arith, c.if-self.false, c.self.invariant.given) in
    let first = starts_first b.bytes b.starts b.start b.given b.found some (omega (arith, all, c.self.invariant.found)) c.self.invariant.starts in
    record { within = omega (arith, first.0, c.self.invariant.start, c.self.invariant.end); packet = first.1 }
