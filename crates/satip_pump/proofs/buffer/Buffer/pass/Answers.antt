use Rattle.std.proofs.Common.{◌≤◌, ◌<◌, length, arith, rules, sym, ap}
use Rattle.std.proofs.lemmas.List.{length-map}
use Rattle.satip_plain.specs.Pumping.{rest_of}
use Rattle.satip_pump.specs.BufferFields.{left_starts, packet_at}
use Rattle.satip_pump.proofs.BufferLemmas.{length_between, packets_first, starts_first}
use Rattle.satip_pump.proofs.buffer.Buffer.pass.Goals as goal

pub invariant_of-self : goal.invariant_of-self
invariant_of-self c =
    let b = c.self.inside in
    let all : 64 ≤ length b.starts = search rules in
    let within : b.found ≤ length b.starts = omega (arith, all, c.self.invariant.found) in
    let size = length_between b.starts b.given b.found c.self.invariant.given within in
    let waits = rw (← c.self.view_is) at c.requires.some in
    let some : b.given < b.found = omega (arith, waits, size, length-map (left_starts b) (packet_at b.bytes)) in
    record {
      given = omega (arith, some);
      found = c.self.invariant.found;
      start = c.self.invariant.start;
      end = c.self.invariant.end;
      starts = (starts_first b.bytes b.starts b.start b.given b.found some within c.self.invariant.starts).2;
    }

pub returns-clause-packets : goal.returns-clause-packets
returns-clause-packets c =
    let b = c.self.inside in
    let all : 64 ≤ length b.starts = search rules in
    let within : b.found ≤ length b.starts = omega (arith, all, c.self.invariant.found) in
    let size = length_between b.starts b.given b.found c.self.invariant.given within in
    let waits = rw (← c.self.view_is) at c.requires.some in
    let some : b.given < b.found = omega (arith, waits, size, length-map (left_starts b) (packet_at b.bytes)) in
    rw (← c.self.view_is) (sym (ap rest_of (packets_first b.bytes b.starts b.given b.found some within)))
