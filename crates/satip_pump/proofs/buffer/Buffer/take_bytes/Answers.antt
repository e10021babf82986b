use Rattle.std.proofs.Common.{◌≡◌, ◌≤◌, ◌-◌, length, arith, rules, sym, ap, ◌∙◌}
use Rattle.satip_pump.specs.Buffers.{Buffered}
use Rattle.satip_pump.proofs.BufferLemmas.{front_same, packets_same, reads_on, starts_same, within_buf}
use Rattle.satip_pump.proofs.buffer.Buffer.take_bytes.Goals as goal

pub invariant_of-self : goal.invariant_of-self
invariant_of-self g c =
    let b = c.self.inside in
    let all : 12220 ≤ length b.bytes = search rules in
    let within : b.end ≤ length b.bytes = omega (arith, all, c.self.invariant.end) in
    let space : c.args.count ≤ 12220 - b.end = rw (← c.self.view_is) at c.requires.space in
    let size : length c.take-taken.new.buf ≡ c.args.count = search rules in
    let same = front_same b.bytes c.take-taken.new.buf b.start b.end c.args.count c.self.invariant.start within in
    let got = within_buf _ _ _ _ _ c.take-taken.ensures.takes in
    record {
      given = c.self.invariant.given;
      found = c.self.invariant.found;
      start = omega (arith, c.self.invariant.start);
      end = omega (arith, got, size, space, c.bytes_in.ensures.count, c.self.invariant.end);
      starts = starts_same b.bytes _ b.start _ same c.self.invariant.starts;
    }

pub returns-clause-packets : goal.returns-clause-packets
returns-clause-packets g c =
    let b = c.self.inside in
    let all : 12220 ≤ length b.bytes = search rules in
    let within : b.end ≤ length b.bytes = omega (arith, all, c.self.invariant.end) in
    let same = front_same b.bytes c.take-taken.new.buf b.start b.end c.args.count c.self.invariant.start within in
    sym (packets_same b.bytes _ b.start _ same c.self.invariant.starts) ∙ ap (λ (x : Buffered). x.packets) c.self.view_is

pub returns-clause-reads : goal.returns-clause-reads
returns-clause-reads g c =
    let b = c.self.inside in
    let all : 12220 ≤ length b.bytes = search rules in
    let within : b.end ≤ length b.bytes = omega (arith, all, c.self.invariant.end) in
    let size : length c.take-taken.new.buf ≡ c.args.count = search rules in
    rw (← c.self.view_is, c.bytes_in.ensures.count)
    (reads_on _ _ _ b.bytes c.take-taken.new.buf b.start b.end c.args.count c.take-taken.result c.self.invariant.start within size c.take-taken.ensures.takes)
