use Rattle.std.proofs.Common.{◌+◌, ◌-◌, ◌≤◌, ◌<◌, ℕ, List, map, length, refl, arith, rules, sym, ap, ◌∙◌, subst}
use Rattle.std.proofs.lemmas.List.{map_push}
use Rattle.satip_pump.specs.BufferFields.{AreStarts, packet_at}
use Rattle.satip_pump.proofs.BufferLemmas.{cut_none, cut_one, length_between, push_between, starts_more, starts_within}
use Rattle.satip_pump.proofs.buffer.Buffer.cut.Goals as goal

pub invariant_of-self : goal.invariant_of-self
invariant_of-self c =
    let b = c.self.inside in
    let all : 12220 ≤ length b.bytes = search rules in
    let size = length_between b.bytes b.start b.end c.self.invariant.start (omega (arith, c.self.invariant.end)) in
    record {
      given = c.self.invariant.given;
      found = c.self.invariant.found;
      start = omega (arith, size, c.bytes_before_sync.ensures.within, c.self.invariant.start);
      end = c.self.invariant.end;
      starts = starts_within _ _ _ _ (omega arith) c.self.invariant.starts;
    }

pub returns-then-self-lt-PACKET_BYTES : goal.returns-then-self-lt-PACKET_BYTES
returns-then-self-lt-PACKET_BYTES c =
    let b = c.self.inside in
    let all : 12220 ≤ length b.bytes = search rules in
    let within : b.end ≤ length b.bytes = omega (arith, c.self.invariant.end) in
    let size = length_between b.bytes b.start b.end c.self.invariant.start within in
    let inside : b.start + c.bytes_before_sync.result ≤ b.end = omega (arith, size, c.bytes_before_sync.ensures.within, c.self.invariant.start) in
    let few : b.end - (b.start + c.bytes_before_sync.result) < 188 = omega (arith, c.if-self-lt-PACKET_BYTES.true) in
    let last = cut_none b.bytes _ b.start b.end c.bytes_before_sync.result refl within c.bytes_before_sync.ensures.sync inside few in
    rw (← c.self.view_is) record { cut = record { packets = refl; same = last.same; none = last.none; few = last.few; room = refl } }

pub invariant_of-self-2 : goal.invariant_of-self-2
invariant_of-self-2 c =
    let b = c.self.inside in
    let all : 12220 ≤ length b.bytes = search rules in
    let places : 64 ≤ length b.starts = search rules in
    let at : ℕ = b.start + c.bytes_before_sync.result in
    let within : b.end ≤ length b.bytes = omega (arith, c.self.invariant.end) in
    let some : at + 188 ≤ b.end = omega (arith, c.if-self-lt-PACKET_BYTES.false) in
    let next = cut_one b.bytes _ b.start b.end c.bytes_before_sync.result refl within c.bytes_before_sync.ensures.sync some in
    let room = rw (← c.self.view_is) at c.requires.room in
    let few : b.found < 64 = omega (arith, room) in
    let P : List ℕ → Type 0 = λ starts. AreStarts b.bytes (at + 188) starts in
    record {
      given = omega (arith, c.self.invariant.given);
      found = omega (arith, few);
      start = some;
      end = c.self.invariant.end;
      starts = subst P (sym (push_between b.starts b.given b.found at c.self.invariant.given (omega (arith, few, places))))
          (starts_more b.bytes (at + 188) _ at (starts_within _ _ _ _ (omega arith) c.self.invariant.starts) (omega arith) next.packet);
    }

pub returns : goal.returns
returns c =
    let b = c.self.inside in
    let all : 12220 ≤ length b.bytes = search rules in
    let places : 64 ≤ length b.starts = search rules in
    let at : ℕ = b.start + c.bytes_before_sync.result in
    let within : b.end ≤ length b.bytes = omega (arith, c.self.invariant.end) in
    let some : at + 188 ≤ b.end = omega (arith, c.if-self-lt-PACKET_BYTES.false) in
    let next = cut_one b.bytes _ b.start b.end c.bytes_before_sync.result refl within c.bytes_before_sync.ensures.sync some in
    let room = rw (← c.self.view_is) at c.requires.room in
    let few : b.found < 64 = omega (arith, room) in
    let pushed = push_between b.starts b.given b.found at c.self.invariant.given (omega (arith, few, places)) in
    rw (← c.self.view_is) record {
      cut = record {
        packet = packet_at b.bytes at;
        packets = ap (λ (starts : List ℕ). map (packet_at b.bytes) starts) pushed ∙ map_push (packet_at b.bytes) _ at;
        first = next.first;
        room = omega (arith, few);
      };
    }
