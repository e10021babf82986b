use Rattle.std.proofs.Common.{◌≡◌, ◌+◌, ◌*◌, ◌%◌, length, take, true, refl, sym, ap, ◌∙◌, arith, rules}
use Rattle.satip_rtp.specs.Bytes.{rtp_datagram}
use Rattle.satip_rtp.specs.Cut.{cut}
use Rattle.satip_rtp.specs.Held.{packets_in}
use Rattle.satip_rtp.specs.Packing.{Packing}
use Rattle.satip_rtp.proofs.CutLemmas.{cut-flushed}
use Rattle.satip_rtp.proofs.HeldLemmas.{length-packets_in, datagram_in, none_held}
use Rattle.satip_rtp.proofs.PackingLemmas.{emptied, after_cut-all, after_cut-none, sends_all-one, sends_all-none}
use Rattle.satip_rtp.proofs.packer.Packer.flush.Goals as goal

pub returns-then-self-eq0-clause-nothing : goal.returns-then-self-eq0-clause-nothing
returns-then-self-eq0-clause-nothing c =
    let i = c.self.inside in
    rw (← c.self.view_is) (λ _. none_held i.bytes i.count c.if-self-eq0.true, λ _. refl)

pub returns-then-self-eq0-clause-packing : goal.returns-then-self-eq0-clause-packing
returns-then-self-eq0-clause-packing c =
    let i = c.self.inside in
    let held = packets_in i.bytes i.count in
    let p : Packing = record { ssrc = i.ssrc; held = held; next = i.next; datagrams = i.datagrams; octets = i.octets } in
    let none = ap (λ packets. cut true packets) (none_held i.bytes i.count c.if-self-eq0.true) in
    rw (← c.self.view_is) (sym (after_cut-none true p none (search rules) (search rules) (search rules)))

pub returns-then-self-eq0-clause-sent : goal.returns-then-self-eq0-clause-sent
returns-then-self-eq0-clause-sent c =
    let i = c.self.inside in
    let held = packets_in i.bytes i.count in
    let p : Packing = record { ssrc = i.ssrc; held = held; next = i.next; datagrams = i.datagrams; octets = i.octets } in
    let none = ap (λ packets. cut true packets) (none_held i.bytes i.count c.if-self-eq0.true) in
    rw (← c.self.view_is) (sends_all-none c.args.out.now true p c.args.clock c.args.to none)

pub returns-clause-nothing : goal.returns-clause-nothing
returns-clause-nothing c =
    let i = c.self.inside in
    rw (← c.self.view_is) (
      λ e. absurd (cc e),
      λ h.
          absurd (omega (arith, ap (λ packets. length packets) h, length-packets_in i.bytes i.count, c.if-self-eq0.false)),
    )

-- what was held has left
pub returns-clause-packing : goal.returns-clause-packing
unfolding packets_in
returns-clause-packing c =
    let i = c.self.inside in
    let held = packets_in i.bytes i.count in
    let p : Packing = record { ssrc = i.ssrc; held = held; next = i.next; datagrams = i.datagrams; octets = i.octets } in
    let count = length-packets_in i.bytes i.count in
    let all = cut-flushed held (omega (arith, count, c.if-self-eq0.false)) (omega (arith, count, c.self.invariant)) in
    rw (← c.self.view_is) (sym (after_cut-all true p all ∙ ap (λ n. record (emptied p) { octets = (p.octets + 188 * n) % 4294967296 }) count))

-- the first bytes are the datagram of what was held
pub returns-clause-sent : goal.returns-clause-sent
returns-clause-sent c =
    let i = c.self.inside in
    let held = packets_in i.bytes i.count in
    let p : Packing = record { ssrc = i.ssrc; held = held; next = i.next; datagrams = i.datagrams; octets = i.octets } in
    let count = length-packets_in i.bytes i.count in
    let all = cut-flushed held (omega (arith, count, c.if-self-eq0.false)) (omega (arith, count, c.self.invariant)) in
    let front : take (12 + 188 * i.count) c.write_header.new.bytes ≡ rtp_datagram i.next c.args.clock i.ssrc held =
    ap (λ bytes. take (12 + 188 * i.count) bytes) c.write_header.ensures.header
    ∙ datagram_in i.bytes i.next c.args.clock i.ssrc i.count in
    let sent = rw front at c.append.ensures.sent in
    rw (← c.self.view_is) (sends_all-one c.args.out.now true p c.args.clock c.args.to _ all sent)
