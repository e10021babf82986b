use Rattle.std.proofs.Common.{◌≡◌, ℕ, ◌+◌, ◌*◌, ◌%◌, ◌≤◌, ◌++◌, [], ◌∷◌, List, length, take, false, refl, sym, ap, ◌∙◌, arith, length-append, rules}
use Rattle.std.proofs.lemmas.List.{take_all}
use Rattle.satip_rtp.specs.Bytes.{rtp_datagram}
use Rattle.satip_rtp.specs.Held.{packets_in}
use Rattle.satip_rtp.specs.Packing.{Packing, holding}
use Rattle.satip_rtp.proofs.CutLemmas.{cut-short, cut-seven}
use Rattle.satip_rtp.proofs.HeldLemmas.{length-packets_in, datagram_in}
use Rattle.satip_rtp.proofs.PackingLemmas.{emptied, after_cut-all, after_cut-none, sends_all-one, sends_all-none}
use Rattle.satip_rtp.proofs.packer.Packer.push.Goals as goal

pub returns-then-self-lt6-clause-seventh : goal.returns-then-self-lt6-clause-seventh
returns-then-self-lt6-clause-seventh c =
    let inside = c.self.inside in
    rw (← c.self.view_is) (λ t. absurd (cc t), λ h. absurd (omega (arith, h, length-packets_in inside.bytes inside.count, c.if-self-lt6.true)))

-- the packets with this one are held
pub returns-then-self-lt6-clause-packing : goal.returns-then-self-lt6-clause-packing
returns-then-self-lt6-clause-packing c =
    let i = c.self.inside in
    let held = packets_in i.bytes i.count in
    let put = c.put_packet.ensures.put ∙ ap (λ t. held ++ t ∷ []) c.bytes.ensures.bytes in
    let p : Packing = record { ssrc = i.ssrc; held = held; next = i.next; datagrams = i.datagrams; octets = i.octets } in
    let few : length (held ++ c.args.packet.now ∷ []) ≤ 6 =
    omega (arith, length-append {A = List ℕ}, length-packets_in i.bytes i.count, c.if-self-lt6.true) in
    let kept = after_cut-none false (holding p c.args.packet.now) (cut-short _ few) (search rules) (search rules) (search rules) in
    rw (← c.self.view_is) (ap (λ h. record p { held = h }) put ∙ sym kept)

pub returns-then-self-lt6-clause-sent : goal.returns-then-self-lt6-clause-sent
returns-then-self-lt6-clause-sent c =
    let i = c.self.inside in
    let held = packets_in i.bytes i.count in
    let p : Packing = record { ssrc = i.ssrc; held = held; next = i.next; datagrams = i.datagrams; octets = i.octets } in
    let few : length (held ++ c.args.packet.now ∷ []) ≤ 6 =
    omega (arith, length-append {A = List ℕ}, length-packets_in i.bytes i.count, c.if-self-lt6.true) in
    rw (← c.self.view_is) (sends_all-none c.args.out.now false (holding p c.args.packet.now) c.args.clock c.args.to (cut-short _ few))

pub returns-clause-seventh : goal.returns-clause-seventh
returns-clause-seventh c =
    let i = c.self.inside in
    rw (← c.self.view_is) (λ t. omega (arith, length-packets_in i.bytes i.count, c.self.invariant, c.if-self-lt6.false), λ h. refl)

-- seven have left
pub returns-clause-packing : goal.returns-clause-packing
unfolding packets_in
returns-clause-packing c =
    let i = c.self.inside in
    let held = packets_in i.bytes i.count in
    let p : Packing = record { ssrc = i.ssrc; held = held; next = i.next; datagrams = i.datagrams; octets = i.octets } in
    let seven : length (held ++ c.args.packet.now ∷ []) ≡ 7 =
    omega (arith, length-append {A = List ℕ}, length-packets_in i.bytes i.count, c.self.invariant, c.if-self-lt6.false) in
    let left = after_cut-all false (holding p c.args.packet.now) (cut-seven _ seven) in
    rw (← c.self.view_is) (sym (left ∙ ap (λ n. record (emptied p) { octets = (p.octets + 188 * n) % 4294967296 }) seven))

-- the bytes are the datagram of the seven
pub returns-clause-sent : goal.returns-clause-sent
returns-clause-sent c =
    let i = c.self.inside in
    let held = packets_in i.bytes i.count in
    let p : Packing = record { ssrc = i.ssrc; held = held; next = i.next; datagrams = i.datagrams; octets = i.octets } in
    let seven : length (held ++ c.args.packet.now ∷ []) ≡ 7 =
    omega (arith, length-append {A = List ℕ}, length-packets_in i.bytes i.count, c.self.invariant, c.if-self-lt6.false) in
    let put : packets_in c.put_packet.new.bytes 7 ≡ held ++ c.args.packet.now ∷ [] =
    ap (λ n. packets_in c.put_packet.new.bytes n) (omega (arith, c.self.invariant, c.if-self-lt6.false))
    ∙ c.put_packet.ensures.put ∙ ap (λ t. held ++ t ∷ []) c.bytes.ensures.bytes in
    let whole : c.write_header.new.bytes ≡ rtp_datagram i.next c.args.clock i.ssrc (held ++ c.args.packet.now ∷ []) =
    sym (take_all 1328 c.write_header.new.bytes (omega (arith, c.self.told)))
    ∙ ap (λ bytes. take 1328 bytes) c.write_header.ensures.header
    ∙ datagram_in c.put_packet.new.bytes i.next c.args.clock i.ssrc 7
    ∙ ap (λ packets. rtp_datagram i.next c.args.clock i.ssrc packets) put in
    let sent = rw whole at c.append.ensures.sent in
    rw (← c.self.view_is) (sends_all-one c.args.out.now false (holding p c.args.packet.now) c.args.clock c.args.to _ (cut-seven _ seven) sent)
