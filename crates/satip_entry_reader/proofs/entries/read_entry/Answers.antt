use Rattle.std.proofs.Common.{◌≡◌, ℕ, ◌≤◌, List, [], Option, Some, None, arith, sym, ◌∙◌, ap, subst}
use Rattle.satip_base.specs.declared.limits.TheConstants.{REPLY_BYTES, EVENT_BYTES, EVENT_DATAGRAMS}
use Rattle.satip_base.specs.Output.{Datagram, Output}
use Rattle.satip_entry_reader.specs.ReadingEntries.{datagrams_read}
use Rattle.satip_entry_reader.proofs.TakingSteps.{begins, behind_reply, counted_list, large_count, no_count, no_reply}
use Rattle.satip_entry_reader.proofs.entries.read_entry.Goals as goal

pub returns-then-not-read_reply-clause-read : goal.returns-then-not-read_reply-clause-read
returns-then-not-read_reply-clause-read c =
    let small : c.in-Some-read_u32.length ≤ REPLY_BYTES = omega (arith, c.if-length-gt-REPLY_BYTES.false) in
    no_reply c.read_event.new.event c.in-Some.answer c.in-Some-read_u32.length c.read_answer.new.self c.read_u32.new.self
    c.in-Some-read_u32.ensures.read small c.if-not-read_reply.ensures.read
    ∙ begins c.read_event.new.event c.in-Some.answer c.args.bytes.now c.read_event.new.bytes c.read_answer.new.self c.if-not-read_event.ensures.read
    c.in-Some.ensures.read

pub returns-in_default-read_u16-clause-read : goal.returns-in_default-read_u16-clause-read
returns-in_default-read_u16-clause-read c =
    let small : c.in-Some-read_u32.length ≤ REPLY_BYTES = omega (arith, c.if-length-gt-REPLY_BYTES.false) in
    let none : c.args.out.now.reply ≡ [] = ap (λ (o : Output). o.reply) c.requires.empty in
    behind_reply c.read_event.new.event c.in-Some.answer c.in-Some-read_u32.length c.read_answer.new.self c.read_u32.new.self c.read_reply.new.bytes None
    c.in-Some-read_u32.ensures.read small c.if-not-read_reply.ensures.read none (no_count c.read_reply.new.bytes c.in_default-read_u16.ensures.read)
    ∙ begins c.read_event.new.event c.in-Some.answer c.args.bytes.now c.read_event.new.bytes c.read_answer.new.self c.if-not-read_event.ensures.read
    c.in-Some.ensures.read

pub returns-then-count-gt-EVENT_DATAGRAMS-clause-read : goal.returns-then-count-gt-EVENT_DATAGRAMS-clause-read
returns-then-count-gt-EVENT_DATAGRAMS-clause-read c =
    let small : c.in-Some-read_u32.length ≤ REPLY_BYTES = omega (arith, c.if-length-gt-REPLY_BYTES.false) in
    let none : c.args.out.now.reply ≡ [] = ap (λ (o : Output). o.reply) c.requires.empty in
    behind_reply c.read_event.new.event c.in-Some.answer c.in-Some-read_u32.length c.read_answer.new.self c.read_u32.new.self c.read_reply.new.bytes None
    c.in-Some-read_u32.ensures.read small c.if-not-read_reply.ensures.read none
    (large_count c.in-Some-read_u16.count c.read_reply.new.bytes c.read_u16.new.self c.in-Some-read_u16.ensures.read
    (omega (arith, c.if-count-gt-EVENT_DATAGRAMS.true)))
    ∙ begins c.read_event.new.event c.in-Some.answer c.args.bytes.now c.read_event.new.bytes c.read_answer.new.self c.if-not-read_event.ensures.read
    c.in-Some.ensures.read

pub returns-then-not-read_datagrams-clause-read : goal.returns-then-not-read_datagrams-clause-read
returns-then-not-read_datagrams-clause-read c =
    let small : c.in-Some-read_u32.length ≤ REPLY_BYTES = omega (arith, c.if-length-gt-REPLY_BYTES.false) in
    let none : c.args.out.now.reply ≡ [] = ap (λ (o : Output). o.reply) c.requires.empty in
    let few : c.in-Some-read_u16.count ≤ EVENT_DATAGRAMS = omega (arith, c.if-count-gt-EVENT_DATAGRAMS.false) in
    let spare : c.read_reply.new.out.datagram_spare ≡ EVENT_BYTES =
    c.if-not-read_reply.ensures.read.wrote.datagram_spare ∙ ap (λ (o : Output). o.datagram_spare) c.requires.empty in
    behind_reply c.read_event.new.event c.in-Some.answer c.in-Some-read_u32.length c.read_answer.new.self c.read_u32.new.self c.read_reply.new.bytes None
    c.in-Some-read_u32.ensures.read small c.if-not-read_reply.ensures.read none
    (counted_list c.in-Some-read_u16.count c.read_reply.new.bytes c.read_u16.new.self c.in-Some-read_u16.ensures.read few
    ∙ sym (subst (λ (s : ℕ). None ≡ datagrams_read c.in-Some-read_u16.count s c.read_u16.new.self) spare c.if-not-read_datagrams.ensures.read))
    ∙ begins c.read_event.new.event c.in-Some.answer c.args.bytes.now c.read_event.new.bytes c.read_answer.new.self c.if-not-read_event.ensures.read
    c.in-Some.ensures.read

pub returns-clause-read : goal.returns-clause-read
returns-clause-read c =
    let small : c.in-Some-read_u32.length ≤ REPLY_BYTES = omega (arith, c.if-length-gt-REPLY_BYTES.false) in
    let none : c.args.out.now.reply ≡ [] = ap (λ (o : Output). o.reply) c.requires.empty in
    let few : c.in-Some-read_u16.count ≤ EVENT_DATAGRAMS = omega (arith, c.if-count-gt-EVENT_DATAGRAMS.false) in
    let spare : c.read_reply.new.out.datagram_spare ≡ EVENT_BYTES =
    c.if-not-read_reply.ensures.read.wrote.datagram_spare ∙ ap (λ (o : Output). o.datagram_spare) c.requires.empty in
    let found : Option (List Datagram × List ℕ) = Some (c.read_datagrams.new.out.datagrams, c.read_datagrams.new.bytes) in
    let list = counted_list c.in-Some-read_u16.count c.read_reply.new.bytes c.read_u16.new.self c.in-Some-read_u16.ensures.read few
    ∙ subst (λ (s : ℕ). datagrams_read c.in-Some-read_u16.count s c.read_u16.new.self ≡ found) spare c.if-not-read_datagrams.ensures.read.read in
    ap (λ (reply : List ℕ). Some (
      record {
        event = c.read_event.new.event;
        answer = c.in-Some.answer;
        reply = reply;
        datagrams = c.read_datagrams.new.out.datagrams;
      },
      c.read_datagrams.new.bytes,
    ))
    c.if-not-read_datagrams.ensures.read.reply
    ∙ behind_reply c.read_event.new.event c.in-Some.answer c.in-Some-read_u32.length c.read_answer.new.self c.read_u32.new.self
    c.read_reply.new.bytes found
    c.in-Some-read_u32.ensures.read small c.if-not-read_reply.ensures.read none list
    ∙ begins c.read_event.new.event c.in-Some.answer c.args.bytes.now c.read_event.new.bytes c.read_answer.new.self c.if-not-read_event.ensures.read
    c.in-Some.ensures.read
