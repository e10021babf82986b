use Rattle.std.proofs.Common.{◌∙◌, ap, arith, take, List}
use Rattle.std.proofs.lemmas.List.{take_all}
use Rattle.satip_base.specs.Output.{Datagram}
use Rattle.satip_stress.specs.declared.counting.Counts.{Counts}
use Rattle.satip_stress.specs.Counted.{with_datagrams}
use Rattle.satip_stress.proofs.CountLemmas.{counted_none, counted_more, datagram_room, entry_bounded}
use Rattle.satip_stress.proofs.counting.Counts.add.Goals as goal

pub loop-place-init : goal.loop-place-init
loop-place-init c = counted_none _

pub add_datagram_at-requires-clause-room : goal.add_datagram_at-requires-clause-room
add_datagram_at-requires-clause-room c =
    let room = c.count-place-end.ensures.room in
    let ds = c.args.out.now.datagrams in
    datagram_room c.args.self.now c.loop-place.self c.args.answer ds c.loop-place.place c.requires.room (omega (arith, room.count)) (omega (arith, room.bytes))
    (c.loop-place.invariant ∙ ap (λ (x : Counts). with_datagrams x (take c.loop-place.place ds)) c.add_answer.ensures.counted)

pub loop-place-preserved : goal.loop-place-preserved
loop-place-preserved c =
    counted_more c.add_answer.new.self c.loop-place.self c.add_datagram_at.new.self c.args.out.now.datagrams c.loop-place.place c.loop-place.invariant
    c.add_datagram_at.ensures.counted

pub returns-clause-counted : goal.returns-clause-counted
returns-clause-counted c =
    let ds = c.args.out.now.datagrams in
    c.loop-place.invariant
    ∙ ap (λ (x : List Datagram). with_datagrams c.add_answer.new.self x)
    (take_all c.loop-place.place ds (omega (arith, c.count-place-end.ensures.count, c.loop-place-test.false)))
    ∙ ap (λ (x : Counts). with_datagrams x ds) c.add_answer.ensures.counted

pub returns-clause-events : goal.returns-clause-events
returns-clause-events c = ap (λ (x : Counts). x.events) (returns-clause-counted c)

pub returns-clause-bounded : goal.returns-clause-bounded
returns-clause-bounded c =
    let room = c.count-place-end.ensures.room in
    entry_bounded c.args.self.now c.loop-place.self c.args.answer c.args.out.now.datagrams c.requires.room (omega (arith, room.count))
    (omega (arith, room.bytes))
    (returns-clause-counted c)
