use Rattle.std.proofs.Common.{arith}
use Rattle.satip_flow.proofs.Sends.{nothing_sent}
use Rattle.satip_solo.proofs.CopyLemmas.{copied_more, copied_all, next_fits, next_place, room_behind}
use Rattle.satip_solo.proofs.copies.copy_out.Goals as goal

pub copy_datagram-requires-clause-count : goal.copy_datagram-requires-clause-count
copy_datagram-requires-clause-count c =
    let room = room_behind _ _ _ _ c.requires.cleared c.write.ensures.wrote c.count-count.ensures.room in
    next_place _ _ _ _ (omega (arith, c.count-count.ensures.count)) c.loop-place.invariant room.count

pub copy_datagram-requires-clause-bytes : goal.copy_datagram-requires-clause-bytes
copy_datagram-requires-clause-bytes c =
    let room = room_behind _ _ _ _ c.requires.cleared c.write.ensures.wrote c.count-count.ensures.room in
    next_fits _ _ _ _ (omega (arith, c.count-count.ensures.count)) c.loop-place.invariant room.bytes

pub loop-place-init : goal.loop-place-init
loop-place-init c = nothing_sent _

pub loop-place-preserved : goal.loop-place-preserved
loop-place-preserved c = copied_more _ _ _ _ _ c.loop-place.invariant c.copy_datagram.ensures.sent

pub returns : goal.returns
returns c = record {
  same = copied_all c.args.from.now c.args.to.now c.write.new.self c.loop-place.to c.reply.result.now c.loop-place.place c.requires.cleared
      c.reply.ensures.reply
      c.write.ensures.wrote (omega (arith, c.count-count.ensures.count, c.loop-place-test.false)) c.loop-place.invariant c.count-count.ensures.room;
}
