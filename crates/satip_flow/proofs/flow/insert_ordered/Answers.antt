use Rattle.std.proofs.Common.{length, ap, arith}
use Rattle.satip_flow.proofs.Slots.{fewer_than_64}
use Rattle.satip_flow.proofs.flow.insert_ordered.Goals as goal

pub unwrap-requires : goal.unwrap-requires
unwrap-requires c =
    let few = fewer_than_64 c.args.subscriber.place.slot c.args.subscribers.now.items c.requires.apart c.requires.slot c.requires.free in
    c.insert.ensures.succeeds (omega (arith, few, c.requires.room, c.deref.ensures.len, ap length c.deref.ensures.value))
