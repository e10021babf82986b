use Rattle.std.proofs.Common.{arith}
use Rattle.satip_base.proofs.out.Out.count.Goals as goal

-- what is written and what is left make up the room
pub returns-clause-room : goal.returns-clause-room
returns-clause-room c =
    let o = c.self.inside in
    let sound = c.self.invariant in
    let filled = c.count.ensures.room in
    rw (← c.self.view_is) record {
      reply = omega (arith, o.reply.ok.0, sound.reply);
      bytes = omega (arith, filled.bytes, sound.byte_room);
      count = omega (arith, filled.count, sound.count_room);
    }
