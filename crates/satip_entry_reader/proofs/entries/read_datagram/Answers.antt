use Rattle.std.proofs.Common.{arith}
use Rattle.satip_entry_reader.proofs.TakingSteps.{datagram_by}
use Rattle.satip_entry_reader.proofs.entries.read_datagram.Goals as goal

pub returns : goal.returns
returns c = record {
  read =
      datagram_by c.read_payload.result c.in-Some.ip c.in-Some-read_u16.port c.in-Some-read_u32.count c.args.bytes.now c.read_u32.new.self c.read_u16.new.self
      c.read_u32-2.new.self c.read_payload.new.bytes c.args.out.now c.read_payload.new.out c.in-Some.ensures.read c.in-Some.ensures.front
      c.in-Some-read_u16.ensures.read c.in-Some-read_u16.ensures.front c.in-Some-read_u32.ensures.read c.in-Some-read_u32.ensures.front
      (omega (arith, c.if-count-room.false, c.room.ensures.room)) c.read_payload.ensures.read;
}
