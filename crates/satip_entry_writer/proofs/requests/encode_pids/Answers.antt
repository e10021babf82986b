use Rattle.std.proofs.Common.{ℕ, get_or, arith}
use Rattle.std.proofs.lemmas.Option.{slice_get-get_or}
use Rattle.satip_entry_writer.specs.Fields.{u16_text}
use Rattle.satip_entry_writer.proofs.Writing.{length-u16}
use Rattle.satip_entry_writer.proofs.Lists.{room_more, wrote_more}
use Rattle.satip_entry_writer.proofs.requests.encode_pids.Goals as goal

pub encode_u16-requires : goal.encode_u16-requires
encode_u16-requires c =
    let pid : ℕ = get_or c.args.pids.now c.loop-pid.pid-index 0 in
    let here = slice_get-get_or c.args.pids.now c.loop-pid.pid-index 0 c.loop-pid-test.true in
    record {
      room = omega (arith, room_more u16_text c.args.pids.now c.loop-pid.pid-index pid here c.loop-pid.invariant c.requires.room, length-u16 pid);
    }

pub loop-pid-preserved : goal.loop-pid-preserved
loop-pid-preserved c =
    let here = slice_get-get_or c.args.pids.now c.loop-pid.pid-index 0 c.loop-pid-test.true in
    wrote_more u16_text c.args.pids.now c.loop-pid.pid-index (get_or c.args.pids.now c.loop-pid.pid-index 0) here c.loop-pid.invariant
    c.encode_u16.ensures.wrote
