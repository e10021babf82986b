use Rattle.std.proofs.Common.{◌≤◌, length, get_or, decimal, subst, arith}
use Rattle.satip_base.specs.Printed.{Printed}
use Rattle.satip_base.proofs.Writing.{◌then_printed◌}
use Rattle.satip_pids.proofs.PidTexts.{next_more, length-decimal_pid}
use Rattle.satip_session_tests.proofs.pids.plain.print_others.Goals as goal

pub loop-pid-preserved : goal.loop-pid-preserved
loop-pid-preserved c =
    let pids = c.args.pids.now in
    let i = c.loop-pid.pid-index in
    let comma = c.write.ensures.printed in
    let number = c.write_number.ensures.printed in
    let short : length (decimal (get_or pids i 0)) ≤ 4 = length-decimal_pid (get_or pids i 0) (c.requires.below i 0 c.loop-pid-test.true) in
    record {
      printed = subst (λ bs. Printed c.args.strip.now bs c.write_number.new.self) (next_more pids i c.loop-pid-test.true)
          (c.loop-pid.invariant.printed then_printed (comma then_printed number));
      room = omega (arith, c.loop-pid.invariant.room, comma.count, number.count, short);
    }
