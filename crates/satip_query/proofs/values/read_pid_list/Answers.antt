use Rattle.std.proofs.Common.{◌≡◌, ◌++◌, ◌∷◌, [], length, true, arith, ap, length-append}
use Rattle.satip_query.proofs.PidLists.{count-step, list-step}
use Rattle.satip_query.proofs.values.read_pid_list.Goals as goal

pub loop-left-preserved-then-keep : goal.loop-left-preserved-then-keep
loop-left-preserved-then-keep c =
    let pushed : length c.keep.new.list ≡ length (c.loop-left.list ++ c.in-Some-read_number.number ∷ []) = ap length c.if-keep.ensures.pushed in
    record {
      counted = count-step _ _ _ _ _ c.cut.result.1 c.loop-left.invariant.counted c.in-Some.is c.cut.ensures.pieces;
      room = omega arith;
      listed = omega (arith, pushed, length-append c.loop-left.list (c.in-Some-read_number.number ∷ []));
      rest = list-step _ c.loop-left.list c.keep.new.list _ c.loop-left.are_pids true c.in-Some-read_number.number _ _ c.cut.result.1
          c.loop-left.invariant.rest c.in-Some.is c.cut.ensures.pieces c.in-Some-read_number.ensures.value
          c.if-keep.ensures.kept c.if-keep.ensures.pushed;
    }
