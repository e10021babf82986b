use Rattle.std.proofs.Common.{◌≡◌, [], length, sym, ap, subst, arith}
use Rattle.satip_pids.specs.Rising.{put_all}
use Rattle.satip_pids.specs.Pids.{IsPidRow}
use Rattle.satip_pids.proofs.Sets.{IsPidRow-nil, IsPidRow-put_all}
use Rattle.satip_session_tests.proofs.pids.plain.PlainSet.set.Goals as goal

pub invariant_of-self : goal.invariant_of-self
invariant_of-self c =
    let made : c.in_ok-pids.pids.items ≡ put_all [] c.args.list.now = c.in_ok-pids.ensures.both in
    subst IsPidRow (sym made) (IsPidRow-put_all [] c.args.list.now IsPidRow-nil c.requires.below (omega (arith, c.in_ok-pids.ensures.few, ap length made)))
