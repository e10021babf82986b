use Rattle.std.proofs.Common.{◌≡◌, ◌+◌, length, get_or, take, sym, ap, ◌∙◌, subst, arith}
use Rattle.satip_pids.specs.Rising.{IsRising, put, put_all}
use Rattle.satip_pids.proofs.RisingLists.{put_all_more, length-put_all-take, rising-put}
use Rattle.satip_session_tests.proofs.pids.rising.union.Goals as goal

-- what one more PID makes too long is no longer than what all of them make
pub returns-then-not-put-clause-too_many : goal.returns-then-not-put-clause-too_many
returns-then-not-put-clause-too_many c =
    let list = c.args.list.now in
    let i = c.loop-pid.pid-index in
    let pid = get_or list i 0 in
    let more : put_all c.args.pids.now (take (i + 1) list) ≡ put pid c.loop-pid.all.items =
    put_all_more c.args.pids.now list i c.loop-pid-test.true ∙ ap (put pid) (sym c.loop-pid.invariant.united) in
    omega (arith, c.if-not-put.ensures.added, ap length more, length-put_all-take c.args.pids.now list (i + 1))

pub loop-pid-preserved : goal.loop-pid-preserved
loop-pid-preserved c =
    let list = c.args.list.now in
    let i = c.loop-pid.pid-index in
    let pid = get_or list i 0 in
    let more = put_all_more c.args.pids.now list i c.loop-pid-test.true in
    record {
      united = c.if-not-put.ensures.added ∙ ap (put pid) c.loop-pid.invariant.united ∙ sym more;
      rising = subst (IsRising 0) (sym c.if-not-put.ensures.added) (rising-put 0 pid c.loop-pid.all.items (omega arith) c.loop-pid.invariant.rising);
      few = c.put.ensures.few;
    }
