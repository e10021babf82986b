use Rattle.std.proofs.Common.{◌≡◌, ◌+◌, length, get_or, take, sym, ap, ◌∙◌, arith}
use Rattle.satip_pids.specs.Rising.{put, put_all}
use Rattle.satip_pids.specs.Bits.{members}
use Rattle.satip_pids.proofs.RisingLists.{put_all_more, length-put_all-take}
use Rattle.satip_pids.proofs.bits.add_bits.Goals as goal

-- what one more PID makes too long is no longer than what all of them make
pub returns-in_default-clause-added : goal.returns-in_default-clause-added
returns-in_default-clause-added c =
    let list = c.args.list.now in
    let i = c.loop-pid.pid-index in
    let before = members c.args.words.now in
    let pid = get_or list i 0 in
    let more : put_all before (take (i + 1) list) ≡ put pid (members c.loop-pid.words) =
    put_all_more before list i c.loop-pid-test.true ∙ ap (put pid) (sym c.loop-pid.invariant.added) in
    omega (arith, c.in_default.ensures.added, ap length more, length-put_all-take before list (i + 1))

pub loop-pid-preserved : goal.loop-pid-preserved
loop-pid-preserved c =
    let list = c.args.list.now in
    let i = c.loop-pid.pid-index in
    let more = put_all_more (members c.args.words.now) list i c.loop-pid-test.true in
    record {
      added = c.in-Some.ensures.added ∙ ap (put (get_or list i 0)) c.loop-pid.invariant.added ∙ sym more;
      listed = c.in-Some.ensures.listed;
    }
