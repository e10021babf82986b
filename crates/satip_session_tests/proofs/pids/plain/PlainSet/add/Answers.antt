use Rattle.std.proofs.Common.{◌≡◌, length, sym, ap, ◌∙◌, subst, arith}
use Rattle.satip_pids.specs.Rising.{put_all}
use Rattle.satip_pids.specs.Pids.{IsPidRow}
use Rattle.satip_pids.proofs.Sets.{IsPidRow-put_all}
use Rattle.satip_session_tests.proofs.pids.plain.PlainSet.add.Goals as goal

pub invariant_of-self : goal.invariant_of-self
invariant_of-self c =
    let both : c.in_ok-pids.pids.items ≡ put_all c.self.inside.pids.items c.args.list.now =
    c.in_ok-pids.ensures.both ∙ ap (λ xs. put_all xs c.args.list.now) c.as_slice.ensures.value in
    subst IsPidRow (sym both)
    (IsPidRow-put_all c.self.inside.pids.items c.args.list.now c.self.invariant c.requires.below (omega (arith, c.in_ok-pids.ensures.few, ap length both)))
