use Rattle.std.proofs.Common.{◌≡◌, sym, ap, ◌∙◌, subst}
use Rattle.satip_pids.specs.Rising.{without}
use Rattle.satip_pids.specs.Pids.{IsPidRow}
use Rattle.satip_pids.proofs.Sets.{IsPidRow-without}
use Rattle.satip_session_tests.proofs.pids.plain.PlainSet.remove.Goals as goal

pub invariant_of-self : goal.invariant_of-self
invariant_of-self c =
    let left : c.difference-self-inside.result.items ≡ without c.self.inside.pids.items c.args.list.now =
    c.difference-self-inside.ensures.left ∙ ap (λ xs. without xs c.args.list.now) c.as_slice.ensures.value in
    subst IsPidRow (sym left) (IsPidRow-without c.self.inside.pids.items c.args.list.now c.self.invariant)
