use Rattle.std.proofs.Common.{ap, ◌∙◌, subst}
use Rattle.satip_pids.specs.Pids.{IsPidSet, has_pid}
use Rattle.satip_pids.proofs.SetViews.{has_pid_view, is_set_view}
use Rattle.satip_pids.proofs.pid_set.PidSet.has.Goals as goal

pub returns-clause-selected : goal.returns-clause-selected
returns-clause-selected c =
    let s = c.self.inside in
    c.has_bit.ensures.is_set ∙ has_pid_view s.words s.count c.args.pid c.self.invariant c.requires.below ∙ ap (λ set. has_pid set c.args.pid) c.self.view_is

pub returns-clause-limits : goal.returns-clause-limits
returns-clause-limits c = subst IsPidSet c.self.view_is (is_set_view c.self.inside.words c.self.inside.count c.self.invariant)
