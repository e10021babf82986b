use Rattle.std.proofs.Common.{◌<◌, length, refl, subst, rules, arith}
use Rattle.std.proofs.lemmas.Bool.{true≢false}
use Rattle.satip_timer.specs.Deadlines.{HasDeadline, IsNextDue, NoneDue}
use Rattle.satip_timer.proofs.NextDue.{empty_none, read_due, read_none, root_below, root_due, root_later, root_next}
use Rattle.satip_timer.proofs.timer.Timer.due.Goals as goal

pub returns-in_err-key-clause-none : goal.returns-in_err-key-clause-none
returns-in_err-key-clause-none c = (
  λ _. subst (NoneDue c.args.now) c.self.view_is
      (empty_none c.args.now c.self.inside.dues.items c.self.inside.heap c.self.invariant c.in_err-key.ensures.first),
  λ _. search rules,
)

pub returns-in_err-moment-clause-none : goal.returns-in_err-moment-clause-none
returns-in_err-moment-clause-none c =
    let dues = c.self.inside.dues.items in
    let root = c.in_ok-key.ensures.first in
    let below : c.in_ok-key.key < length dues =
    omega (arith, c.self.invariant.placed.whole, root_below c.args.now dues c.self.inside.heap c.in_ok-key.key 0 c.self.invariant root.0 root.1) in
    absurd (read_none dues c.in_ok-key.key c.index.result.now c.index.ensures below (search rules)
    (root_due c.args.now dues c.self.inside.heap c.in_ok-key.key 0 c.self.invariant root.0 root.1))

pub returns-then-moment-now-clause-none : goal.returns-then-moment-now-clause-none
returns-then-moment-now-clause-none c =
    let dues = c.self.inside.dues.items in
    let root = c.in_ok-key.ensures.first in
    let below : c.in_ok-key.key < length dues =
    omega (arith, c.self.invariant.placed.whole, root_below c.args.now dues c.self.inside.heap c.in_ok-key.key 0 c.self.invariant root.0 root.1) in
    let has : HasDeadline dues c.in_ok-key.key c.in_ok-moment.moment =
    read_due dues c.in_ok-key.key c.index.result.now c.index.ensures below c.in_ok-moment.moment (search rules) in (
      λ _. subst (NoneDue c.args.now) c.self.view_is
          (root_later c.args.now dues c.self.inside.heap c.in_ok-key.key c.in_ok-moment.moment c.self.invariant root.0 root.1 has c.if-moment-now.true),
      λ _. refl,
    )

pub returns-clause-none : goal.returns-clause-none
returns-clause-none c =
    let dues = c.self.inside.dues.items in
    let root = c.in_ok-key.ensures.first in
    let below : c.in_ok-key.key < length dues =
    omega (arith, c.self.invariant.placed.whole, root_below c.args.now dues c.self.inside.heap c.in_ok-key.key 0 c.self.invariant root.0 root.1) in
    let has : HasDeadline dues c.in_ok-key.key c.in_ok-moment.moment =
    read_due dues c.in_ok-key.key c.index.result.now c.index.ensures below c.in_ok-moment.moment (search rules) in (
      λ some. absurd (true≢false some),
      λ none. absurd (
          let later : c.args.now < c.in_ok-moment.moment =
          none c.in_ok-key.key c.in_ok-moment.moment (subst (λ ds. HasDeadline ds c.in_ok-key.key c.in_ok-moment.moment) c.self.view_is has) in
          omega (arith, later, c.if-moment-now.false)
          ),
    )

pub returns-clause-next : goal.returns-clause-next
returns-clause-next c =
    let dues = c.self.inside.dues.items in
    let root = c.in_ok-key.ensures.first in
    let below : c.in_ok-key.key < length dues =
    omega (arith, c.self.invariant.placed.whole, root_below c.args.now dues c.self.inside.heap c.in_ok-key.key 0 c.self.invariant root.0 root.1) in
    let has : HasDeadline dues c.in_ok-key.key c.in_ok-moment.moment =
    read_due dues c.in_ok-key.key c.index.result.now c.index.ensures below c.in_ok-moment.moment (search rules) in
    subst (λ ds. IsNextDue c.args.now ds c.in_ok-key.key) c.self.view_is
    (root_next c.args.now dues c.self.inside.heap c.in_ok-key.key c.in_ok-moment.moment c.self.invariant root.0 root.1 has c.if-moment-now.false)
