use Rattle.std.proofs.Common.{◌≡◌, ℕ, List, refl, sym, ap, ◌∙◌}
use Rattle.satip_pids.specs.Pids.{Pids, Every, Only, remove_pids}
use Rattle.satip_pids.specs.Bits.{members}
use Rattle.satip_pids.proofs.SetViews.{every_view, was_listed, left_view, set_listed, removed_exact, removed_members}
use Rattle.satip_pids.proofs.pid_set.PidSet.remove.Goals as goal

-- the set of all before
every : (c : goal.Then-self-eq-EVERY) → c.args.self.now ≡ Every
every c = sym c.self.view_is ∙ every_view c.self.inside.words c.self.inside.count c.if-self-eq-EVERY.true

pub returns-then-self-eq-EVERY-clause-exact : goal.returns-then-self-eq-EVERY-clause-exact
returns-then-self-eq-EVERY-clause-exact c = ap (λ set. remove_pids set c.args.list.now) (every c)

pub returns-then-self-eq-EVERY-clause-under_all : goal.returns-then-self-eq-EVERY-clause-under_all
returns-then-self-eq-EVERY-clause-under_all c = ((λ same. every c), (λ all. refl))

pub returns-clause-exact : goal.returns-clause-exact
returns-clause-exact c =
    let s = c.self.inside in
    let list = c.args.list.now in
    let us = c.remove_bits-self-inside.new.words in
    let total = c.remove_bits-self-inside.result in
    let was = was_listed c.args.self.now s.words s.count c.self.view_is c.self.invariant c.if-self-eq-EVERY.false in
    let made = left_view s.words us total list c.remove_bits-self-inside.ensures.left c.remove_bits-self-inside.ensures.listed in
    removed_exact c.args.self.now (members s.words) list _ was made

pub returns-clause-members : goal.returns-clause-members
returns-clause-members c =
    let s = c.self.inside in
    let list = c.args.list.now in
    let us = c.remove_bits-self-inside.new.words in
    let total = c.remove_bits-self-inside.result in
    let was = was_listed c.args.self.now s.words s.count c.self.view_is c.self.invariant c.if-self-eq-EVERY.false in
    let made = left_view s.words us total list c.remove_bits-self-inside.ensures.left c.remove_bits-self-inside.ensures.listed in
    removed_members c.args.self.now (members s.words) list _ was made

-- a set that lists PIDs isn't that of all
not_every : (set : Pids) (pids : List ℕ) → set ≡ Only pids → set ≡ Every → ⊥
not_every set pids was all = cc

pub returns-clause-under_all : goal.returns-clause-under_all
returns-clause-under_all c =
    let s = c.self.inside in
    let was = was_listed c.args.self.now s.words s.count c.self.view_is c.self.invariant c.if-self-eq-EVERY.false in
    ((λ same. cc), (λ all. absurd (not_every c.args.self.now (members s.words) was all)))

pub returns-clause-limits : goal.returns-clause-limits
returns-clause-limits c =
    set_listed c.remove_bits-self-inside.new.words c.remove_bits-self-inside.result c.remove_bits-self-inside.ensures.listed
