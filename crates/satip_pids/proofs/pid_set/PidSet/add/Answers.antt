use Rattle.std.proofs.Common.{◌≡◌, refl, sym, ◌∙◌, subst}
use Rattle.satip_pids.specs.Pids.{Every, IsPidSet, listed}
use Rattle.satip_pids.proofs.SetViews.{every_view, every_added, every_members, every_few, was_listed, grown_view, many_grown, set_listed, added_exact, added_members, added_few, refused_exact}
use Rattle.satip_pids.proofs.pid_set.PidSet.add.Goals as goal

-- the set of all before
every : (c : goal.Then-self-eq-EVERY) → c.args.self.now ≡ Every
every c = sym c.self.view_is ∙ every_view c.self.inside.words c.self.inside.count c.if-self-eq-EVERY.true

pub returns-then-self-eq-EVERY-clause-exact : goal.returns-then-self-eq-EVERY-clause-exact
returns-then-self-eq-EVERY-clause-exact c = every_added c.args.self.now c.args.list.now (every c)

pub returns-then-self-eq-EVERY-clause-members : goal.returns-then-self-eq-EVERY-clause-members
returns-then-self-eq-EVERY-clause-members c = every_members c.args.self.now c.args.list.now (every c)

pub returns-then-self-eq-EVERY-clause-too_many : goal.returns-then-self-eq-EVERY-clause-too_many
returns-then-self-eq-EVERY-clause-too_many c =
    ((λ same. cc), (λ many. absurd (every_few c.args.self.now c.args.list.now (every c) many)))

pub returns-then-self-eq-EVERY-clause-limits : goal.returns-then-self-eq-EVERY-clause-limits
returns-then-self-eq-EVERY-clause-limits c = subst IsPidSet (sym (every c)) tt

pub returns-in_default-clause-exact : goal.returns-in_default-clause-exact
returns-in_default-clause-exact c =
    let s = c.self.inside in
    let was = was_listed c.args.self.now s.words s.count c.self.view_is c.self.invariant c.if-self-eq-EVERY.false in
    refused_exact c.args.self.now c.args.list.now (many_grown c.args.self.now s.words c.args.list.now was c.in_default.ensures.added)

pub returns-in_default-clause-too_many : goal.returns-in_default-clause-too_many
returns-in_default-clause-too_many c =
    let s = c.self.inside in
    let was = was_listed c.args.self.now s.words s.count c.self.view_is c.self.invariant c.if-self-eq-EVERY.false in
    let many = many_grown c.args.self.now s.words c.args.list.now was c.in_default.ensures.added in
    ((λ same. many), (λ lt. refl))

pub returns-clause-exact : goal.returns-clause-exact
returns-clause-exact c =
    let s = c.self.inside in
    let list = c.args.list.now in
    let us = c.add_bits.new.words in
    let total = c.in-Some.count in
    let was = was_listed c.args.self.now s.words s.count c.self.view_is c.self.invariant c.if-self-eq-EVERY.false in
    let made = grown_view c.args.self.now s.words us total list was c.in-Some.ensures.added c.in-Some.ensures.listed in
    added_exact c.args.self.now _ list made (set_listed us total c.in-Some.ensures.listed)

pub returns-clause-members : goal.returns-clause-members
returns-clause-members c =
    let s = c.self.inside in
    let list = c.args.list.now in
    let was = was_listed c.args.self.now s.words s.count c.self.view_is c.self.invariant c.if-self-eq-EVERY.false in
    let made = grown_view c.args.self.now s.words c.add_bits.new.words c.in-Some.count list was c.in-Some.ensures.added c.in-Some.ensures.listed in
    added_members c.args.self.now _ list made

pub returns-clause-too_many : goal.returns-clause-too_many
returns-clause-too_many c =
    let s = c.self.inside in
    let list = c.args.list.now in
    let us = c.add_bits.new.words in
    let total = c.in-Some.count in
    let was = was_listed c.args.self.now s.words s.count c.self.view_is c.self.invariant c.if-self-eq-EVERY.false in
    let made = grown_view c.args.self.now s.words us total list was c.in-Some.ensures.added c.in-Some.ensures.listed in
    ((λ same. cc), (λ many. absurd (added_few c.args.self.now _ list made (set_listed us total c.in-Some.ensures.listed) many)))

pub returns-clause-limits : goal.returns-clause-limits
returns-clause-limits c = set_listed c.add_bits.new.words c.in-Some.count c.in-Some.ensures.listed
