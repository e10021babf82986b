use Rattle.std.proofs.Common.{[], replicate, refl, sym, ap}
use Rattle.satip_pids.specs.Pids.{Only, listed}
use Rattle.satip_pids.proofs.SetViews.{none_listed, none_members, grown_view, many_grown, set_listed, added_exact, added_members, added_few, refused_exact}
use Rattle.satip_pids.proofs.pid_set.PidSet.set.Goals as goal

pub add_bits-requires-clause-listed : goal.add_bits-requires-clause-listed
add_bits-requires-clause-listed c = none_listed

pub returns-in_default-clause-exact : goal.returns-in_default-clause-exact
returns-in_default-clause-exact c =
    let list = c.args.list.now in
    refused_exact (Only []) list (many_grown (Only []) (replicate 128 0) list (ap Only (sym none_members)) c.in_default.ensures.added)

pub returns-in_default-clause-too_many : goal.returns-in_default-clause-too_many
returns-in_default-clause-too_many c =
    let many = many_grown (Only []) (replicate 128 0) c.args.list.now (ap Only (sym none_members)) c.in_default.ensures.added in
    ((λ same. many), (λ lt. refl))

pub returns-clause-exact : goal.returns-clause-exact
returns-clause-exact c =
    let list = c.args.list.now in
    let us = c.add_bits.new.words in
    let total = c.in-Some.count in
    let made = grown_view (Only []) (replicate 128 0) us total list (ap Only (sym none_members)) c.in-Some.ensures.added c.in-Some.ensures.listed in
    added_exact (Only []) _ list made (set_listed us total c.in-Some.ensures.listed)

pub returns-clause-members : goal.returns-clause-members
returns-clause-members c =
    let list = c.args.list.now in
    let made = grown_view (Only []) (replicate 128 0) c.add_bits.new.words c.in-Some.count list (ap Only (sym none_members)) c.in-Some.ensures.added
    c.in-Some.ensures.listed in
    added_members (Only []) _ list made

pub returns-clause-too_many : goal.returns-clause-too_many
returns-clause-too_many c =
    let list = c.args.list.now in
    let us = c.add_bits.new.words in
    let total = c.in-Some.count in
    let made = grown_view (Only []) (replicate 128 0) us total list (ap Only (sym none_members)) c.in-Some.ensures.added c.in-Some.ensures.listed in
    ((λ same. cc), (λ many. absurd (added_few (Only []) _ list made (set_listed us total c.in-Some.ensures.listed) many)))

pub returns-clause-limits : goal.returns-clause-limits
returns-clause-limits c = set_listed c.add_bits.new.words c.in-Some.count c.in-Some.ensures.listed
