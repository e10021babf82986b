use Rattle.std.proofs.Common.{◌∙◌, ap, sym, find, is_some, List}
use Rattle.satip_tune.specs.declared.frontends.Front.{Front}
use Rattle.satip_fronts.specs.Openings.{is_open}
use Rattle.satip_fronts.specs.FrontEnds.{FrontEnds}
use Rattle.satip_fronts.proofs.Finding.{find_here, find_further, find_none}
use Rattle.satip_fronts.proofs.fronts.Fronts.has_open.Goals as goal

pub returns-then-is_open_at : goal.returns-then-is_open_at
returns-then-is_open_at c =
    let opening = is_open c.args.self.now.rows c.args.mux c.args.others.now c.args.tuning.now in
    let here = find_here opening c.deref-front-items.result.now c.loop-front.front-index _ c.loop-front-test.true c.loop-front.invariant
    (sym (c.if-is_open_at.ensures).opening) in
    let same = c.deref-front-items.ensures.value ∙ ap (λ (v : FrontEnds). v.fronts) c.self.view_is in
    record { found = ap is_some (here ∙ ap (λ (fronts : List Front). find opening fronts) same) }

pub loop-front-preserved : goal.loop-front-preserved
loop-front-preserved c =
    find_further (is_open c.args.self.now.rows c.args.mux c.args.others.now c.args.tuning.now) c.deref-front-items.result.now c.loop-front.front-index _
    c.loop-front-test.true c.loop-front.invariant (sym (c.if-is_open_at.ensures).opening)

pub returns : goal.returns
returns c =
    let opening = is_open c.args.self.now.rows c.args.mux c.args.others.now c.args.tuning.now in
    let none = find_none opening c.deref-front-items.result.now c.loop-front.front-index c.loop-front-test.false c.loop-front.invariant in
    let same = c.deref-front-items.ensures.value ∙ ap (λ (v : FrontEnds). v.fronts) c.self.view_is in
    record { found = ap is_some (none ∙ ap (λ (fronts : List Front). find opening fronts) same) }
