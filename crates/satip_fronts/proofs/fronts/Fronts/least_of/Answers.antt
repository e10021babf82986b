use Rattle.std.proofs.Common.{◌∙◌, ap, sym, find, List}
use Rattle.std.specs.Option.{option_map}
use Rattle.satip_tune.specs.declared.frontends.Front.{Front}
use Rattle.satip_fronts.specs.Choice.{suits, least}
use Rattle.satip_fronts.specs.FrontEnds.{FrontEnds, outlook}
use Rattle.satip_fronts.proofs.Finding.{find_here, find_further, find_none}
use Rattle.satip_fronts.proofs.fronts.Fronts.least_of.Goals as goal

pub returns-then-is_suited : goal.returns-then-is_suited
unfolding least outlook
returns-then-is_suited c =
    let suited = suits c.args.case (outlook c.args.self.now c.args.stream) c.args.mux c.args.tuning.now in
    let here = find_here suited c.deref-front-items.result.now c.loop-front.front-index _ c.loop-front-test.true c.loop-front.invariant
    (sym (c.if-is_suited.ensures).suited) in
    let same = c.deref-front-items.ensures.value ∙ ap (λ (v : FrontEnds). v.fronts) c.self.view_is in
    record {
      least = ap (option_map (λ (front : Front). front.number)) (here ∙ ap (λ (fronts : List Front). find suited fronts) same);
    }

pub loop-front-preserved : goal.loop-front-preserved
loop-front-preserved c =
    find_further (suits c.args.case (outlook c.args.self.now c.args.stream) c.args.mux c.args.tuning.now) c.deref-front-items.result.now
    c.loop-front.front-index _ c.loop-front-test.true c.loop-front.invariant (sym (c.if-is_suited.ensures).suited)

pub returns : goal.returns
unfolding least outlook
returns c =
    let suited = suits c.args.case (outlook c.args.self.now c.args.stream) c.args.mux c.args.tuning.now in
    let none = find_none suited c.deref-front-items.result.now c.loop-front.front-index c.loop-front-test.false c.loop-front.invariant in
    let same = c.deref-front-items.ensures.value ∙ ap (λ (v : FrontEnds). v.fronts) c.self.view_is in
    record {
      least = ap (option_map (λ (front : Front). front.number)) (none ∙ ap (λ (fronts : List Front). find suited fronts) same);
    }
