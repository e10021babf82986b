use Rattle.satip_state.specs.contracts.parts.Parts.{the_view}
use Rattle.satip_state.proofs.RequestFound.{begin_is}
use Rattle.satip_state.proofs.parts.Parts.begin.Goals as goal

pub returns-clause-begun : goal.returns-clause-begun
returns-clause-begun c =
    begin_is (the_view c.self.inside) c.args.self.now c.args.id c.in-Some.slot c.in-Some-find.session.now c.in-Some-find_stream.stream.now c.set.new.self
    c.subscribe_http.new.flow c.saturating_add-end.result c.self.view_is
    c.in-Some.ensures.slot c.in-Some-find.ensures.found c.in-Some-find_stream.ensures.found c.subscribe_http.ensures.added c.saturating_add-end.ensures
    c.set.ensures.replaced
