use Rattle.std.proofs.Common.{◌∙◌, sym, subst, Some, None}
use Rattle.satip_state.specs.Standing.{StandsFor}
use Rattle.satip_state.proofs.Housed.{all_housed, housed_row}
use Rattle.satip_state.proofs.Looking.{rtsp_looked, only_looked}
use Rattle.satip_state.proofs.parts.Parts.rtsp_session.Goals as goal

pub returns-in-None-clause-session : goal.returns-in-None-clause-session
returns-in-None-clause-session c = λ cfg st stands.
    let at = subst (λ v. StandsFor cfg v st) (sym c.self.view_is) stands in
    rtsp_looked cfg _ st c.args.id None at c.self.invariant.table c.in-None.ensures.found

pub returns-in-Some-clause-session : goal.returns-in-Some-clause-session
returns-in-Some-clause-session c = λ cfg st stands.
    let at = subst (λ v. StandsFor cfg v st) (sym c.self.view_is) stands in
    c.only_rtsp.ensures.rtsp ∙ rtsp_looked cfg _ st c.args.id (Some c.in-Some.session.now) at c.self.invariant.table c.in-Some.ensures.found

pub returns-in-Some-clause-rtsp : goal.returns-in-Some-clause-rtsp
returns-in-Some-clause-rtsp c = λ cfg st stands.
    let at = subst (λ v. StandsFor cfg v st) (sym c.self.view_is) stands in
    only_looked cfg _ st c.args.id c.in-Some.session.now c.only_rtsp.result at c.only_rtsp.ensures.rtsp c.in-Some.ensures.found

pub returns-in-Some-clause-housed : goal.returns-in-Some-clause-housed
returns-in-Some-clause-housed c = λ cfg st stands.
    let at = subst (λ v. StandsFor cfg v st) (sym c.self.view_is) stands in
    housed_row st c.args.id c.only_rtsp.result (all_housed cfg _ st at c.self.invariant.table)
    (c.only_rtsp.ensures.rtsp ∙ rtsp_looked cfg _ st c.args.id (Some c.in-Some.session.now) at c.self.invariant.table c.in-Some.ensures.found)
