use Rattle.std.proofs.Common.{◌≡◌, false, true, Some, None, sym, ap, ◌∙◌, rules}
use Rattle.std.specs.List.{slice_get}
use Rattle.satip_state.specs.Kept.{Kept}
use Rattle.satip_state.specs.Turns.{is_row_due}
use Rattle.satip_state.proofs.Reports.{report_nowhere, report_undue}
use Rattle.satip_state.proofs.parts.Parts.report_place.Goals as goal

pub returns-in_default-clause-moved : goal.returns-in_default-clause-moved
returns-in_default-clause-moved c config st stands same =
    let none : slice_get c.args.self.now.table.seats c.args.place ≡ None = search rules in
    report_nowhere config c.args.self.now c.args.out.now st stands c.args.place none

pub returns-then-not-is_report_due-clause-moved : goal.returns-then-not-is_report_due-clause-moved
returns-then-not-is_report_due-clause-moved c config st stands same =
    let got : slice_get c.args.self.now.table.seats c.args.place ≡ Some c.in-Some.seat = search rules in
    let undue : is_row_due c.self.inside.clock c.in-Some.seat.session ≡ false = search rules in
    report_undue config c.args.self.now c.args.out.now st stands c.args.place c.in-Some.seat got
    (ap (λ (v : Kept). is_row_due v.clock c.in-Some.seat.session) (sym c.self.view_is) ∙ undue)

pub returns-clause-moved : goal.returns-clause-moved
returns-clause-moved c config st stands same =
    let got : slice_get c.args.self.now.table.seats c.args.place ≡ Some c.in-Some.seat = search rules in
    let due : is_row_due c.self.inside.clock c.in-Some.seat.session ≡ true = search rules in
    c.report.ensures.moved config st c.args.place stands same got
    (ap (λ (v : Kept). is_row_due v.clock c.in-Some.seat.session) (sym c.self.view_is) ∙ due)
