use Rattle.std.proofs.Common.{◌≡◌, Some, None, ap, ◌∙◌, rules, subst, sym}
use Rattle.std.specs.List.{slice_get}
use Rattle.std.specs.Option.{option_map}
use Rattle.satip_state.specs.Standing.{StandsFor}
use Rattle.satip_state.specs.Views.{kept_view}
use Rattle.satip_state.proofs.Outlooks.{few_streams}
use Rattle.satip_state.proofs.Viewing.{view_placed}
use Rattle.satip_state.proofs.parts.Parts.view_at.Goals as goal

pub returns-in-None-clause-view : goal.returns-in-None-clause-view
returns-in-None-clause-view c = λ config st stands.
    let found : None ≡ slice_get c.args.self.now.table.streams c.args.place = search rules in
    ap (option_map (kept_view c.args.self.now)) found ∙ view_placed config c.args.self.now st stands c.args.place

pub returns-in-Some-clause-view : goal.returns-in-Some-clause-view
returns-in-Some-clause-view c = λ config st stands.
    let found : Some c.in-Some.stream.now ≡ slice_get c.args.self.now.table.streams c.args.place = search rules in
    ap Some c.shown.ensures.view ∙ ap (option_map (kept_view c.args.self.now)) found ∙ view_placed config c.args.self.now st stands c.args.place

pub returns-in-None-clause-few : goal.returns-in-None-clause-few
returns-in-None-clause-few c =
    λ config st stands. few_streams config _ st (subst (λ v. StandsFor config v st) (sym c.self.view_is) stands) c.self.invariant.table

pub returns-in-Some-clause-few : goal.returns-in-Some-clause-few
returns-in-Some-clause-few c =
    λ config st stands. few_streams config _ st (subst (λ v. StandsFor config v st) (sym c.self.view_is) stands) c.self.invariant.table
