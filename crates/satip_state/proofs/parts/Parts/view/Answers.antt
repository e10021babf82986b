use Rattle.std.proofs.Common.{◌≡◌, Some, None, find, ap, ◌∙◌, rules}
use Rattle.std.specs.Option.{option_map}
use Rattle.satip_table.specs.Streams.{has_number}
use Rattle.satip_state.specs.Views.{kept_view}
use Rattle.satip_state.proofs.Viewing.{view_numbered}
use Rattle.satip_state.proofs.parts.Parts.view.Goals as goal

pub returns-in-None : goal.returns-in-None
returns-in-None c = record {
  view = λ config st stands.
      let found : None ≡ find (has_number c.args.number) c.args.self.now.table.streams = search rules in
      ap (option_map (kept_view c.args.self.now)) found ∙ view_numbered config c.args.self.now st stands c.args.number;
}

pub returns-in-Some : goal.returns-in-Some
returns-in-Some c = record {
  view = λ config st stands.
      let found : Some c.in-Some.stream.now ≡ find (has_number c.args.number) c.args.self.now.table.streams = search rules in
      ap Some c.shown.ensures.view ∙ ap (option_map (kept_view c.args.self.now)) found ∙ view_numbered config c.args.self.now st stands c.args.number;
}
