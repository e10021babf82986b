use Rattle.std.proofs.Common.{◌≡◌, ◌∙◌, ℕ, Option, IfSome, Some, false, is_none, option_map, unwrap_or, ap, subst, sym}
use Rattle.std.specs.Option.{option_map_or}
use Rattle.satip_plain.specs.State.{stream_of}
use Rattle.satip_plain.specs.Steps.{found, join, least_free, next_id}
use Rattle.satip_state.specs.Standing.{StandsFor}
use Rattle.satip_core.proofs.SetupLemmas.{placed_made, placed_moved, none_named}
use Rattle.satip_core.proofs.requests.place_session.Goals as goal

pub returns-in-Some : goal.returns-in-Some
returns-in-Some c = record {
  placed = λ cfg st r stands may same is.
      let named = sym c.in-Some.is ∙ is in
      placed_moved cfg _ c.args.peer c.args.draw c.args.ports r st c.in-Some.id _ may named
      (c.move_session.ensures.given ∙ ap (λ (q : Option ℕ). option_map (λ number. (c.in-Some.id, number)) q) (sym same))
      (c.move_session.ensures.moved cfg st stands);
}

pub returns-in-None : goal.returns-in-None
returns-in-None c = record {
  placed = λ cfg st r stands may same is.
      let named = sym c.in-None.is ∙ is in
      let room = may.makes (none_named st r named) in
      let lives = subst (λ (q : Option ℕ). IfSome q (λ number. is_none (stream_of st number) ≡ false)) same may.lives in
      placed_made cfg _ c.args.peer c.args.draw c.args.ports r st _ named
      (c.make_session.ensures.given cfg st stands room lives
      ∙ ap (λ (q : Option ℕ). Some (next_id st c.args.draw, unwrap_or q (least_free st.streams))) (sym same))
      (subst (λ (q : Option ℕ). StandsFor cfg c.make_session.new.parts
      (option_map_or (λ number. join false c.args.peer c.args.draw c.args.ports number st) q (found false c.args.peer c.args.draw c.args.ports st))) (sym same)
      (c.make_session.ensures.made cfg st stands room lives))
      (λ nowhere. c.make_session.ensures.untuned cfg st stands room (sym same ∙ nowhere));
}
