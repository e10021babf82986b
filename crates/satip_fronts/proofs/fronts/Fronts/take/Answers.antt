use Rattle.std.proofs.Common.{◌≡◌, ◌∙◌, ap, sym, subst, None, Some, List, length}
use Rattle.std.specs.Option.{option_map}
use Rattle.std.specs.List.{refill}
use Rattle.satip_tune.specs.Frontends.{mux_for}
use Rattle.satip_tune.specs.declared.frontends.Mux.{Mux}
use Rattle.satip_fronts.specs.declared.choice.Place.{Place}
use Rattle.satip_fronts.specs.FrontEnds.{FrontEnds, Sound, choice, moved}
use Rattle.satip_fronts.specs.View.{front_ends}
use Rattle.satip_fronts.proofs.MapOver.{refill_same}
use Rattle.satip_fronts.proofs.Soundness.{choice_is, moved_made, some_unless_blocked, sound_moved, taken_none, taken_some}
use Rattle.satip_fronts.proofs.fronts.Fronts.take.Goals as goal

-- what was chosen
none_chosen : (c : goal.In-None) → choice c.args.self.now c.args.stream c.args.tuning.now ≡ None
none_chosen c =
    choice_is (front_ends c.self.inside) c.args.self.now c.args.stream c.args.tuning.now c.deref.result.now c.mux_of-mux.result None c.self.view_is
    c.deref.ensures.value c.mux_of-mux.ensures.found (c.in-None.ensures).place

place_chosen : (c : goal.After-self-in-Some-1) → choice c.args.self.now c.args.stream c.args.tuning.now ≡ Some c.in-Some.place
place_chosen c =
    choice_is (front_ends c.self.inside) c.args.self.now c.args.stream c.args.tuning.now c.deref.result.now c.mux_of-mux.result
    (Some c.in-Some.place) c.self.view_is c.deref.ensures.value c.mux_of-mux.ensures.found (c.in-Some.ensures).place

-- what the fields are once the stream moved
fields : (c : goal.After-self-in-Some-1)
    → front_ends (record {
      fronts = c.self.inside.fronts;
      muxes = c.self.inside.muxes;
      rows =
          record { items = refill (length c.self.inside.rows.items) c.self.inside.rows.items c.move_stream.new.rows };
      places = c.move_stream.new.places;
      counts = c.count_streams-self-inside.result;
    }) ≡ moved c.args.self.now c.args.stream c.args.tuning.now c.in-Some.place
fields c =
    let wanted = c.mux_of-mux.ensures.found ∙ ap (λ (muxes : List Mux). mux_for muxes c.args.tuning.now) c.deref.ensures.value in
    let long = c.move_stream.auto.rows ∙ ap length c.deref_mut.ensures.value in
    moved_made (front_ends c.self.inside) c.args.stream c.args.tuning.now c.in-Some.place c.mux_of-mux.result c.deref_mut.result.now c.move_stream.new.rows _
    c.move_stream.new.places
    wanted c.deref_mut.ensures.value c.move_stream.ensures.places c.move_stream.ensures.rows (refill_same c.self.inside.rows.items c.move_stream.new.rows long)
    ∙ ap (λ (v : FrontEnds). moved v c.args.stream c.args.tuning.now c.in-Some.place) c.self.view_is

pub invariant_of-self : goal.invariant_of-self
invariant_of-self c =
    let sound = subst Sound c.self.view_is c.self.invariant.sound in
    record {
      sound = subst Sound (sym (fields c)) (sound_moved c.args.self.now c.args.stream c.args.tuning.now c.in-Some.place sound (place_chosen c));
      counted = c.count_streams-self-inside.ensures.counted;
    }

pub returns-in-None-clause-chosen : goal.returns-in-None-clause-chosen
returns-in-None-clause-chosen c = ap (option_map (λ (place : Place). place.front)) (sym (none_chosen c))

pub returns-in-None-clause-none : goal.returns-in-None-clause-none
returns-in-None-clause-none c = some_unless_blocked c.args.self.now c.args.stream c.args.tuning.now None (none_chosen c)

pub returns-in-None-clause-moved : goal.returns-in-None-clause-moved
returns-in-None-clause-moved c = taken_none c.args.self.now c.args.stream c.args.tuning.now (none_chosen c)

pub returns-in-Some-clause-chosen : goal.returns-in-Some-clause-chosen
returns-in-Some-clause-chosen c = ap (option_map (λ (place : Place). place.front)) (sym (place_chosen c))

pub returns-in-Some-clause-none : goal.returns-in-Some-clause-none
returns-in-Some-clause-none c = some_unless_blocked c.args.self.now c.args.stream c.args.tuning.now (Some c.in-Some.place) (place_chosen c)

pub returns-in-Some-clause-moved : goal.returns-in-Some-clause-moved
returns-in-Some-clause-moved c = fields c ∙ taken_some c.args.self.now c.args.stream c.args.tuning.now c.in-Some.place (place_chosen c)

pub returns-in-Some-clause-sound : goal.returns-in-Some-clause-sound
returns-in-Some-clause-sound c = (invariant_of-self c).sound
