use Rattle.std.proofs.Common.{◌≡◌, ◌∙◌, ap, sym, subst, length, cond}
use Rattle.std.specs.List.{refill, list_any}
use Rattle.std.proofs.lemmas.Bool.{and_parts}
use Rattle.satip_fronts.specs.FrontEnds.{FrontEnds, Sound, ended}
use Rattle.satip_fronts.specs.Rows.{is_at}
use Rattle.satip_fronts.specs.View.{front_ends}
use Rattle.satip_fronts.proofs.MapOver.{refill_same}
use Rattle.satip_fronts.proofs.Soundness.{ended_made, sound_ended}
use Rattle.satip_fronts.proofs.fronts.Fronts.end.Goals as goal

-- what the fields are once the recording ended
fields : (c : goal.After-self-1)
    → front_ends (record {
      fronts = c.self.inside.fronts;
      muxes = c.self.inside.muxes;
      rows =
          record { items = refill (length c.self.inside.rows.items) c.self.inside.rows.items c.end_front.new.rows };
      places = c.self.inside.places;
      counts =
          c.self.inside.counts;
    }) ≡ ended c.args.self.now c.args.front
fields c =
    let long = c.end_front.auto.rows ∙ ap length c.deref_mut.ensures.value in
    ended_made (front_ends c.self.inside) c.args.front c.deref_mut.result.now c.end_front.new.rows _ c.deref_mut.ensures.value c.end_front.ensures.ended
    (refill_same c.self.inside.rows.items c.end_front.new.rows long)
    ∙ ap (λ (v : FrontEnds). ended v c.args.front) c.self.view_is

pub invariant_of-self : goal.invariant_of-self
invariant_of-self c =
    let current = and_parts _ _ (sym (c.if-current.ensures).current) in
    let served = ap (λ (v : FrontEnds). list_any (is_at c.args.front) v.places) (sym c.self.view_is) ∙ current.0 in
    record {
      sound = subst Sound (sym (fields c)) (sound_ended c.args.self.now c.args.front (subst Sound c.self.view_is c.self.invariant.sound) served);
      counted = c.self.invariant.counted;
    }

pub returns-then-current-clause-ended : goal.returns-then-current-clause-ended
returns-then-current-clause-ended c =
    fields c ∙ ap (λ b. cond b (ended c.args.self.now c.args.front) c.args.self.now) (sym c.if-current.true)

pub returns-then-current-clause-sound : goal.returns-then-current-clause-sound
returns-then-current-clause-sound c = (invariant_of-self c).sound
