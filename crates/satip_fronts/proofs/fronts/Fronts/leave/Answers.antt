use Rattle.std.proofs.Common.{◌≡◌, ◌∙◌, ◌-◌, None, ap, sym, subst, length, set}
use Rattle.std.specs.List.{refill}
use Rattle.satip_fronts.specs.FrontEnds.{FrontEnds, Sound, left}
use Rattle.satip_fronts.specs.View.{front_ends}
use Rattle.satip_fronts.proofs.MapOver.{refill_same}
use Rattle.satip_fronts.proofs.Soundness.{left_made, sound_left}
use Rattle.satip_fronts.proofs.fronts.Fronts.leave.Goals as goal

-- what the fields are once the stream left
fields : (c : goal.After-self-2-1)
    → front_ends (record {
      fronts = c.self.inside.fronts;
      muxes = c.self.inside.muxes;
      rows =
          record { items = refill (length c.self.inside.rows.items) c.self.inside.rows.items c.free_unserved.new.rows };
      places =
          set c.self.inside.places (c.args.stream - 1) None;
      counts = c.count_streams-self-inside.result;
    }) ≡ left c.args.self.now c.args.stream
fields c =
    let long = c.free_unserved.auto.rows ∙ ap length c.deref_mut.ensures.value in
    left_made (front_ends c.self.inside) c.args.stream c.deref_mut.result.now c.free_unserved.new.rows _ c.deref_mut.ensures.value
    c.free_unserved.ensures.freed (refill_same c.self.inside.rows.items c.free_unserved.new.rows long)
    ∙ ap (λ (v : FrontEnds). left v c.args.stream) c.self.view_is

pub invariant_of-self : goal.invariant_of-self
invariant_of-self c = record {
  sound = subst Sound (sym (fields c)) (sound_left c.args.self.now c.args.stream (subst Sound c.self.view_is c.self.invariant.sound));
  counted = c.count_streams-self-inside.ensures.counted;
}

pub returns : goal.returns
returns c = record { left = fields c; sound = (invariant_of-self c).sound }
