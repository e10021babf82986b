use Rattle.std.proofs.Common.{◌≤◌, length, rules, sym, subst}
use Rattle.satip_fronts.specs.FrontEnds.{Sound}
use Rattle.satip_fronts.proofs.Counting.{none_counted}
use Rattle.satip_fronts.proofs.Soundness.{all_free-made, sound_new}
use Rattle.satip_fronts.proofs.fronts.Fronts.make.Goals as goal

pub invariant_of-result : goal.invariant_of-result
invariant_of-result c =
    let made = all_free-made c.args.fronts.items c.args.muxes.items c.deref.result.now c.new_rows-rows.result.items c.no_places-places.result
    c.deref.ensures.value c.new_rows-rows.ensures.rows c.no_places-places.ensures.places in
    let few : length c.args.fronts.items ≤ 16 = search rules in
    let received : length c.args.muxes.items ≤ 256 = search rules in
    record {
      sound = subst Sound (sym made) (sound_new _ _ few received c.requires.numbered);
      counted = none_counted c.no_places-places.result c.no_places-places.ensures.places;
    }

pub returns : goal.returns
returns c = record {
  free = all_free-made c.args.fronts.items c.args.muxes.items c.deref.result.now c.new_rows-rows.result.items c.no_places-places.result c.deref.ensures.value
      c.new_rows-rows.ensures.rows c.no_places-places.ensures.places;
  sound = (invariant_of-result c).sound;
}
