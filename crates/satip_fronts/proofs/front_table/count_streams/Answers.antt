use Rattle.std.proofs.Common.{◌∙◌, ◌+◌, None, ap, arith, cond, get_or, sym, take}
use Rattle.std.proofs.lemmas.List.{length-take-le}
use Rattle.std.proofs.lemmas.List.Sums.{count_by-le-length}
use Rattle.satip_fronts.specs.Rows.{is_at}
use Rattle.satip_fronts.proofs.Counting.{counted_one}
use Rattle.satip_fronts.proofs.front_table.count_streams.Goals as goal

-- fewer than 64 are counted so far
pub count_place-requires : goal.count_place-requires
count_place-requires c = record {
  room = λ k inside.
      let before = take c.loop-place.place-index c.args.places.now in
      let all = count_by-le-length (is_at (k + 1)) before in
      let some = length-take-le c.loop-place.place-index c.args.places.now (omega arith) in
      omega (arith, c.loop-place.invariant.counted k (omega (arith, inside, c.loop-place.invariant.long)), all, some, c.requires.few);
}

pub loop-place-preserved : goal.loop-place-preserved
loop-place-preserved c = record {
  counted = λ k within.
      let places = c.args.places.now in
      let i = c.loop-place.place-index in
      c.count_place.ensures.counted k within
      ∙ ap (λ n. n + cond (is_at (k + 1) (get_or places i None)) 1 0) (c.loop-place.invariant.counted k within)
      ∙ sym (counted_one places i k None c.loop-place-test.true);
  long = c.type_inv.counts;
}
