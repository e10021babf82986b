-- Nothing is left to be marked once the loop is through.
use Rattle.std.proofs.Common.{◌≡◌, ◌==◌, false, [], drop, sym, ◌∙◌, option_and_then}
use Rattle.std.proofs.Math.Bool.{or-false}
use Rattle.std.proofs.lemmas.List.{drop_all}
use Rattle.std.proofs.lemmas.List.FromFn.{fill_by_all}
use Rattle.std.specs.List.{list_any, filter_map}
use Rattle.toml.specs.Data.{as_integer}
use Rattle.toml.specs.View.{view}
use Rattle.satip_config.specs.Values.{within}
use Rattle.satip_config.specs.Entries.{source_places}
use Rattle.satip_config.proofs.fronts.source_places.Goals as goal

pub returns : goal.returns
unfolding source_places
returns c =
    let done : drop c.loop-item.item-index c.args.items.now ≡ [] = drop_all _ _ c.loop-item-test.false in
    let numbers = filter_map (λ v. option_and_then (within 1 255) (as_integer (view v))) c.args.items.now in
    record {
      value = fill_by_all (λ place. list_any (λ n. n == place) numbers) c.loop-item.places 256 false c.loop-item.invariant.whole
          (λ k below. sym (or-false _) ∙ rw done at (c.loop-item.invariant.marked k below));
    }
