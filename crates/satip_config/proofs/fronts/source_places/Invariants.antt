use Rattle.std.proofs.Common.{◌≡◌, ℕ, ◌<◌, ◌==◌, ◌||◌, false, length, get_or, drop, option_and_then}
use Rattle.std.specs.List.{list_any, filter_map}
use Rattle.toml.specs.Data.{as_integer}
use Rattle.toml.specs.View.{view}
use Rattle.satip_config.specs.Values.{within}
use Rattle.satip_config.proofs.fronts.source_places.Given as goal

-- what is marked and what is still to be marked is what is to be marked in all
abbrev pub invariant-loop-item : goal.invariant-loop-item
invariant-loop-item l = record {
  whole : length l.places ≡ 256;
  marked : (k : ℕ) → k < 256
      → (get_or l.places k false || list_any (λ n. n == k) (filter_map (λ v. option_and_then (within 1 255) (as_integer (view v))) (drop l.item-index l.items)))
      ≡ list_any (λ n. n == k) (filter_map (λ v. option_and_then (within 1 255) (as_integer (view v))) l.items);
}
