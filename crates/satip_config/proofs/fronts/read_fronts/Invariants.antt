use Rattle.std.proofs.Common.{◌≡◌, ◌≤◌, ◌++◌, Ok, vec_len, drop, ◌+◌}
use Rattle.std.specs.List.{filter_map}
use Rattle.toml.specs.Data.{as_table}
use Rattle.toml.specs.View.{view}
use Rattle.satip_config.specs.Steps.{◌>>=◌}
use Rattle.satip_config.specs.Entries.{front_at, entries}
use Rattle.satip_config.proofs.fronts.read_fronts.Given as goal

-- the front ends so far, and those of the items that are left, are those of all items
abbrev pub invariant-loop-item : goal.invariant-loop-item
invariant-loop-item l = record {
  few : vec_len l.fronts ≤ l.item-index;
  left : (entries front_at (vec_len l.fronts + 1) (filter_map (λ v. as_table (view v)) (drop l.item-index l.items)) >>= (λ rest. Ok (l.fronts.items ++ rest)))
      ≡ entries front_at 1 (filter_map (λ v. as_table (view v)) l.items);
}
