use Rattle.std.proofs.Common.{◌≡◌, ◌≤◌, ◌+◌, ◌++◌, Ok, vec_len, drop}
use Rattle.std.specs.List.{filter_map}
use Rattle.toml.specs.Data.{as_table}
use Rattle.toml.specs.View.{view}
use Rattle.satip_config.specs.Steps.{◌>>=◌}
use Rattle.satip_config.specs.Entries.{mux_at, apart, entries, recordings}
use Rattle.satip_config.proofs.muxes.read_muxes.Given as goal

-- the multiplexes so far, and those of the items that are left, are those of all items
abbrev pub invariant-loop-item : goal.invariant-loop-item
invariant-loop-item l = record {
  few : vec_len l.muxes ≤ l.item-index;
  left : (entries mux_at (vec_len l.muxes + 1) (filter_map (λ v. as_table (view v)) (drop l.item-index l.items))
      >>= (λ rest. Ok (l.muxes.items ++ (apart rest).0, l.files.items ++ (apart rest).1))) ≡ recordings (filter_map (λ v. as_table (view v)) l.items);
}
