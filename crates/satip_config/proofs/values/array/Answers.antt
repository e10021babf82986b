use Rattle.std.proofs.Common.{◌≡◌, Some, rules}
use Rattle.toml.specs.Data.{as_array}
use Rattle.toml.specs.View.{view, array_view}
use Rattle.satip_config.specs.Values.{array}
use Rattle.satip_config.proofs.Listed.{listed-items_view}
use Rattle.satip_config.proofs.values.array.Goals as goal

pub returns-in-Some : goal.returns-in-Some
unfolding array
returns-in-Some c =
    let found : Some (array_view c.in-Some.items.now) ≡ as_array (view c.args.value.now) = search (rules, c.in-Some.ensures) in
    record { value = rw (← found, listed-items_view, c.as_slice.ensures.value) }
