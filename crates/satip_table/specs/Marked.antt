-- The fields of an order.
use Rattle.std.specs.Prelude.{◌≡◌, ◌<◌, ◌≤◌, ℕ, true, false, slice_index_or, vec_capacity}
use Rattle.satip_table.specs.Placed.{is_there}
use Rattle.satip_table.specs.declared.order.Order.TheInside.{Inside}

-- the memory for 64 numbers is allocated, each number is below 64, and the marks say which ones the list has
pub record Marked (a : Inside) : Type 0 where
  pub room : 64 ≤ vec_capacity a.numbers
  pub within : (number : ℕ) → is_there number a.numbers.items ≡ true → number < 64
  pub marks : (number : ℕ) → number < 64 → slice_index_or a.there number false ≡ is_there number a.numbers.items
