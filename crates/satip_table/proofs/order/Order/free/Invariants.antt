use Rattle.std.proofs.Common.{◌≡◌, ◌-◌, ◌<◌, ℕ, true}
use Rattle.satip_table.specs.Placed.{is_there}
use Rattle.satip_table.proofs.order.Order.free.Given as goal

abbrev pub invariant-loop-number : goal.invariant-loop-number
invariant-loop-number l = (number : ℕ) → number < l.number → is_there number l.self-inside.numbers.items ≡ true

abbrev pub decreases-loop-number : goal.decreases-loop-number
decreases-loop-number l = 64 - l.number
