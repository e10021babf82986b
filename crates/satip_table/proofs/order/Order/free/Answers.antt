use Rattle.std.proofs.Common.{◌≡◌, ◌<◌, ◌+◌, ℕ, List, true, false, length, get_or, ap, sym, arith, inl, inr, ◌⊎◌, ◌∙◌, rules}
use Rattle.std.proofs.lemmas.Bool.{cases_eq}
use Rattle.std.proofs.lemmas.Map.Steps.{le-length_from_below}
use Rattle.satip_table.specs.Placed.{is_there}
use Rattle.satip_table.proofs.order.Order.free.Goals as goal

-- where each number below this one is there, it is at most as great as they are many
fits : (xs : List ℕ) (number : ℕ) → ((other : ℕ) → other < number → is_there other xs ≡ true) → length xs < 64 → number < 64
fits xs number all room = omega (arith, le-length_from_below xs number all)

step : (xs : List ℕ) (number : ℕ) → ((other : ℕ) → other < number → is_there other xs ≡ true) → is_there number xs ≡ true → (other : ℕ) → other < number + 1
    → is_there other xs ≡ true
step xs number all this other below = each (cases_eq other number)
  where
    each : (other ≡ number) ⊎ (other ≡ number → ⊥) → is_there other xs ≡ true
    each (inl same) = ap (λ n. is_there n xs) same ∙ this
    each (inr apart) = all other (omega arith)

pub bounds-self-inside-number : goal.bounds-self-inside-number
bounds-self-inside-number c =
    let room : length c.self.inside.numbers.items < 64 = search rules in
    fits c.self.inside.numbers.items c.loop-number.number c.loop-number.invariant room

pub loop-number-smaller : goal.loop-number-smaller
loop-number-smaller c =
    let room : length c.self.inside.numbers.items < 64 = search rules in
    let below = fits c.self.inside.numbers.items c.loop-number.number c.loop-number.invariant room in
    omega (arith, below)

pub loop-number-preserved : goal.loop-number-preserved
loop-number-preserved c =
    let room : length c.self.inside.numbers.items < 64 = search rules in
    let below = fits c.self.inside.numbers.items c.loop-number.number c.loop-number.invariant room in
    let marked : get_or c.self.inside.there c.loop-number.number false ≡ true = search rules in
    step c.self.inside.numbers.items c.loop-number.number c.loop-number.invariant (sym (c.self.invariant.marks c.loop-number.number below) ∙ marked)

pub returns-clause-within : goal.returns-clause-within
returns-clause-within c =
    let room : length c.self.inside.numbers.items < 64 = search rules in
    fits c.self.inside.numbers.items c.loop-number.number c.loop-number.invariant room
