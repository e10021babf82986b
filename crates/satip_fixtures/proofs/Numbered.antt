-- Front ends that are numbered in order, and one more.
use Rattle.std.proofs.Common.{◌≡◌, ℕ, ◌+◌, List, [], ◌∷◌, ◌++◌, length, arith}
use Rattle.satip_tune.specs.declared.frontends.Front.{Front}
use Rattle.satip_fronts.specs.FrontEnds.{IsNumbered}

pub numbered_more : (from : ℕ) (fronts : List Front) (front : Front) → IsNumbered from fronts
    → front.number ≡ from + length fronts → IsNumbered from (fronts ++ front ∷ [])
numbered_more from [] front numbered is = (omega (arith, is), tt)
numbered_more from (first ∷ fronts) front numbered is =
    (numbered.0, numbered_more (from + 1) fronts front numbered.1 (omega (arith, is)))
