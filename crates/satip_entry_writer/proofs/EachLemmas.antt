-- What is true of each element of a beginning of a list.
use Rattle.std.proofs.Common.{ℕ, zero, suc, ◌+◌, List, [], ◌∷◌, take, add-one}
use Rattle.std.specs.Prelude.{IfSome, slice_get}
use Rattle.satip_base.specs.Lists.{Each}

more_by : {T : Type 0} (P : T → Type 0) (xs : List T) (i : ℕ) → IfSome (slice_get xs i) P → Each P (take i xs) → Each P (take (suc i) xs)
more_by P [] i h e = tt
more_by P (x ∷ xs) zero h e = (h, tt)
more_by P (x ∷ xs) (suc i) h e = (e.0, more_by P xs i h e.1)

pub each_take_more : {T : Type 0} (P : T → Type 0) (xs : List T) (i : ℕ) → IfSome (slice_get xs i) P → Each P (take i xs) → Each P (take (i + 1) xs)
each_take_more P xs i h e = rw add-one (more_by P xs i h e)
