-- The pauses of a connection, one after another.
use Rattle.std.proofs.Common.{◌≡◌, ℕ, suc, ◌+◌, ◌≤◌, sym, subst}
use Rattle.satip_world.specs.Counts.{Rises}
use Rattle.satip_world.specs.Lines.{Line, WasIdle}
use Rattle.satip_world.specs.Pausing.{RisesBy}
use Rattle.satip_world.proofs.PausingLemmas.{rises_none, rises_once, rises_then}
use Rattle.satip_worker.specs.Pauses.{PausesWhenIdle}

-- the count stayed
pub rises_kept : (n a b c : ℕ) → RisesBy n a b → c ≡ b → RisesBy n a c
rises_kept n a b c r same = let P : ℕ → Type 0 = λ k. RisesBy n a k in subst P (sym same) r

-- no receive found nothing yet
pub pauses_none : (l : Line) (p : ℕ) → PausesWhenIdle l l p p
pauses_none l p = record { idles = 0; found = rises_none l.idles; pauses = rises_none p }

-- one receive found nothing, and a pause followed
pub pauses_idle : (tells : Type 0) (l m n : Line) (p q r : ℕ) → PausesWhenIdle l m p q → WasIdle tells m n → Rises q r → r ≤ suc q → PausesWhenIdle l n p r
pauses_idle tells l m n p q r x idle rises once = record {
  idles = x.idles + 1;
  found = rises_once x.idles l.idles m.idles n.idles x.found idle.idles idle.one_idle;
  pauses = rises_once x.idles p q r x.pauses rises once;
}

-- the connection went on without a receive that found nothing
pub pauses_on : (l m n : Line) (p q : ℕ) → PausesWhenIdle l m p q → n.idles ≡ m.idles → PausesWhenIdle l n p q
pauses_on l m n p q x same = record { idles = x.idles; found = rises_kept x.idles l.idles m.idles n.idles x.found same; pauses = x.pauses }

-- more receives and more pauses
pub pauses_then : (l m n : Line) (p q r : ℕ) → PausesWhenIdle l m p q → PausesWhenIdle m n q r → PausesWhenIdle l n p r
pauses_then l m n p q r x y = record {
  idles = x.idles + y.idles;
  found = rises_then x.idles y.idles l.idles m.idles n.idles x.found y.found;
  pauses = rises_then x.idles y.idles p q r x.pauses y.pauses;
}
