-- Which lanes are held, by their numbers, and what an entry makes of the one that is looked at.
use Rattle.std.proofs.Common.{◌≡◌, ◌∙◌, ℕ, ◌-◌, ◌==◌, Bool, true, false, cond, not, ◌&&◌, List, [], ◌∷◌, ◌++◌, Some, None, refl, sym, ap, inl, inr, arith}
use Rattle.std.specs.Prelude.{◌⊎◌}
use Rattle.std.proofs.lemmas.Bool.{true≢false}
use Rattle.std.proofs.lemmas.Bool.Decides.{nat_tests}
use Rattle.satip_interleave.specs.declared.lane.Lane.{Lane}
use Rattle.satip_interleave.specs.Frames.{frame, fits_behind}
use Rattle.satip_interleave.specs.Lanes.{change_lane, has_number, is_channel_port, lane_of, put_in, without_lane}

-- no lane has the number
abbrev pub Lacks : ℕ → List Lane → Type 0
Lacks x [] = Unit {0}
Lacks x (l ∷ ls) = (has_number x l ≡ false) × Lacks x ls

-- this lane has it, and no other
abbrev pub Stands : ℕ → Lane → List Lane → Type 0
Stands x l [] = ⊥
Stands x l (m ∷ ms) = ((m ≡ l) × (has_number x m ≡ true) × Lacks x ms) ⊎ ((has_number x m ≡ false) × Stands x l ms)

pub lacks_none : (x : ℕ) (ls : List Lane) → Lacks x ls → lane_of x ls ≡ None
lacks_none x [] lacks = refl
lacks_none x (l ∷ ls) lacks = ap (λ t. cond t (Some l) (lane_of x ls)) lacks.0 ∙ lacks_none x ls lacks.1

pub stands_found : (x : ℕ) (l : Lane) (ls : List Lane) → Stands x l ls → lane_of x ls ≡ Some l
stands_found x l [] stands = absurd stands
stands_found x l (m ∷ ms) (inl is) = ap (λ t. cond t (Some m) (lane_of x ms)) is.1 ∙ ap (λ (n : Lane). Some n) is.0
stands_found x l (m ∷ ms) (inr is) = ap (λ t. cond t (Some m) (lane_of x ms)) is.0 ∙ stands_found x l ms is.1

-- a change that keeps numbers
abbrev pub Keeps : (Lane → Lane) → Type 0
Keeps change = (l : Lane) → (change l).number ≡ l.number

pub put_keeps : (port : ℕ) (bytes : List ℕ) → Keeps (put_in port bytes)
put_keeps port bytes l = each (is_channel_port port && not l.broken) (fits_behind l.frames bytes)
  where
    each : (t u : Bool) → (cond t (cond u (record l { frames = l.frames ++ frame (port - 1) bytes ∷ [] }) (record l { broken = true })) l).number ≡ l.number
    each true true = refl
    each true false = refl
    each false u = refl

same_number : (x : ℕ) (change : Lane → Lane) → Keeps change → (l : Lane) → has_number x (change l) ≡ has_number x l
same_number x change keeps l = ap (λ n. n == x) (keeps l)

pub lacks_change : (x n : ℕ) (change : Lane → Lane) → Keeps change → (ls : List Lane) → Lacks x ls → Lacks x (change_lane n change ls)
lacks_change x n change keeps [] lacks = tt
lacks_change x n change keeps (l ∷ ls) lacks = each (has_number n l) (lacks_change x n change keeps ls lacks.1)
  where
    each : (t : Bool) → Lacks x (change_lane n change ls) → Lacks x (cond t (change l ∷ ls) (l ∷ change_lane n change ls))
    each true rest = (same_number x change keeps l ∙ lacks.0, lacks.1)
    each false rest = (lacks.0, rest)

pub lacks_without : (x n : ℕ) (ls : List Lane) → Lacks x ls → Lacks x (without_lane n ls)
lacks_without x n [] lacks = tt
lacks_without x n (l ∷ ls) lacks = each (has_number n l) (lacks_without x n ls lacks.1)
  where
    each : (t : Bool) → Lacks x (without_lane n ls) → Lacks x (cond t ls (l ∷ without_lane n ls))
    each true rest = lacks.1
    each false rest = (lacks.0, rest)

pub lacks_push : (x : ℕ) (m : Lane) (ls : List Lane) → has_number x m ≡ false → Lacks x ls → Lacks x (ls ++ m ∷ [])
lacks_push x m [] other lacks = (other, tt)
lacks_push x m (l ∷ ls) other lacks = (lacks.0, lacks_push x m ls other lacks.1)

pub stands_push : (x : ℕ) (m l : Lane) (ls : List Lane) → has_number x m ≡ false → Stands x l ls → Stands x l (ls ++ m ∷ [])
stands_push x m l [] other stands = absurd stands
stands_push x m l (k ∷ ks) other (inl is) = inl (is.0, is.1, lacks_push x m ks other is.2)
stands_push x m l (k ∷ ks) other (inr is) = inr (is.0, stands_push x m l ks other is.1)

pub lacks_stands : (x : ℕ) (l : Lane) (ls : List Lane) → has_number x l ≡ true → Lacks x ls → Stands x l (ls ++ l ∷ [])
lacks_stands x l [] has lacks = inl (refl, has, tt)
lacks_stands x l (m ∷ ms) has lacks = inr (lacks.0, lacks_stands x l ms has lacks.1)

-- the lane itself is changed
pub stands_change : (x : ℕ) (change : Lane → Lane) → Keeps change → (l : Lane) (ls : List Lane) → Stands x l ls → Stands x (change l) (change_lane x change ls)
stands_change x change keeps l [] stands = absurd stands
stands_change x change keeps l (m ∷ ms) (inl is) = each (has_number x m) is.1
  where
    each : (t : Bool) → t ≡ true → Stands x (change l) (cond t (change m ∷ ms) (m ∷ change_lane x change ms))
    each true e = inl (ap change is.0, same_number x change keeps m ∙ is.1, is.2)
    each false e = absurd (true≢false (sym e))
stands_change x change keeps l (m ∷ ms) (inr is) = each (has_number x m) is.0 (stands_change x change keeps l ms is.1)
  where
    each : (t : Bool) → t ≡ false → Stands x (change l) (change_lane x change ms) → Stands x (change l) (cond t (change m ∷ ms) (m ∷ change_lane x change ms))
    each true e rest = absurd (true≢false e)
    each false e rest = inr (is.0, rest)

-- two numbers that one lane has are one
both_numbers : (x n : ℕ) (l : Lane) → has_number x l ≡ true → has_number n l ≡ true → (n == x) ≡ true
both_numbers x n l a b = grind (arith, nat_tests)

-- another lane is changed, or left
pub stands_other : (x n : ℕ) (change : Lane → Lane) → Keeps change → (n == x) ≡ false → (l : Lane) (ls : List Lane) → Stands x l ls
    → Stands x l (change_lane n change ls)
stands_other x n change keeps other l [] stands = absurd stands
stands_other x n change keeps other l (m ∷ ms) (inl is) = each (has_number n m) refl
  where
    each : (t : Bool) → has_number n m ≡ t → Stands x l (cond t (change m ∷ ms) (m ∷ change_lane n change ms))
    each true e = absurd (true≢false (sym (both_numbers x n m is.1 e) ∙ other))
    each false e = inl (is.0, is.1, lacks_change x n change keeps ms is.2)
stands_other x n change keeps other l (m ∷ ms) (inr is) = each (has_number n m) (stands_other x n change keeps other l ms is.1)
  where
    each : (t : Bool) → Stands x l (change_lane n change ms) → Stands x l (cond t (change m ∷ ms) (m ∷ change_lane n change ms))
    each true rest = inr (same_number x change keeps m ∙ is.0, is.1)
    each false rest = inr (is.0, rest)

pub stands_without : (x n : ℕ) → (n == x) ≡ false → (l : Lane) (ls : List Lane) → Stands x l ls → Stands x l (without_lane n ls)
stands_without x n other l [] stands = absurd stands
stands_without x n other l (m ∷ ms) (inl is) = each (has_number n m) refl
  where
    each : (t : Bool) → has_number n m ≡ t → Stands x l (cond t ms (m ∷ without_lane n ms))
    each true e = absurd (true≢false (sym (both_numbers x n m is.1 e) ∙ other))
    each false e = inl (is.0, is.1, lacks_without x n ms is.2)
stands_without x n other l (m ∷ ms) (inr is) = each (has_number n m) (stands_without x n other l ms is.1)
  where
    each : (t : Bool) → Stands x l (without_lane n ms) → Stands x l (cond t ms (m ∷ without_lane n ms))
    each true rest = is.1
    each false rest = inr (is.0, rest)

-- once it is left, no lane has its number
pub left_lacks : (x : ℕ) (l : Lane) (ls : List Lane) → Stands x l ls → Lacks x (without_lane x ls)
left_lacks x l [] stands = absurd stands
left_lacks x l (m ∷ ms) (inl is) = each (has_number x m) is.1
  where
    each : (t : Bool) → t ≡ true → Lacks x (cond t ms (m ∷ without_lane x ms))
    each true e = is.2
    each false e = absurd (true≢false (sym e))
left_lacks x l (m ∷ ms) (inr is) = each (has_number x m) is.0 (left_lacks x l ms is.1)
  where
    each : (t : Bool) → t ≡ false → Lacks x (without_lane x ms) → Lacks x (cond t ms (m ∷ without_lane x ms))
    each true e rest = absurd (true≢false e)
    each false e rest = (is.0, rest)
