-- The results of a try.
use Rattle.std.specs.Prelude.{ℕ}
use Rattle.satip_turn.specs.declared.cell.Tried.{Tried}
use Rattle.satip_turn.specs.declared.cell.Tried.TheVariants.{Done, Busy, Spent}

-- a fact for each result
abbrev pub MatchTried : {A : Type 0} → Tried A → (A → Type 0) → Type 0 → Type 0 → Type 0
MatchTried (Done answer) P Q R = P answer
MatchTried Busy P Q R = Q
MatchTried Spent P Q R = R

-- a fact if the call was made
abbrev pub OnDone : {A : Type 0} → Tried A → Type 0 → Type 0
OnDone (Done answer) P = P
OnDone Busy P = Unit {0}
OnDone Spent P = Unit {0}

-- a fact if the history is full
abbrev pub OnSpent : {A : Type 0} → Tried A → Type 0 → Type 0
OnSpent (Done answer) P = Unit {0}
OnSpent Busy P = Unit {0}
OnSpent Spent P = P

-- a fact if the call was not made
abbrev pub OnUndone : {A : Type 0} → Tried A → Type 0 → Type 0
OnUndone (Done answer) P = Unit {0}
OnUndone Busy P = P
OnUndone Spent P = P

-- 1 if the turn was found taken, else 0
abbrev pub busy_count : {A : Type 0} → Tried A → ℕ
busy_count (Done answer) = 0
busy_count Busy = 1
busy_count Spent = 0
