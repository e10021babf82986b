use Rattle.std.specs.Prelude.{◌≡◌, ◌<◌, ◌≤◌, ℕ, List, Option, Some, slice_get}

-- the key has this deadline
abbrev pub HasDeadline : List (Option ℕ) → ℕ → ℕ → Type 0
HasDeadline dues key moment = slice_get dues key ≡ Some (Some moment)

-- each deadline is after this moment
abbrev pub NoneDue : ℕ → List (Option ℕ) → Type 0
NoneDue now dues = (key moment : ℕ) → HasDeadline dues key moment → now < moment

-- the key has the least of the deadlines, which has passed, and no lesser key has the same
pub record IsNextDue (now : ℕ) (dues : List (Option ℕ)) (key : ℕ) : Type 0 where
  pub moment : ℕ
  pub its : HasDeadline dues key moment
  pub passed : moment ≤ now
  pub least : (other later : ℕ) → HasDeadline dues other later → moment ≤ later
  pub first : (other later : ℕ) → HasDeadline dues other later → other < key → moment < later
