-- Passes of a cell that jobs call.
use Rattle.std.specs.Prelude.{◌≡◌, List, [], ◌∷◌, ◌++◌, map, length}
use Rattle.satip_base.specs.declared.limits.TheConstants.{LONGEST_HISTORY}
use Rattle.satip_base.specs.Output.{Output}
use Rattle.satip_base.specs.declared.entry.Entry.{Entry}
use Rattle.satip_base.specs.Lists.{Begins}
use Rattle.satip_plain.specs.declared.setting.Setting.{Setting}
use Rattle.satip_turn.specs.declared.view.Row.{Row}
use Rattle.satip_turn.specs.Shown.{Shown}
use Rattle.satip_turn.specs.Views.{row}
use Rattle.satip_jobs.specs.declared.end.ServeEnd.{ServeEnd}
use Rattle.satip_jobs.specs.declared.end.ServeEnd.TheVariants.{Served, DoorsFault, HistoryFull}

-- an entry, a caller with its entries, and a pass, over these events and answers
abbrev pub ItemOf : Type 0 → Type 0 → Type 0
ItemOf E A = Entry E A Output

abbrev pub CallerOf : Type 0 → Type 0 → Type 0
CallerOf E A = Row E A Output

abbrev pub PassOf : Type 0 → Type 0 → Type 0
PassOf E A = Shown E A Output Setting

-- the history has the greatest length
abbrev pub IsFull : {E A : Type 0} → List (ItemOf E A) → Type 0
IsFull h = length h ≡ LONGEST_HISTORY

-- the callers of passes
abbrev pub callers_of : {E A : Type 0} → List (PassOf E A) → List (CallerOf E A)
callers_of passes = map (λ p. row p.number p.own) passes

-- a pass into which none was joined and from which none was split off
pub record IsAlone {E A : Type 0} (p : PassOf E A) : Type 0 where
  pub kept : p.kept ≡ []
  pub made : p.made ≡ []

-- such a pass that has no entry either
pub record IsNew {E A : Type 0} (p : PassOf E A) : Type 0 where
  pub own : p.own ≡ []
  pub alone : IsAlone p

-- a stop was executed, after all that had been seen
pub record MadeStop {E A : Type 0} (IsStop : ItemOf E A → Type 0) (p q : PassOf E A) : Type 0 where
  pub between : List (ItemOf E A)
  pub stop : ItemOf E A
  pub is_stop : IsStop stop
  pub seen : q.seen ≡ (p.seen ++ between) ++ stop ∷ []
  pub own : q.own ≡ p.own ++ stop ∷ []

-- there was no room for a stop
pub record MadeNone {E A : Type 0} (p q : PassOf E A) : Type 0 where
  pub full : IsFull q.seen
  pub begins : Begins p.seen q.seen
  pub own : q.own ≡ p.own

-- how a stop ended: it was executed, or the history is full
abbrev pub Stops : {E A : Type 0} → (ItemOf E A → Type 0) → ServeEnd → (p q : PassOf E A) → Type 0
Stops IsStop Served p q = MadeStop IsStop p q
Stops IsStop DoorsFault p q = ⊥
Stops IsStop HistoryFull p q = MadeNone p q
