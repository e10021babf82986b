-- A run of workers, pumps and a ticker over one history.
use Rattle.std.specs.Prelude.{◌≡◌, ℕ, ◌+◌, ◌⊎◌, List, [], ◌∷◌, ◌++◌, length}
use Rattle.satip_base.specs.Lists.{Each, Has}
use Rattle.satip_base.specs.History.{own_of}
use Rattle.satip_plain.specs.declared.setting.Setting.{Setting}
use Rattle.satip_turn.specs.Views.{numbers_of}
use Rattle.satip_jobs.specs.declared.end.ServeEnd.{ServeEnd}
use Rattle.satip_jobs.specs.declared.end.ServeEnd.TheVariants.{Served, DoorsFault, HistoryFull}
use Rattle.satip_jobs.specs.Passes.{ItemOf, CallerOf, PassOf}

-- P holds of the elements at each place, and of the place's number, counted from n; the lists have the same length
abbrev pub Along : {S T : Type 0} → (ℕ → S → T → Type 0) → ℕ → List S → List T → Type 0
Along P n [] [] = Unit {0}
Along P n [] (y ∷ ys) = ⊥
Along P n (x ∷ xs) [] = ⊥
Along P n (x ∷ xs) (y ∷ ys) = P n x y × Along P (n + 1) xs ys

-- caller 0 has one entry, a stop, and none of these callers has an entry after it
pub record StopsOnce {E A : Type 0} (IsStop : ItemOf E A → Type 0) (h : List (ItemOf E A)) (callers : List (CallerOf E A)) : Type 0 where
  pub before : List (ItemOf E A)
  pub stop : ItemOf E A
  pub after : List (ItemOf E A)
  pub are : h ≡ before ++ stop ∷ after
  pub is_stop : IsStop stop
  pub own : own_of 0 h ≡ stop ∷ []
  pub last : Each (λ r. own_of r.number after ≡ []) callers

-- there was no room for a stop: the history is full (`full`), and caller 0 has no entry
pub record HasNoStop {E A : Type 0} (full : Type 0) (h : List (ItemOf E A)) : Type 0 where
  pub full_is : full
  pub own : own_of 0 h ≡ []

-- a value for each job: for the workers and the pumps, in order, and for the ticker
pub record PerJob (W P T : Type 0) : Type 0 where
  pub workers : List W
  pub pumps : List P
  pub ticker : T

-- the terms of a run: the histories that are legal in a setting; whether an entry is a stop; a fact without which no job ended because the history is full; and
-- the condition that each kind of job meets, by its number, its value and its caller
pub record Terms (E A W P T : Type 0) : Type 1 where
  pub legal : Setting → List (ItemOf E A) → Type 0
  pub is_stop : ItemOf E A → Type 0
  pub full : Type 0
  pub worked : ℕ → W → CallerOf E A → Type 0
  pub pumped : ℕ → P → CallerOf E A → Type 0
  pub ticked : T → CallerOf E A → Type 0

-- all jobs ran over one history, which is legal in the setting; `pass` is the one into which the passes of their callers were joined, and has seen it. Each job
-- meets its condition with its caller; each entry seen is of one of these callers, or is the one stop of caller 0
pub record Run {E A W P T : Type 0} (c : Setting) (terms : Terms E A W P T) (pass : PassOf E A) (jobs : PerJob W P T) : Type 0 where
  -- the callers, in the order of jobs: workers, pumps, ticker
  pub of_workers : List (CallerOf E A)
  pub of_pumps : List (CallerOf E A)
  pub of_ticker : CallerOf E A
  pub callers : pass.kept ≡ of_workers ++ of_pumps ++ of_ticker ∷ []
  -- the counts of workers and pumps are those of the setting
  pub worker_count : length jobs.workers ≡ c.config.workers
  pub pump_count : length jobs.pumps ≡ length c.config.fronts
  -- the entries of each caller in the history are its own, in order
  pub entries : Each (λ r. own_of r.number pass.seen ≡ r.own) pass.kept
  pub lawful : terms.legal c pass.seen
  -- each job meets its condition
  pub worked : Along terms.worked 1 jobs.workers of_workers
  pub pumped : Along terms.pumped 1 jobs.pumps of_pumps
  pub ticked : terms.ticked jobs.ticker of_ticker
  -- the stop, unless the history is full
  pub stopped : StopsOnce terms.is_stop pass.seen of_workers ⊎ HasNoStop terms.full pass.seen
  -- each entry is of one of these callers or of caller 0
  pub covered : Each (λ e. Has e.caller (0 ∷ numbers_of pass.kept)) pass.seen

-- a fact for each end
abbrev pub MatchEnd : ServeEnd → (served fault full : Type 0) → Type 0
MatchEnd Served served fault full = served
MatchEnd DoorsFault served fault full = fault
MatchEnd HistoryFull served fault full = full

-- P holds of at least one of these
abbrev pub HasOne : {T : Type 0} → (T → Type 0) → List T → Type 0
HasOne P [] = ⊥
HasOne P (x ∷ xs) = P x ⊎ HasOne P xs
