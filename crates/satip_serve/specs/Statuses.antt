-- The statuses of serving.
use Rattle.std.specs.Prelude.{◌≡◌, ℕ, List, [], ◌∷◌}
use Rattle.satip_config.specs.Outcomes.{status_of}
use Rattle.satip_config.specs.declared.outcome.Outcome.{Outcome}
use Rattle.satip_config.specs.declared.outcome.Outcome.TheVariants as outcomes
use Rattle.satip_serve.specs.declared.command.ServingEnd.{ServingEnd}
use Rattle.satip_serve.specs.declared.command.ServingEnd.TheVariants.{Served, Configuration, InputFault, DoorsFault, HistoryFull, OutOfMemory}
use Rattle.satip_serve.specs.Servings.{IsServingOf}

-- all statuses of a serve
abbrev pub serve_statuses : List ℕ
serve_statuses = 0 ∷ 3 ∷ 5 ∷ 7 ∷ 9 ∷ 70 ∷ []

-- the outcome of a command that ends so
abbrev pub outcome_of : ServingEnd → Outcome
outcome_of Served = outcomes.Done
outcome_of (Configuration fault) = outcomes.Configuration fault
outcome_of InputFault = outcomes.InputFault
outcome_of DoorsFault = outcomes.DoorsFault
outcome_of HistoryFull = outcomes.HistoryFull
outcome_of OutOfMemory = outcomes.OutOfMemory

-- the status of each end
abbrev pub serving_status : ServingEnd → ℕ
serving_status end = status_of (outcome_of end)

-- the status is that of an end that the configuration's text allows
pub record IsServeSettled (text : List ℕ) (status : ℕ) : Type 0 where
  pub ending : ServingEnd
  pub told : status ≡ serving_status ending
  pub ends : IsServingOf text ending
