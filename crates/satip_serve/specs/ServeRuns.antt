-- A run of the server with all its jobs.
use Rattle.std.specs.Prelude.{◌≡◌, ◌≢◌, ℕ, ◌⊎◌, true, List, [], ◌∷◌, ◌++◌, length}
use Rattle.satip_base.specs.Lists.{Each, Has}
use Rattle.satip_base.specs.History.{own_of}
use Rattle.satip_plain.specs.declared.events.Event.TheVariants.{Stop}
use Rattle.satip_plain.specs.declared.setting.Setting.{Setting}
use Rattle.satip_plain.specs.Histories.{Item, Legal}
use Rattle.satip_turn.specs.Views.{numbers_of}
use Rattle.satip_jobs.specs.declared.end.ServeEnd.{ServeEnd}
pub use Rattle.satip_jobs.specs.Runs.{Along, MatchEnd}
use Rattle.satip_shared.specs.Calling.{ServerPass}
use Rattle.satip_desk.specs.Views.{WorkerView, JobsView}
use Rattle.satip_serve.specs.Done.{Caller, IsFull, WorkerDone, PumpDone, TickerDone}

-- caller 0 has one entry, a stop, and none of these callers has an entry after it
pub record StopsOnce (h : List Item) (callers : List Caller) : Type 0 where
  pub before : List Item
  pub stop : Item
  pub after : List Item
  pub are : h ≡ before ++ stop ∷ after
  pub event : stop.event ≡ Stop
  pub own : own_of 0 h ≡ stop ∷ []
  pub last : Each (λ r. own_of r.number after ≡ []) callers

-- there was no room for a stop: the history is full (`full`), and caller 0 has no entry
pub record HasNoStop (full : Type 0) (h : List Item) : Type 0 where
  pub full_is : full
  pub own : own_of 0 h ≡ []

-- the status says that the history is full, and it is
abbrev pub EndsFull : (status : ℕ) → List Item → Type 0
EndsFull status h = (status ≡ 9) × IsFull h

-- all jobs ran over one history, which is legal in the setting. `pass` is the one into which the passes of their callers were joined: it has seen that history,
-- and keeps one caller for each job. An entry of any other caller is the one stop, of caller 0. If `full` doesn't hold, no job ended because the history is
-- full, and the stop was executed. `jobs` are the kits that the jobs left
pub record ServeRun (conn_tells outlet_tells full : Type 0) (c : Setting) (accepts : ℕ) (pass : ServerPass) (jobs : JobsView) : Type 0 where
  -- the callers in the order of jobs: workers, pumps, ticker
  pub of_workers : List Caller
  pub of_pumps : List Caller
  pub of_ticker : Caller
  pub callers : pass.kept ≡ of_workers ++ of_pumps ++ of_ticker ∷ []
  -- the numbers of workers and pumps are those of the setting
  pub worker_count : length jobs.workers ≡ c.config.workers
  pub pump_count : length jobs.pumps ≡ length c.config.fronts
  -- the history's entries with a caller's number are the caller's own entries, in order
  pub entries : Each (λ r. own_of r.number pass.seen ≡ r.own) pass.kept
  pub lawful : Legal c pass.seen
  -- the work of each job
  pub worked : Along (WorkerDone conn_tells outlet_tells full accepts) 1 jobs.workers of_workers
  pub pumped : Along (PumpDone outlet_tells full) 1 jobs.pumps of_pumps
  pub ticked : TickerDone outlet_tells full c.start jobs.ticker of_ticker
  -- the stop, unless the history is full
  pub stopped : StopsOnce pass.seen of_workers ⊎ HasNoStop full pass.seen
  -- each entry has the number of caller 0 or of one of these callers
  pub covered : Each (λ e. Has e.caller (0 ∷ numbers_of pass.kept)) pass.seen

-- the doors of at least one worker failed
abbrev pub HasFault : List WorkerView → Type 0
HasFault [] = ⊥
HasFault (worker ∷ workers) = (worker.hall.faults ≢ 0) ⊎ HasFault workers

-- all doors ended, those of one worker failed, or the history is full
abbrev pub EndTells : ServeEnd → List Item → List WorkerView → Type 0
EndTells end seen workers = MatchEnd end (Each (λ w. w.hall.ended ≡ true) workers) (HasFault workers) (IsFull seen)
