-- The run of a serve's jobs.
use Rattle.std.specs.Prelude.{◌≡◌, ℕ, ◌⊎◌, true, List}
use Rattle.satip_base.specs.Lists.{Each}
use Rattle.satip_plain.specs.Histories.{Legal}
use Rattle.satip_plain.specs.declared.setting.Setting.{Setting}
use Rattle.satip_turn.specs.Shown.{Cell, IsOf, Knows}
use Rattle.satip_shared.specs.Calling.{ServerPass}
use Rattle.satip_turn.specs.Views.{numbers_of}
use Rattle.satip_world.specs.Halls.{IsAtLimit}
use Rattle.satip_serve.specs.declared.all_jobs.Last.{Last}
use Rattle.satip_serve.specs.Done.{IsFull}
use Rattle.satip_serve.specs.Ran.{ComeBack}
use Rattle.satip_serve.specs.ServeRuns.{ServeRun, EndsFull, HasFault}
use Rattle.satip_desk.specs.Views.{WorkerView, JobsView}
use Rattle.satip_serve.specs.Laws.{SendsSelected, ObeysOwners, TellsBusy, PlaysRecordings}

-- the jobs ended with this status: all doors of the workers ended (0), those of one failed (7), or the history is full (9)
pub record JobsEnd (workers : List WorkerView) (full : Type 0) (status : ℕ) : Type 0 where
  pub begun : (status ≡ 0) ⊎ (status ≡ 7) ⊎ (status ≡ 9)
  pub served : status ≡ 0 → Each (λ w. w.hall.ended ≡ true) workers
  pub doors_fault : status ≡ 7 → HasFault workers
  pub history_full : status ≡ 9 → full

-- what the jobs of a serve left, as contracts see it: the server, the pass into which all others were joined, and the kits
pub record LastView : Type 0 where
  pub server : Cell Setting
  pub pass : ServerPass
  pub jobs : JobsView

abbrev pub last_view : {J : Type 0} → (J → JobsView) → Last J → LastView
last_view view l = record { server = l.server; pass = l.pass; jobs = view l.jobs }

-- if the status is 0 and doors end by their limit alone, the doors of each worker are at their limit
abbrev pub EndsAtLimit : (by_limit : Type 0) → List WorkerView → ℕ → Type 0
EndsAtLimit by_limit workers status = status ≡ 0 → by_limit → Each (λ w. IsAtLimit w.hall) workers

-- jobs ran with the given kits, left `l` and ended with this status; each worker's doors end after `accepts` connections
pub record ServingRun (conn_tells outlet_tells : Type 0) (accepts : ℕ) (given : JobsView) (l : LastView) (status : ℕ) : Type 0 where
  -- the pass left is that of caller 0. No two of its callers have one number, and each pass that was split off was joined into it, in order
  pub pass : IsOf l.pass l.server
  pub number : l.pass.number ≡ 0
  pub knows : Knows (Legal l.server.setting) l.pass
  pub joined : l.pass.made ≡ numbers_of l.pass.kept
  -- the jobs ran over one history that keeps the laws. With any other status than 9 no job ended because it is full
  pub run : ServeRun conn_tells outlet_tells (EndsFull status l.pass.seen) l.server.setting accepts l.pass l.jobs
  pub payload : SendsSelected l.server.setting l.pass.seen
  pub owners : ObeysOwners l.server.setting l.pass.seen
  pub busy : TellsBusy l.server.setting l.pass.seen
  pub recordings : PlaysRecordings l.server.setting l.pass.seen l.jobs.pumps
  -- the workers' keys and the pumps' recordings are those of the given kits, in order
  pub kits_left : ComeBack given l.jobs
  pub ends : JobsEnd l.jobs.workers (IsFull l.pass.seen) status
