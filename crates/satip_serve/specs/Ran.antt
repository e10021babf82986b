-- The premises of a run of jobs over a server, and the outcome of the run.
use Rattle.std.specs.Prelude.{◌≡◌, ℕ, List, map, length}
use Rattle.satip_base.specs.Lists.{Each}
use Rattle.satip_plain.specs.declared.setting.Setting.{Setting}
use Rattle.satip_plain.specs.Histories.{Legal}
use Rattle.satip_turn.specs.Shown.{Cell, IsOf, Knows}
use Rattle.satip_turn.specs.Views.{numbers_of}
use Rattle.satip_shared.specs.Calling.{ServerPass}
use Rattle.satip_world.specs.Halls.{IsAtLimit}
use Rattle.satip_jobs.specs.declared.end.ServeEnd.{ServeEnd}
use Rattle.satip_jobs.specs.declared.end.ServeEnd.TheVariants.{Served}
use Rattle.satip_jobs.specs.Passes.{ItemOf, PassOf}
use Rattle.satip_desk.specs.declared.kits.JobKits.{JobKits}
use Rattle.satip_serve.specs.ServeRuns.{ServeRun, EndsFull, EndTells}
use Rattle.satip_serve.specs.Services.{IsFirst}
use Rattle.satip_serve.specs.Servings.{end_of_run}
use Rattle.satip_serve.specs.Statuses.{serving_status}
use Rattle.satip_desk.specs.Views.{WorkerView, PumpView, JobsView}

-- the first pass of a server whose histories are legal so, and the number of kits that its setting says
pub record CanRun {E A D O P M C : Type 0} (legal : Setting → List (ItemOf E A) → Type 0) (server : Cell Setting) (pass : PassOf E A)
    (jobs : JobKits D O P M C) : Type 0 where
  pub of : IsOf pass server
  pub knows : Knows (legal server.setting) pass
  pub first : IsFirst pass
  pub workers : length jobs.workers.items ≡ server.setting.config.workers
  pub pumps : length jobs.pumps.items ≡ length server.setting.config.fronts

-- the kits that jobs left have the workers' keys and the pumps' recordings of those that were given, in order
pub record ComeBack (given left : JobsView) : Type 0 where
  pub keys : map (λ (w : WorkerView). w.key) left.workers ≡ map (λ (w : WorkerView). w.key) given.workers
  pub recordings : map (λ (p : PumpView). p.recording) left.pumps ≡ map (λ (p : PumpView). p.recording) given.pumps

-- if all jobs were served and doors end by their limit alone, the doors of each worker are at their limit
abbrev pub AreAtLimit : (by_limit : Type 0) → ServeEnd → List WorkerView → Type 0
AreAtLimit by_limit end workers = end ≡ Served → by_limit → Each (λ w. IsAtLimit w.hall) workers

-- jobs ran in this setting with the given kits, and left these kits. `pass` is that of caller 0; each pass that was split off was joined into it, in order. If
-- the given kits were new (`AreNew`), it was a serve run, and all doors ended, those of a worker failed, or the history is full
pub record JobsRan (conn_tells outlet_tells : Type 0) (AreNew : ℕ → JobsView → Type 0) (c : Setting) (given : JobsView) (pass : ServerPass)
    (left : JobsView) (end : ServeEnd) : Type 0 where
  pub number : pass.number ≡ 0
  pub joined : pass.made ≡ numbers_of pass.kept
  pub kits_left : ComeBack given left
  pub run : (accepts : ℕ) → AreNew accepts given
      → ServeRun conn_tells outlet_tells (EndsFull (serving_status (end_of_run end)) pass.seen) c accepts pass left
  pub ended : (accepts : ℕ) → AreNew accepts given → EndTells end pass.seen left.workers

-- jobs ran so over this server, and `pass` is a pass of it
pub record HaveRun (conn_tells outlet_tells : Type 0) (AreNew : ℕ → JobsView → Type 0) (server : Cell Setting) (given : JobsView) (pass : ServerPass)
    (left : JobsView) (end : ServeEnd) : Type 0 where
  pub of : IsOf pass server
  pub knows : Knows (Legal server.setting) pass
  pub jobs : JobsRan conn_tells outlet_tells AreNew server.setting given pass left end
