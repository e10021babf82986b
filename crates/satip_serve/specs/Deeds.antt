-- The effect of one job on its kit and on its knowledge of the history, over a service that never returns out of memory.
use Rattle.std.specs.Prelude.{◌≡◌, ℕ, ◌+◌, ◌≤◌, max, false}
use Rattle.satip_base.specs.declared.limits.TheConstants.{LONGEST_HISTORY}
use Rattle.satip_plain.specs.Known.{Known}
use Rattle.satip_pump.specs.declared.ends.JobEnd.{JobEnd}
use Rattle.satip_pump.specs.declared.ends.JobEnd.TheVariants.{Spent as JobSpent, Want as JobWant}
use Rattle.satip_pump.specs.PumpRuns.{PumpRun, PumpState}
use Rattle.satip_pump.specs.TickRuns.{TickRun}
use Rattle.satip_world.specs.Dials.{Dial}
use Rattle.satip_world.specs.Halls.{IsAtLimit}
use Rattle.satip_world.specs.Outboxes.{Outbox}
use Rattle.satip_world.specs.Recordings.{StoreView}
use Rattle.satip_worker.specs.declared.worker.WorkerEnd.{WorkerEnd}
use Rattle.satip_worker.specs.declared.worker.WorkerEnd.TheVariants.{Closed}
use Rattle.satip_worker.specs.WorkerRun.{DoorsState, ServesDoors}
use Rattle.satip_jobs.specs.declared.end.ServeEnd.{ServeEnd}
use Rattle.satip_serve.specs.Ends.{end_of_worker, end_of_job}
use Rattle.satip_desk.specs.Views.{WorkerView, PumpView, TickView}

-- a job: its kit, as contracts see it, and what its caller knows of the history
pub record JobState (V : Type 0) : Type 0 where
  pub kit : V
  pub known : Known

abbrev pub job_state : {V : Type 0} → V → Known → JobState V
job_state kit known = record { kit = kit; known = known }

-- the contract's view of a pump's store and outlet, as `pump_view` is of its kit
abbrev pub play_view : {M O : Type 0} → (M → StoreView) → (O → Outbox) → M → O → PumpView
play_view shelf outbox store outlet = record {
  recording = (shelf store).recording;
  faults = (shelf store).faults;
  lent = (shelf store).lent;
  peak = (shelf store).peak;
  outbox = outbox outlet;
}

-- the contract's view of the ticker's clock and outlet, as `tick_view` is of its kit
abbrev pub beat_view : {C O : Type 0} → (C → Dial) → (O → Outbox) → C → O → TickView
beat_view dial outbox clock outlet = record { dial = dial clock; outbox = outbox outlet }

-- a worker and a pump, over a service that never returns out of memory
abbrev pub doors_of : JobState WorkerView → DoorsState
doors_of job = record { stage = record { may_want = false; known = job.known; outbox = job.kit.outbox }; hall = job.kit.hall }

abbrev pub pump_of : JobState PumpView → PumpState
pump_of job = record { recording = job.kit.recording; known = job.known; outbox = job.kit.outbox; faults = job.kit.faults }

-- a worker served the connections that arrived at its doors, with this stream of its key. `by_limit` says that doors end by their limit alone
pub record WorkerDid (conn_tells outlet_tells by_limit : Type 0) (number : ℕ) (o n : JobState WorkerView) (end : ServeEnd) : Type 0 where
  pub ended : WorkerEnd
  pub end_is : end ≡ end_of_worker ended
  pub key : n.kit.key ≡ o.kit.key
  pub serves : ServesDoors conn_tells outlet_tells o.kit.key number (doors_of o) (doors_of n) ended
  pub at_limit : ended ≡ Closed → by_limit → IsAtLimit n.kit.hall

-- a pump asked, and gave the packets of recordings for the front end of this number. It handed back each source that its store lent, one at a time
pub record PumpDid (outlet_tells : Type 0) (number : ℕ) (o n : JobState PumpView) (end : ServeEnd) : Type 0 where
  pub ended : JobEnd
  pub end_is : end ≡ end_of_job ended
  pub run : PumpRun outlet_tells number (pump_of o) (pump_of n) ended
  pub lent : n.kit.lent ≡ o.kit.lent
  pub one_at_a_time : n.kit.peak ≤ max o.kit.peak (o.kit.lent + 1)
  pub spent : ended ≡ JobSpent → n.known.length ≡ LONGEST_HISTORY
  pub memory : ended ≡ JobWant → ⊥

-- the ticker ticked at the moments that it read
pub record TickerDid (outlet_tells : Type 0) (o n : JobState TickView) (end : ServeEnd) : Type 0 where
  pub ended : JobEnd
  pub end_is : end ≡ end_of_job ended
  pub run : TickRun o.known n.known o.kit.dial n.kit.dial outlet_tells o.kit.outbox n.kit.outbox ended
  pub spent : ended ≡ JobSpent → n.known.length ≡ LONGEST_HISTORY
  pub memory : ended ≡ JobWant → ⊥
