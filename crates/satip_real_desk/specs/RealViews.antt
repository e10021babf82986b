-- The kits that the desk over the system gives.
use Rattle.std.specs.Prelude.{ℕ}
use Rattle.satip_playout.specs.StoreCounts.{StoreCounts, counts_view}
use Rattle.satip_desk.specs.declared.kits.JobKits.{JobKits}
use Rattle.satip_desk.specs.Fresh.{AreFresh}
use Rattle.satip_desk.specs.Views.{JobsView, jobs_view}
use Rattle.satip_world.specs.Dials.{Dial}
use Rattle.satip_world.specs.Halls.{Hall}
use Rattle.satip_world.specs.Outboxes.{Outbox}

-- the view of kits over the system; it exposes no recordings
abbrev pub real_view : JobKits Hall Outbox ℕ StoreCounts Dial → JobsView
real_view jobs = jobs_view (λ (h : Hall). h) (λ (o : Outbox). o) counts_view (λ (d : Dial). d) jobs

-- nothing was done with these kits, and their doors end after `accepts` connections
abbrev pub AreFreshKits : ℕ → JobKits Hall Outbox ℕ StoreCounts Dial → Type 0
AreFreshKits accepts jobs = AreFresh accepts (real_view jobs)
