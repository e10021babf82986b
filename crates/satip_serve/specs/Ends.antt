-- The ends of jobs.
use Rattle.satip_pump.specs.declared.ends.JobEnd.{JobEnd}
use Rattle.satip_pump.specs.declared.ends.JobEnd.TheVariants.{Stopped, Spent as JobSpent, Want as JobWant}
use Rattle.satip_worker.specs.declared.worker.WorkerEnd.{WorkerEnd}
use Rattle.satip_worker.specs.declared.worker.WorkerEnd.TheVariants.{Closed, DoorsFault as WorkerDoorsFault, Spent as WorkerSpent, Want as WorkerWant}
use Rattle.satip_jobs.specs.declared.end.ServeEnd.{ServeEnd}
use Rattle.satip_jobs.specs.declared.end.ServeEnd.TheVariants.{Served, DoorsFault, HistoryFull}

-- the end of a worker's job, over a service that never returns out of memory
abbrev pub end_of_worker : WorkerEnd → ServeEnd
end_of_worker Closed = Served
end_of_worker WorkerDoorsFault = DoorsFault
end_of_worker WorkerSpent = HistoryFull
end_of_worker WorkerWant = HistoryFull

-- the end of a pump's or the ticker's job, over a service that never returns out of memory
abbrev pub end_of_job : JobEnd → ServeEnd
end_of_job Stopped = Served
end_of_job JobSpent = HistoryFull
end_of_job JobWant = HistoryFull
