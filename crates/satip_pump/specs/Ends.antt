-- The ends of jobs.
use Rattle.satip_plain.specs.declared.fault.ServiceFault.{ServiceFault}
use Rattle.satip_plain.specs.declared.fault.ServiceFault.TheVariants.{Spent, Want}
use Rattle.satip_pump.specs.declared.ends.JobEnd.{JobEnd}
use Rattle.satip_pump.specs.declared.ends.JobEnd.TheVariants.{Spent as JobSpent, Want as JobWant}

-- the end of a job whose service had no room for an event, or no memory
abbrev pub ended_by : ServiceFault → JobEnd
ended_by Spent = JobSpent
ended_by Want = JobWant
