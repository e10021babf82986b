-- The ends of serving, and its remains.
use Rattle.std.specs.Prelude.{◌≡◌, ℕ, ◌⊎◌, List, Option, IsSome, IsNone, Err}
use Rattle.satip_config.specs.Config.{config}
use Rattle.satip_config.specs.declared.reading.ConfigurationEnd.{ConfigurationEnd}
use Rattle.satip_config.specs.declared.reading.ConfigurationEnd.TheVariants as reading
use Rattle.satip_config.specs.Configurations.{IsConfiguration}
use Rattle.satip_jobs.specs.declared.end.ServeEnd.{ServeEnd}
use Rattle.satip_jobs.specs.declared.end.ServeEnd.TheVariants as serves
use Rattle.satip_serve.specs.declared.command.ServingEnd.{ServingEnd}
use Rattle.satip_serve.specs.declared.command.ServingEnd.TheVariants as ends

-- the end of serving if the configuration wasn't read
abbrev pub end_of_reading : ConfigurationEnd → ServingEnd
end_of_reading (reading.Fault fault) = ends.Configuration fault
end_of_reading reading.SourceFailed = ends.InputFault
end_of_reading reading.OutOfMemory = ends.OutOfMemory

-- the end of serving after the run of its jobs
abbrev pub end_of_run : ServeEnd → ServingEnd
end_of_run serves.Served = ends.Served
end_of_run serves.DoorsFault = ends.DoorsFault
end_of_run serves.HistoryFull = ends.HistoryFull

-- the ends that the text of a configuration allows, if its source doesn't fail
abbrev pub IsServingOf : List ℕ → ServingEnd → Type 0
IsServingOf text ends.Served = IsConfiguration text
IsServingOf text (ends.Configuration fault) = config text ≡ Err fault
IsServingOf text ends.InputFault = ⊥
IsServingOf text ends.DoorsFault = IsConfiguration text
IsServingOf text ends.HistoryFull = IsConfiguration text
IsServingOf text ends.OutOfMemory = Unit {0}

-- the jobs ran
abbrev pub IsEndOfRun : ServingEnd → Type 0
IsEndOfRun ends.Served = Unit {0}
IsEndOfRun (ends.Configuration fault) = ⊥
IsEndOfRun ends.InputFault = ⊥
IsEndOfRun ends.DoorsFault = Unit {0}
IsEndOfRun ends.HistoryFull = Unit {0}
IsEndOfRun ends.OutOfMemory = ⊥

-- exactly one of both is there
abbrev pub IsOneOf : {S T : Type 0} → Option S → Option T → Type 0
IsOneOf last unused = (IsSome last × IsNone unused) ⊎ (IsNone last × IsSome unused)

-- neither is there
abbrev pub IsNeitherOf : {S T : Type 0} → Option S → Option T → Type 0
IsNeitherOf last unused = IsNone last × IsNone unused
