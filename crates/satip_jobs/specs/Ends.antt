-- The end of all jobs, from the end of each.
use Rattle.std.specs.Prelude.{List, [], ◌∷◌}
use Rattle.satip_jobs.specs.declared.end.ServeEnd.{ServeEnd}
use Rattle.satip_jobs.specs.declared.end.ServeEnd.TheVariants.{Served, DoorsFault, HistoryFull}

-- the worse of two ends: a full history, else a fault of doors
abbrev pub worse : ServeEnd → ServeEnd → ServeEnd
worse Served other = other
worse DoorsFault HistoryFull = HistoryFull
worse DoorsFault _ = DoorsFault
worse HistoryFull other = HistoryFull

-- the worst of these ends
abbrev pub worst : List ServeEnd → ServeEnd
worst [] = Served
worst (end ∷ ends) = worse end (worst ends)
