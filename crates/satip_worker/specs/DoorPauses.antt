-- The number of pauses of a worker.
use Rattle.std.specs.Prelude.{◌≡◌, ℕ, ◌+◌, ◌≤◌, true, List, [], ◌∷◌, ◌++◌}
use Rattle.satip_world.specs.declared.doors.ConnEnd.{ConnEnd}
use Rattle.satip_world.specs.Halls.{Hall, Arrival, HandsBack, Return}
use Rattle.satip_world.specs.Lines.{Line}
use Rattle.satip_world.specs.Pausing.{RisesBy}
use Rattle.satip_worker.specs.Pauses.{PausesServed}

-- the number of receives that found nothing on these connections
abbrev pub idles_in : List Return → ℕ
idles_in [] = 0
idles_in (r ∷ rs) = r.line.idles + idles_in rs

-- `spared` for each of these connections
abbrev pub spared_in : ℕ → List Return → ℕ
spared_in spared [] = 0
spared_in spared (r ∷ rs) = spared + spared_in spared rs

-- a connection was served with such pauses, and handed back; `line` is its state at the start
pub record PausesOne (spared : ℕ) (line : Line) (o n : Hall) (came : Arrival) (end : ConnEnd) (before after : ℕ) : Type 0 where
  pub later : Line
  pub served : PausesServed spared line later before after
  pub back : HandsBack o n came.kind came.peer later end

-- a worker paused once for each time that no connection came, and otherwise only while it served connections: once for each of their receives that found
-- nothing, except at most `spared` of each connection
pub record PausesAtDoors (spared : ℕ) (o n : Hall) (before after : ℕ) : Type 0 where
  pub waits : ℕ
  pub waited : RisesBy waits o.idles n.idles
  pub returns : List Return
  pub moved : n.told ≡ true → n.returned ≡ o.returned ++ returns
  pub idles : ℕ
  pub found : RisesBy idles 0 (idles_in returns)
  pub paused : ℕ
  pub least : idles ≤ paused + spared_in spared returns
  pub most : paused ≤ idles
  pub pauses : RisesBy (waits + paused) before after
