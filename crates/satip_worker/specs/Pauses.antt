-- The number of pauses of a connection.
use Rattle.std.specs.Prelude.{ℕ, ◌+◌, ◌≤◌}
use Rattle.satip_world.specs.Lines.{Line}
use Rattle.satip_world.specs.Pausing.{RisesBy}

-- a connection paused once for each receive that found nothing, and at no other time
pub record PausesWhenIdle (l m : Line) (before after : ℕ) : Type 0 where
  pub idles : ℕ
  pub found : RisesBy idles l.idles m.idles
  pub pauses : RisesBy idles before after

-- a connection paused once after each receive that found nothing, except after at most `spared` of them, and at no other time
pub record PausesServed (spared : ℕ) (l m : Line) (before after : ℕ) : Type 0 where
  pub idles : ℕ
  pub found : RisesBy idles l.idles m.idles
  pub paused : ℕ
  pub least : idles ≤ paused + spared
  pub most : paused ≤ idles
  pub pauses : RisesBy paused before after
