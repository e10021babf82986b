-- Work of jobs at their seats.
use Rattle.std.specs.Prelude.{◌≡◌}
use denote.Ref.{MutBor}
use denote.Param.Members.{Shared}
use Rattle.satip_plain.specs.declared.setting.Setting.{Setting}
use Rattle.satip_turn.specs.Shown.{Cell, Keeps}
use Rattle.satip_jobs.specs.declared.seat.Seat.{Seat}
use Rattle.satip_jobs.specs.Passes.{PassOf}

-- the job is still at its seat: its caller calls the same cell, its pass has the same number, kept rows and numbers of passes made,
-- and the job has the same number
pub record IsSameSeat {X E A K M : Type 0} (cell : X → Cell Setting) (pass : X → PassOf E A) (before after : Seat X K M) : Type 0 where
  pub cell_is : cell after.caller ≡ cell before.caller
  pub keeps : Keeps (pass before.caller) (pass after.caller)
  pub number : after.number ≡ before.number

-- this work accepts any job, and leaves it at its seat
pub record IsWork {X E A K M F : Type 0} (cell : X → Cell Setting) (pass : X → PassOf E A)
    (g : Shared F (MutBor (Seat X K M) × Unit {0}) (Unit {0} × (MutBor (Seat X K M) × Unit {0}))) (f : F) : Type 0 where
  pub takes : (argument : MutBor (Seat X K M)) → g.pre f (argument, tt)
  pub same : (before after : MutBor (Seat X K M)) → g.post f (before, tt) (tt, (after, tt)) → IsSameSeat cell pass before.now after.now
