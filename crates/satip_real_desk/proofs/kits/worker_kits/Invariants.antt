use Rattle.std.proofs.Common.{◌≡◌, All, length}
use Rattle.satip_real_desk.specs.Unused.{IsUnusedWorker}
use Rattle.satip_real_desk.proofs.kits.worker_kits.Given as goal

-- so many kits were made, and none was used
abbrev pub invariant-loop-place : goal.invariant-loop-place
invariant-loop-place g l = (length l.kits.items ≡ l.place) × All (IsUnusedWorker l.accepts) l.kits.items
