use Rattle.std.proofs.Common.{take}
use Rattle.satip_base.specs.Bundles.{Bundled}
use Rattle.satip_pump.proofs.batch.Batch.append.Given as goal

-- the datagrams so far were appended
abbrev pub invariant-loop-place : goal.invariant-loop-place
invariant-loop-place l = Bundled l.initial.self (take l.place l.out.datagrams) l.self
