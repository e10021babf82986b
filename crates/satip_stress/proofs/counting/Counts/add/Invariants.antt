use Rattle.std.proofs.Common.{◌≡◌, take}
use Rattle.satip_stress.specs.Counted.{with_datagrams}
use Rattle.satip_stress.proofs.counting.Counts.add.Given as goal

-- the datagrams so far are counted
abbrev pub invariant-loop-place : goal.invariant-loop-place
invariant-loop-place l = l.self ≡ with_datagrams l.initial.self (take l.place l.out.datagrams)
