use Rattle.std.proofs.Common.{take}
use Rattle.satip_rtp.specs.Sending.{SendsAll}
use Rattle.satip_solo.proofs.copies.copy_out.Given as goal

-- the reply and the datagrams so far were written
abbrev pub invariant-loop-place : goal.invariant-loop-place
invariant-loop-place l = SendsAll l.initial.to (take l.place l.from.datagrams) l.to
