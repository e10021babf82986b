use Rattle.std.proofs.Common.{◌≡◌, take}
use Rattle.satip_interleave.specs.Tunnels.{put_all}
use Rattle.satip_interleave.proofs.sending.bring_all.Given as goal

-- the datagrams so far were brought
abbrev pub invariant-loop-place : goal.invariant-loop-place
invariant-loop-place l = l.lanes ≡ put_all (take l.place l.out.datagrams) l.initial.lanes
