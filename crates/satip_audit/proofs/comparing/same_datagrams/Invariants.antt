use Rattle.std.specs.Prelude.{◌≡◌, take}
use Rattle.satip_audit.proofs.comparing.same_datagrams.Given as goal

-- the datagrams before the place are the same
abbrev pub invariant-datagrams : goal.invariant-datagrams
invariant-datagrams l = take l.place l.a.datagrams ≡ take l.place l.b.datagrams
