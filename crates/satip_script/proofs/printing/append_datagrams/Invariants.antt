use Rattle.std.proofs.Common.{◌≡◌, ◌++◌, take, flat_map}
use Rattle.satip_script.specs.Printed.{datagram_line}
use Rattle.satip_script.proofs.printing.append_datagrams.Given as goal

-- the datagrams before the place were appended
abbrev pub invariant-datagrams : goal.invariant-datagrams
invariant-datagrams l = l.text.items ≡ l.initial.text.items ++ flat_map datagram_line (take l.place l.out.datagrams)
