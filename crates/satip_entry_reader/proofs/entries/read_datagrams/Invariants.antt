use Rattle.satip_entry_reader.proofs.TakingSteps.{SomeTaken}
use Rattle.satip_entry_reader.proofs.entries.read_datagrams.Given as goal

-- the datagrams before the place are read
abbrev pub invariant-datagrams : goal.invariant-datagrams
invariant-datagrams l = SomeTaken l.fn.count l.place l.fn.bytes l.bytes l.fn.out l.out
