use Rattle.satip_entry_writer.specs.Fields.{u16_text}
use Rattle.satip_entry_reader.specs.ReadingLists.{pid_read}
use Rattle.satip_entry_reader.proofs.Loops.{ReadSome}
use Rattle.satip_entry_reader.proofs.lists.read_pids.Given as goal

-- the PIDs before the place are read
abbrev pub invariant-pids : goal.invariant-pids
invariant-pids l = ReadSome u16_text pid_read l.fn.count l.place l.fn.bytes l.pids l.bytes
