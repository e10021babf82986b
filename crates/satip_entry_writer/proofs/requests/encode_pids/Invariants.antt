use Rattle.std.proofs.Common.{take, flat_map}
use Rattle.satip_entry_writer.specs.Fields.{u16_text}
use Rattle.satip_entry_writer.specs.Sheets.{WroteHex}
use Rattle.satip_entry_writer.proofs.requests.encode_pids.Given as goal

-- the PIDs before the place are written
abbrev pub invariant-loop-pid : goal.invariant-loop-pid
invariant-loop-pid l = WroteHex l.fn.line (flat_map u16_text (take l.pid-index l.pids)) l.line
