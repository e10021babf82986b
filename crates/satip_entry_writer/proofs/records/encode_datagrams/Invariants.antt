use Rattle.std.proofs.Common.{take, flat_map}
use Rattle.satip_base.specs.Lists.{Each}
use Rattle.satip_entry_writer.specs.Entries.{IsOfBytes, IsTarget}
use Rattle.satip_entry_writer.specs.Records.{datagram_text}
use Rattle.satip_entry_writer.specs.Sheets.{WroteHex}
use Rattle.satip_entry_writer.proofs.records.encode_datagrams.Given as goal

-- the datagrams before the place are written, and their values are of their types
abbrev pub invariant-datagrams : goal.invariant-datagrams
invariant-datagrams l =
    WroteHex l.fn.line (flat_map datagram_text (take l.place l.out.datagrams)) l.line
    × Each IsTarget (take l.place l.out.datagrams)
    × Each IsOfBytes (take l.place l.out.datagrams)
