-- The parts of a journal without its caller.
use Rattle.std.specs.Prelude.{ℕ, Bool}
use Rattle.satip_entry_writer.specs.Sheets.{Sheet}
use Rattle.satip_journal.specs.declared.crew.JournalGear.{JournalGear}

-- a journal's parts: the job's number, the sink, the room for a line, and whether a put failed
abbrev pub gear_of : {K : Type 0} → ℕ → K → Sheet → Bool → JournalGear K
gear_of number sink line failed = record { number = number; sink = sink; line = line; failed = failed }
