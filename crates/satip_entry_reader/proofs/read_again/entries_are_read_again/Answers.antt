use Rattle.satip_entry_reader.proofs.ValuesAgain.{none_begins}
use Rattle.satip_entry_reader.specs.ReadingEntries.{IsEntry, entry_text, entry_read}
use Rattle.satip_entry_reader.proofs.EntriesAgain.{entry_again}
use Rattle.satip_entry_reader.proofs.read_again.entries_are_read_again.Goals as goal

pub returns-clause-again : goal.returns-clause-again
returns-clause-again c = entry_again

pub returns-clause-none_begins : goal.returns-clause-none_begins
returns-clause-none_begins c = none_begins IsEntry entry_text entry_read entry_again
