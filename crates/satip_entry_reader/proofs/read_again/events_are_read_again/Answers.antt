use Rattle.satip_plain.specs.Values.{IsEvent}
use Rattle.satip_entry_writer.specs.Records.{event_text}
use Rattle.satip_entry_reader.proofs.ValuesAgain.{none_begins}
use Rattle.satip_entry_reader.specs.ReadingEvents.{event_read}
use Rattle.satip_entry_reader.proofs.EventsAgain.{event_again}
use Rattle.satip_entry_reader.proofs.read_again.events_are_read_again.Goals as goal

pub returns-clause-again : goal.returns-clause-again
returns-clause-again c = event_again

pub returns-clause-none_begins : goal.returns-clause-none_begins
returns-clause-none_begins c = none_begins IsEvent event_text event_read event_again
