use Rattle.satip_entry_writer.specs.Records.{answer_text}
use Rattle.satip_entry_reader.specs.ReadingAnswers.{IsAnswer, answer_read}
use Rattle.satip_entry_reader.proofs.AnswersAgain.{answer_again}
use Rattle.satip_plain.specs.Values.{IsId, IsDraw, ArePorts, IsChange}
use Rattle.satip_entry_writer.specs.Fields.{id_text, draw_text, ports_text}
use Rattle.satip_entry_writer.specs.Requests.{change_text}
use Rattle.satip_entry_reader.specs.Reading.{id_read, draw_read, ports_read, change_read}
use Rattle.satip_entry_reader.proofs.ValuesAgain.{none_begins, id_again, draw_again, ports_again, change_again}
use Rattle.satip_entry_reader.proofs.values_read_again.no_part_begins_another.Goals as goal

pub returns-clause-id : goal.returns-clause-id
returns-clause-id c = none_begins IsId id_text id_read id_again

pub returns-clause-draw : goal.returns-clause-draw
returns-clause-draw c = none_begins IsDraw draw_text draw_read draw_again

pub returns-clause-ports : goal.returns-clause-ports
returns-clause-ports c = none_begins ArePorts ports_text ports_read ports_again

pub returns-clause-change : goal.returns-clause-change
returns-clause-change c = none_begins IsChange change_text change_read change_again

pub returns-clause-answer : goal.returns-clause-answer
returns-clause-answer c = none_begins IsAnswer answer_text answer_read answer_again
