use Rattle.satip_entry_writer.proofs.Writing.{◌then◌}
use Rattle.satip_entry_writer.specs.Records.{record_text}
use Rattle.satip_entry_writer.proofs.records.encode_record.Goals as goal

pub returns-clause-wrote : goal.returns-clause-wrote
unfolding record_text
returns-clause-wrote c =
    rw (← c.reply.ensures.reply, ← c.count-count.ensures.count) (
    c.encode_event.ensures.wrote then c.encode_answer.ensures.wrote then c.encode_bytes.ensures.wrote
    then c.encode_u16.ensures.wrote then c.encode_datagrams.ensures.wrote)
