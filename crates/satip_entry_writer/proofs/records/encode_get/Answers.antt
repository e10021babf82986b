use Rattle.satip_entry_writer.proofs.Writing.{◌then◌}
use Rattle.satip_entry_writer.proofs.records.encode_get.Goals as goal

pub returns-in-Started-clause-wrote : goal.returns-in-Started-clause-wrote
returns-in-Started-clause-wrote c =
    rw c.in-Started.is (c.encode_u8.ensures.wrote then c.encode_id.ensures.wrote)

pub returns-in-Refused-clause-wrote : goal.returns-in-Refused-clause-wrote
returns-in-Refused-clause-wrote c =
    rw c.in-Refused.is (c.encode_u8-in-Refused.ensures.wrote then c.encode_u16.ensures.wrote)
