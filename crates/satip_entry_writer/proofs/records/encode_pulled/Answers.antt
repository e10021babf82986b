use Rattle.satip_entry_writer.proofs.Writing.{◌then◌}
use Rattle.satip_entry_writer.proofs.records.encode_pulled.Goals as goal

pub returns-in-Bytes-clause-wrote : goal.returns-in-Bytes-clause-wrote
returns-in-Bytes-clause-wrote c =
    rw c.in-Bytes.is (c.encode_u8.ensures.wrote then c.encode_u64.ensures.wrote)
