use Rattle.satip_entry_writer.proofs.Writing.{◌then◌}
use Rattle.satip_entry_writer.proofs.records.encode_bytes.Goals as goal

pub returns-clause-wrote : goal.returns-clause-wrote
returns-clause-wrote c =
    c.encode_u32.ensures.wrote then c.encode.ensures.wrote
