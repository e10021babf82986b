use Rattle.satip_entry_writer.proofs.Writing.{◌then◌}
use Rattle.satip_entry_writer.proofs.records.encode_replied.Goals as goal

pub returns-clause-wrote : goal.returns-clause-wrote
returns-clause-wrote c =
    c.encode_u16.ensures.wrote then c.encode_bool.ensures.wrote
