use Rattle.satip_entry_writer.proofs.Writing.{◌then◌}
use Rattle.satip_entry_writer.proofs.records.encode_work.Goals as goal

pub returns-in-Tune-clause-wrote : goal.returns-in-Tune-clause-wrote
returns-in-Tune-clause-wrote c =
    rw c.in-Tune.is (c.encode_u8.ensures.wrote then c.encode_u16.ensures.wrote then c.encode_u64.ensures.wrote)
