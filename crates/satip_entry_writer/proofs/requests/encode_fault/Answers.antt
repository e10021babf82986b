use Rattle.satip_entry_writer.proofs.Writing.{◌then◌}
use Rattle.satip_entry_writer.proofs.requests.encode_fault.Goals as goal

pub returns-in-Syntax : goal.returns-in-Syntax
returns-in-Syntax c = record {
  wrote = rw c.in-Syntax.is (c.encode_u8.ensures.wrote then c.encode_key.ensures.wrote);
}

pub returns-in-Range : goal.returns-in-Range
returns-in-Range c = record {
  wrote =
      rw c.in-Range.is (c.encode_u8-in-Range.ensures.wrote then c.encode_key-in-Range.ensures.wrote);
}
