use Rattle.satip_entry_writer.proofs.Writing.{◌then◌}
use Rattle.satip_entry_writer.specs.Requests.{name_text}
use Rattle.satip_entry_writer.proofs.requests.encode_name.Goals as goal

pub returns-in-Named : goal.returns-in-Named
unfolding name_text
returns-in-Named c = record {
  wrote = rw c.in-Named.is (c.encode_u8-in-Named.ensures.wrote then c.encode_id.ensures.wrote);
}
