use Rattle.satip_entry_writer.proofs.Writing.{◌then◌}
use Rattle.satip_entry_writer.proofs.requests.encode_short.Goals as goal

pub returns : goal.returns
returns c = record {
  wrote =
      rw (← c.bytes-bytes.ensures.bytes) (c.encode_u16.ensures.wrote then c.encode.ensures.wrote);
}
