use Rattle.satip_entry_writer.proofs.Writing.{◌then◌}
use Rattle.satip_entry_writer.proofs.requests.encode_option_http_refusal.Goals as goal

pub returns-in-Some : goal.returns-in-Some
returns-in-Some c = record {
  wrote =
      rw c.in-Some.is (c.encode_u8-in-Some.ensures.wrote then c.encode_http_refusal.ensures.wrote);
}
