use Rattle.satip_entry_writer.proofs.Writing.{◌then◌}
use Rattle.satip_entry_writer.specs.Requests.{http_refusal_text}
use Rattle.satip_entry_writer.proofs.requests.encode_http_refusal.Goals as goal

pub returns-in-Query : goal.returns-in-Query
unfolding http_refusal_text
returns-in-Query c = record {
  wrote = rw c.in-Query.is (c.encode_u8-in-Query.ensures.wrote then c.encode_fault.ensures.wrote);
}
