use Rattle.satip_entry_writer.proofs.Writing.{◌then◌}
use Rattle.satip_entry_writer.specs.Requests.{http_request_text}
use Rattle.satip_entry_writer.proofs.requests.encode_http_request.Goals as goal

pub returns : goal.returns
unfolding http_request_text
returns c = record {
  wrote = c.encode_option_http_refusal.ensures.wrote then c.encode_query.ensures.wrote;
}
