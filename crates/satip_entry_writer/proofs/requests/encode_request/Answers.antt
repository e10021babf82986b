use Rattle.satip_entry_writer.proofs.Writing.{◌then◌}
use Rattle.satip_entry_writer.specs.Requests.{request_text}
use Rattle.satip_entry_writer.proofs.requests.encode_request.Goals as goal

pub returns : goal.returns
unfolding request_text
returns c = record {
  wrote =
      c.encode_option_u32.ensures.wrote then c.encode_option_refusal.ensures.wrote then c.encode_method.ensures.wrote
      then c.encode_option_u16.ensures.wrote then c.encode_name.ensures.wrote then c.encode_query.ensures.wrote
      then c.encode_option_ports.ensures.wrote;
}
