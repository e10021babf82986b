use Rattle.satip_entry_writer.proofs.Writing.{◌then◌}
use Rattle.satip_entry_writer.specs.Requests.{refusal_text}
use Rattle.satip_entry_writer.proofs.requests.encode_refusal.Goals as goal

pub returns-in-Require : goal.returns-in-Require
unfolding refusal_text
returns-in-Require c = record {
  wrote =
      rw c.in-Require.is (c.encode_u8-in-Require.ensures.wrote then c.encode_short.ensures.wrote);
}

pub returns-in-Query : goal.returns-in-Query
unfolding refusal_text
returns-in-Query c = record {
  wrote = rw c.in-Query.is (c.encode_u8-in-Query.ensures.wrote then c.encode_fault.ensures.wrote);
}
