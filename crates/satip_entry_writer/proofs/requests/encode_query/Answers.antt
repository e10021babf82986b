use Rattle.satip_entry_writer.proofs.Writing.{◌then◌}
use Rattle.satip_entry_writer.specs.Requests.{query_text}
use Rattle.satip_entry_writer.proofs.requests.encode_query.Goals as goal

pub returns : goal.returns
unfolding query_text
returns c = record {
  wrote =
      c.encode_change.ensures.wrote then c.encode_pids_given.ensures.wrote then c.encode_option_pid_list.ensures.wrote
      then c.encode_option_pid_list-2.ensures.wrote;
}
