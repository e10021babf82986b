use Rattle.satip_entry_writer.proofs.Writing.{◌then◌}
use Rattle.satip_entry_writer.specs.Requests.{pids_text}
use Rattle.satip_entry_writer.proofs.requests.encode_pids_given.Goals as goal

pub returns-in-List : goal.returns-in-List
unfolding pids_text
returns-in-List c = record {
  wrote = rw c.in-List.is (c.encode_u8-in-List.ensures.wrote then c.encode_pid_list.ensures.wrote);
}
