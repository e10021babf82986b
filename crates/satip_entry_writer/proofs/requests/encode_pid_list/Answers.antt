use Rattle.satip_entry_writer.proofs.Writing.{◌then◌}
use Rattle.satip_entry_writer.proofs.requests.encode_pid_list.Goals as goal

pub returns : goal.returns
returns c = record {
  wrote = rw (← c.as_slice-pids.ensures.pids) (c.encode_u16.ensures.wrote then c.encode_pids.ensures.wrote);
}
