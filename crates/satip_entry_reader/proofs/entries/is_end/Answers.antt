use Rattle.satip_entry_reader.proofs.EntriesAgain.{none_left, some_left}
use Rattle.satip_entry_reader.proofs.entries.is_end.Goals as goal

pub returns-in_default : goal.returns-in_default
returns-in_default c = record { end = none_left c.args.bytes.now c.in_default.ensures.read }

pub returns : goal.returns
returns c = record { end = some_left c.in-Some._byte c.args.bytes.now c.read_u8.new.self c.in-Some.ensures.front }
