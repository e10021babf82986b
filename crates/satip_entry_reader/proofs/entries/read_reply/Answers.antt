use Rattle.satip_entry_reader.proofs.TakingSteps.{few_bytes, reply_taken}
use Rattle.satip_entry_reader.proofs.entries.read_reply.Goals as goal

pub returns-in_default : goal.returns-in_default
returns-in_default c = record { read = few_bytes c.args.count c.args.bytes.now c.in_default.ensures.read }

pub returns : goal.returns
returns c = record {
  read =
      reply_taken c.args.count c.args.bytes.now c.in-Some.reply.now c.read_bytes.new.self c.in-Some.ensures.read c.write.ensures.wrote;
}
