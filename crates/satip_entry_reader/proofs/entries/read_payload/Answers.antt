use Rattle.satip_base.proofs.Writing.{◌then_extended◌}
use Rattle.satip_entry_reader.proofs.TakingSteps.{few_bytes, payload_taken}
use Rattle.satip_entry_reader.proofs.entries.read_payload.Goals as goal

pub returns-in_default : goal.returns-in_default
returns-in_default c = record { read = few_bytes c.args.count c.args.bytes.now c.in_default.ensures.read }

pub returns : goal.returns
returns c = record {
  read =
      payload_taken c.args.to c.args.count c.args.bytes.now c.in-Some.payload.now c.read_bytes.new.self c.in-Some.ensures.read
      (c.begin.ensures.begun then_extended c.extend.ensures.extended);
}
