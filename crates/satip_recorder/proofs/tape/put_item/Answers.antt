use Rattle.satip_recorder.proofs.TapeLemmas.{tapes-item, taped-told}
use Rattle.satip_recorder.proofs.tape.put_item.Goals as goal

pub returns-in-Data : goal.returns-in-Data
returns-in-Data g c = record {
  tapes = tapes-item _ _ _ _ _ _ _ c.args.item.now c.in-Data.number c.in-Data.packets _ _ c.in-Data.is c.bytes.ensures.bytes c.put_packets.ensures.puts;
}

pub returns-in-Gap : goal.returns-in-Gap
returns-in-Gap g c = record {
  tapes = taped-told _ _ _ _ _ _ _ c.args.item.now _ _ c.in-Gap.is c.requires.some c.tell_gap.ensures.left c.tell_gap.ensures.tells;
}
