use Rattle.std.proofs.Common.{refl}
use Rattle.satip_stress.proofs.RunLemmas.{makes_packet}
use Rattle.satip_stress.proofs.running.Run.packet.Goals as goal

pub returns : goal.returns
returns c = record {
  goes = record {
    setting = c.packet.ensures.setting;
    made = makes_packet _ _ _ _ c.make_packet.ensures.packet c.packet.ensures.made;
    events = c.packet.ensures.events;
    bounded = c.packet.ensures.bounded;
    kept = c.requires.ready.kept;
    moment_is = refl;
    cseq_is = refl;
  };
}
