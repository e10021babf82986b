use Rattle.std.proofs.Common.{refl}
use Rattle.satip_stress.proofs.RunLemmas.{makes_asked}
use Rattle.satip_stress.proofs.running.Run.options.Goals as goal

pub returns : goal.returns
returns c = record {
  goes = record {
    setting = c.request.ensures.setting;
    made = makes_asked _ _ _ _ _ _ _ _ refl c.draw_of_number.ensures.draw c.renew_options.ensures.renewed c.request.ensures.made;
    events = c.request.ensures.events;
    bounded = c.request.ensures.bounded;
    kept = record {
      options = (c.args.self.now.cseq, c.args.client, c.renew_options.ensures.renewed);
      adding = c.requires.ready.kept.adding;
      removing = c.requires.ready.kept.removing;
    };
    moment_is = refl;
    cseq_is = refl;
  };
}
