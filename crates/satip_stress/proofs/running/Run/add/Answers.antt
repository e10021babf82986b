use Rattle.std.proofs.Common.{refl, ap}
use Rattle.satip_stress.specs.declared.clients.Client.{Client}
use Rattle.satip_stress.proofs.RunLemmas.{makes_asked}
use Rattle.satip_stress.proofs.running.Run.add.Goals as goal

pub returns : goal.returns
returns c = record {
  goes = record {
    setting = c.request.ensures.setting;
    made = makes_asked _ _ _ _ _ _ _ _ (ap (λ (x : Client). x.peer) c.first_client.ensures.first) c.draw_of_number.ensures.draw c.renew_adding.ensures.renewed
        c.request.ensures.made;
    events = c.request.ensures.events;
    bounded = c.request.ensures.bounded;
    kept = record {
      options = c.requires.ready.kept.options;
      adding = (c.args.self.now.cseq, c.args.pid, c.renew_adding.ensures.renewed);
      removing = c.requires.ready.kept.removing;
    };
    moment_is = refl;
    cseq_is = refl;
  };
}
