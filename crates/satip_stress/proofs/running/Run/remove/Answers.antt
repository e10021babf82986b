use Rattle.std.proofs.Common.{refl, ap}
use Rattle.satip_stress.specs.declared.clients.Client.{Client}
use Rattle.satip_stress.proofs.RunLemmas.{makes_asked}
use Rattle.satip_stress.proofs.running.Run.remove.Goals as goal

pub returns : goal.returns
returns c = record {
  goes = record {
    setting = c.request.ensures.setting;
    made = makes_asked _ _ _ _ _ _ _ _ (ap (λ (x : Client). x.peer) c.first_client.ensures.first) c.draw_of_number.ensures.draw c.renew_removing.ensures.renewed
        c.request.ensures.made;
    events = c.request.ensures.events;
    bounded = c.request.ensures.bounded;
    kept = record {
      options = c.requires.ready.kept.options;
      adding = c.requires.ready.kept.adding;
      removing = (c.args.self.now.cseq, c.args.pid, c.renew_removing.ensures.renewed);
    };
    moment_is = refl;
    cseq_is = refl;
  };
}
