use Rattle.std.proofs.Common.{◌≡◌, subst}
use Rattle.satip_core.proofs.HistoryLemmas.{stands_more}
use Rattle.satip_interleave.specs.Held.{Held}
use Rattle.satip_interleave.specs.Tunnels.{put_all}
use Rattle.satip_interleave.specs.Standing.{InnerDone}
use Rattle.satip_interleave.proofs.one_tunnel.Tunnel.inner.Goals as goal

pub returns-clause-done : goal.returns-clause-done
returns-clause-done c =
    subst (λ (t : Held). InnerDone t.server c.args.event.now c.event-answer.result c.event-answer.new.out c.event-answer.new.self) c.self.view_is
    (record {
      setting = c.event-answer.ensures.setting;
      steps = c.event-answer.ensures.steps;
      stands = λ h n stands. stands_more c.self.inside.server c.event-answer.new.self h n c.args.event.now c.event-answer.result c.event-answer.new.out
          c.known_event.ensures.value c.event-answer.ensures.setting c.event-answer.ensures.steps stands;
    })

pub returns-clause-lanes : goal.returns-clause-lanes
returns-clause-lanes c =
    subst (λ (t : Held). c.bring_all.new.lanes ≡ put_all c.event-answer.new.out.datagrams t.lanes) c.self.view_is c.bring_all.ensures.brought
