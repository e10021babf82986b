use Rattle.std.proofs.Common.{◌≡◌, ◌∙◌, ap, sym, subst}
use Rattle.satip_interleave.specs.declared.events.TunnelEvent.{TunnelEvent}
use Rattle.satip_interleave.specs.declared.events.TunnelAnswer.TheVariants.{Inner as InnerAnswer}
use Rattle.satip_interleave.specs.Tunnels.{drain_told, lane_told, left_told, moved_by}
use Rattle.satip_interleave.specs.Answers.{IsAnswered}
use Rattle.satip_interleave.specs.Standing.{MatchInner}
use Rattle.satip_interleave.proofs.one_tunnel.Tunnel.event.Goals as goal

pub returns-in-Inner-clause-answered : goal.returns-in-Inner-clause-answered
returns-in-Inner-clause-answered c =
    subst (λ (e : TunnelEvent). IsAnswered c.args.self.now.lanes e (InnerAnswer c.inner.result) c.inner.new.out) (sym c.in-Inner.is) tt

pub returns-in-Inner-clause-lanes : goal.returns-in-Inner-clause-lanes
returns-in-Inner-clause-lanes c =
    subst (λ (e : TunnelEvent). c.inner.new.self.lanes ≡ moved_by e c.inner.new.out.datagrams c.args.self.now.lanes) (sym c.in-Inner.is) c.inner.ensures.lanes

pub returns-in-Inner-clause-server : goal.returns-in-Inner-clause-server
returns-in-Inner-clause-server c =
    subst (λ (e : TunnelEvent). MatchInner c.args.self.now.server e (InnerAnswer c.inner.result) c.inner.new.out c.inner.new.self.server) (sym c.in-Inner.is)
    c.inner.ensures.done

pub returns-in-Enter-clause-answered : goal.returns-in-Enter-clause-answered
returns-in-Enter-clause-answered c =
    subst (λ (e : TunnelEvent). IsAnswered c.args.self.now.lanes e c.told_lane.result c.enter.new.out) (sym c.in-Enter.is)
    (record { told = c.told_lane.ensures.told ∙ ap lane_told c.enter.ensures.number; writes = c.enter.ensures.writes })

pub returns-in-Drain-clause-answered : goal.returns-in-Drain-clause-answered
returns-in-Drain-clause-answered c =
    subst (λ (e : TunnelEvent). IsAnswered c.args.self.now.lanes e c.told_drain.result c.drain.new.out) (sym c.in-Drain.is)
    (record { told = c.told_drain.ensures.told ∙ ap drain_told c.drain.ensures.answer; writes = c.drain.ensures.writes })

pub returns-in-Leave-clause-answered : goal.returns-in-Leave-clause-answered
returns-in-Leave-clause-answered c =
    subst (λ (e : TunnelEvent). IsAnswered c.args.self.now.lanes e c.told_left.result c.leave.new.out) (sym c.in-Leave.is)
    (record { told = c.told_left.ensures.told ∙ ap left_told c.leave.ensures.held; writes = c.leave.ensures.writes })
