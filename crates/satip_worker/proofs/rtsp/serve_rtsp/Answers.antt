use Rattle.std.proofs.Common.{refl, ◌∙◌, []}
use Rattle.satip_worker.proofs.PauseLemmas.{pauses_none, pauses_idle, pauses_on}
use Rattle.satip_worker.proofs.RunLemmas.{listens_from, stands_got, listens_idle, ran_to_end, ran_to_read_fault, ran_to_closing, ran_to_write_fault, ran_to_stop}
use Rattle.satip_worker.proofs.rtsp.serve_rtsp.Goals as goal

pub loop-init : goal.loop-init
loop-init g c = (
  rw c.requires.new refl,
  refl,
  g.met.S.Service.same_self _,
  λ key stream from are. ([], listens_from _ _ _ _ _ c.requires.new are),
  c.requires.free,
  pauses_none _ _,
)

pub loop-preserved-in-All : goal.loop-preserved-in-All
loop-preserved-in-All g c = (
  c.in-All.ensures.goes_on refl,
  c.receive.auto.buf ∙ c.loop.invariant.1,
  g.met.S.Service.same_then _ _ _ c.loop.invariant.2 c.hear.ensures.same,
  λ key stream from are.
      let before = c.loop.invariant.3 key stream from are in
      (_, c.in-All.ensures.hears _ _ refl (stands_got _ _ _ _ _ _ _ before.0 _ before.1 _ _ c.in-Got.ensures.receives)),
  c.hear.ensures.free,
  pauses_on _ _ _ _ _ c.loop.invariant.5 (c.hear.ensures.idles ∙ c.in-Got.ensures.receives.counts.idles),
)

pub returns-in-Closed-clause-serves : goal.returns-in-Closed-clause-serves
returns-in-Closed-clause-serves g c = λ key stream from are.
    let before = c.loop.invariant.3 key stream from are in
    ran_to_closing _ _ _ _ _ _ (c.hear.ensures.input ∙ c.in-Got.ensures.receives.after)
    (c.in-Closed.ensures.hears _ _ refl (stands_got _ _ _ _ _ _ _ before.0 _ before.1 _ _ c.in-Got.ensures.receives))

pub returns-in-Closed-clause-pauses : goal.returns-in-Closed-clause-pauses
returns-in-Closed-clause-pauses g c = pauses_on _ _ _ _ _ c.loop.invariant.5 (c.hear.ensures.idles ∙ c.in-Got.ensures.receives.counts.idles)

pub returns-in-Lost-clause-serves : goal.returns-in-Lost-clause-serves
returns-in-Lost-clause-serves g c = λ key stream from are.
    let before = c.loop.invariant.3 key stream from are in
    ran_to_write_fault _ _ _ _ _ _ (c.hear.ensures.input ∙ c.in-Got.ensures.receives.after)
    (c.in-Lost.ensures.hears _ _ refl (stands_got _ _ _ _ _ _ _ before.0 _ before.1 _ _ c.in-Got.ensures.receives))

pub returns-in-Lost-clause-pauses : goal.returns-in-Lost-clause-pauses
returns-in-Lost-clause-pauses g c = pauses_on _ _ _ _ _ c.loop.invariant.5 (c.hear.ensures.idles ∙ c.in-Got.ensures.receives.counts.idles)

pub returns-in-Unmade-clause-serves : goal.returns-in-Unmade-clause-serves
returns-in-Unmade-clause-serves g c = λ key stream from are.
    let before = c.loop.invariant.3 key stream from are in
    rw c.end_of.ensures.end (ran_to_stop _ _ _ _ _ _ _
    (c.in-Unmade.ensures.hears _ _ refl (stands_got _ _ _ _ _ _ _ before.0 _ before.1 _ _ c.in-Got.ensures.receives)))

pub returns-in-Unmade-clause-pauses : goal.returns-in-Unmade-clause-pauses
returns-in-Unmade-clause-pauses g c = pauses_on _ _ _ _ _ c.loop.invariant.5 (c.hear.ensures.idles ∙ c.in-Got.ensures.receives.counts.idles)

pub loop-preserved : goal.loop-preserved
loop-preserved g c = (
  c.loop.invariant.0,
  c.receive.auto.buf ∙ c.loop.invariant.1,
  c.loop.invariant.2,
  λ key stream from are.
      let before = c.loop.invariant.3 key stream from are in
      (before.0, listens_idle _ _ _ _ _ _ _ before.0 _ before.1 c.in-Idle.ensures.receives),
  c.loop.invariant.4,
  pauses_idle _ _ _ _ _ _ _ c.loop.invariant.5 c.in-Idle.ensures.receives c.pause.ensures.pauses c.pause.ensures.once,
)

pub returns-in-End-clause-serves : goal.returns-in-End-clause-serves
returns-in-End-clause-serves g c = λ key stream from are.
    let before = c.loop.invariant.3 key stream from are in
    ran_to_end _ _ _ _ _ _ _ before.0 _ before.1 c.in-End.ensures.receives

pub returns-in-End-clause-pauses : goal.returns-in-End-clause-pauses
returns-in-End-clause-pauses g c = pauses_on _ _ _ _ _ c.loop.invariant.5 c.in-End.ensures.receives.counts.idles

pub returns-in-Failed-clause-serves : goal.returns-in-Failed-clause-serves
returns-in-Failed-clause-serves g c = λ key stream from are.
    let before = c.loop.invariant.3 key stream from are in
    ran_to_read_fault _ _ _ _ _ _ _ before.0 _ before.1 c.in-Failed.ensures.receives

pub returns-in-Failed-clause-pauses : goal.returns-in-Failed-clause-pauses
returns-in-Failed-clause-pauses g c = pauses_on _ _ _ _ _ c.loop.invariant.5 c.in-Failed.ensures.receives.idles
