use Rattle.std.proofs.Common.{refl, ◌∙◌}
use Rattle.satip_worker.proofs.PauseLemmas.{pauses_none, pauses_idle, pauses_on}
use Rattle.satip_worker.proofs.StreamLemmas.{streams_from, streams_sent, streams_empty, streams_got, streams_idle, streams_cut, streams_gone, streams_unmade, streams_ended, streams_failed}
use Rattle.satip_worker.proofs.http.stream.Goals as goal

pub loop-init : goal.loop-init
loop-init g c = (refl, c.requires.open, g.met.S.Service.same_self _, streams_from _ _ _ _ _, c.requires.free, pauses_none _ _)

pub loop-preserved-in-Sent : goal.loop-preserved-in-Sent
loop-preserved-in-Sent g c = (
  c.loop.invariant.0,
  c.pull.ensures.input ∙ c.loop.invariant.1,
  g.met.S.Service.same_then _ _ _ c.loop.invariant.2 c.pull.ensures.same,
  streams_sent _ _ _ _ _ _ _ _ _ c.loop.invariant.3 c.in-Sent.ensures.turns,
  c.pull.ensures.free,
  pauses_on _ _ _ _ _ c.loop.invariant.5 c.pull.ensures.idles,
)

pub returns-in-Cut-clause-streams : goal.returns-in-Cut-clause-streams
returns-in-Cut-clause-streams g c =
    streams_cut _ _ _ _ _ _ _ _ _ (g.C.Conn.line c.pull.new.conn) _ c.loop.invariant.3 _ (c.pull.ensures.input ∙ c.loop.invariant.1) c.in-Cut.ensures.turns
    c.close.ensures.closes

pub returns-in-Cut-clause-pauses : goal.returns-in-Cut-clause-pauses
returns-in-Cut-clause-pauses g c = pauses_on _ _ _ _ _ c.loop.invariant.5 c.pull.ensures.idles

pub returns-in-Gone-clause-streams : goal.returns-in-Gone-clause-streams
returns-in-Gone-clause-streams g c = streams_gone _ _ _ _ _ _ _ _ _ c.loop.invariant.3 (c.pull.ensures.input ∙ c.loop.invariant.1) c.in-Gone.ensures.turns

pub returns-in-Gone-clause-pauses : goal.returns-in-Gone-clause-pauses
returns-in-Gone-clause-pauses g c = pauses_on _ _ _ _ _ c.loop.invariant.5 c.pull.ensures.idles

pub returns-in-Unmade-clause-streams : goal.returns-in-Unmade-clause-streams
returns-in-Unmade-clause-streams g c =
    rw c.end_of.ensures.end (streams_unmade _ _ _ _ _ _ _ _ _ c.loop.invariant.3 _ c.in-Unmade.ensures.turns)

pub returns-in-Unmade-clause-pauses : goal.returns-in-Unmade-clause-pauses
returns-in-Unmade-clause-pauses g c = pauses_on _ _ _ _ _ c.loop.invariant.5 c.pull.ensures.idles

pub loop-preserved-in-Got : goal.loop-preserved-in-Got
loop-preserved-in-Got g c = (
  c.receive.auto.buf ∙ c.loop.invariant.0,
  c.in-Got.ensures.receives.after,
  g.met.S.Service.same_then _ _ _ c.loop.invariant.2 c.pull.ensures.same,
  streams_got _ _ _ _ _ _ _ _ _ _ (streams_empty _ _ _ _ _ _ _ _ _ c.loop.invariant.3 c.in-Empty.ensures.turns) c.in-Got.ensures.receives,
  c.pull.ensures.free,
  pauses_on _ _ _ _ _ c.loop.invariant.5 (c.in-Got.ensures.receives.counts.idles ∙ c.pull.ensures.idles),
)

pub loop-preserved : goal.loop-preserved
loop-preserved g c = (
  c.receive.auto.buf ∙ c.loop.invariant.0,
  c.in-Idle.ensures.receives.after,
  g.met.S.Service.same_then _ _ _ c.loop.invariant.2 c.pull.ensures.same,
  streams_idle _ _ _ _ _ _ _ _ (streams_empty _ _ _ _ _ _ _ _ _ c.loop.invariant.3 c.in-Empty.ensures.turns) c.in-Idle.ensures.receives,
  c.pull.ensures.free,
  pauses_idle _ _ _ _ _ _ _ (pauses_on _ _ _ _ _ c.loop.invariant.5 c.pull.ensures.idles) c.in-Idle.ensures.receives c.pause.ensures.pauses c.pause.ensures.once,
)

pub returns-in-End-clause-streams : goal.returns-in-End-clause-streams
returns-in-End-clause-streams g c =
    streams_ended _ _ _ _ _ _ _ _ _ _ _ c.loop.invariant.3 _ c.in-Empty.ensures.turns c.in-End.ensures.receives c.close-in-End.ensures.closes

pub returns-in-End-clause-pauses : goal.returns-in-End-clause-pauses
returns-in-End-clause-pauses g c = pauses_on _ _ _ _ _ c.loop.invariant.5 (c.in-End.ensures.receives.counts.idles ∙ c.pull.ensures.idles)

pub returns-in-Failed-clause-streams : goal.returns-in-Failed-clause-streams
returns-in-Failed-clause-streams g c =
    streams_failed _ _ _ _ _ _ _ _ _ _ _ c.loop.invariant.3 _ c.in-Empty.ensures.turns c.in-Failed.ensures.receives c.close-in-Failed.ensures.closes

pub returns-in-Failed-clause-pauses : goal.returns-in-Failed-clause-pauses
returns-in-Failed-clause-pauses g c = pauses_on _ _ _ _ _ c.loop.invariant.5 (c.in-Failed.ensures.receives.idles ∙ c.pull.ensures.idles)
