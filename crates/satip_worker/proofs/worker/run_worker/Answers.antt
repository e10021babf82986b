use Rattle.std.proofs.Common.{refl, ◌∙◌}
use Rattle.satip_worker.proofs.DoorLemmas.{doors_none, doors_idle, doors_kept, doors_served}
use Rattle.satip_worker.proofs.WorkerLemmas.{serves_from, serves_idle, serves_to_end, serves_to_fault, serves_next, serves_to_spent, serves_to_want, handed_goes_on, handed_calm, calm_end, full_history, refused_memory, spent_goes_on, want_goes_on}
use Rattle.satip_worker.proofs.worker.run_worker.Goals as goal

pub loop-init : goal.loop-init
loop-init g c = (g.met.S.Service.same_self _, refl, serves_from _ _ _ _ _ _ _ c.make-draws.ensures.first, c.requires.free, doors_none 0 _ _)

pub loop-preserved : goal.loop-preserved
loop-preserved g c = (
  c.loop.invariant.0,
  c.loop.invariant.1,
  serves_idle _ _ _ _ _ _ _ _ _ _ c.loop.invariant.2 c.in-Idle.ensures.opens,
  c.loop.invariant.3,
  doors_idle 0 _ _ _ _ _ c.loop.invariant.4 _ c.in-Idle.ensures.opens c.pause.ensures.pauses c.pause.ensures.once,
)

pub returns-in-End-clause-serves : goal.returns-in-End-clause-serves
returns-in-End-clause-serves g c = serves_to_end _ _ _ _ _ _ _ _ _ _ c.loop.invariant.2 c.in-End.ensures.opens

pub returns-in-Failed-clause-serves : goal.returns-in-Failed-clause-serves
returns-in-Failed-clause-serves g c = serves_to_fault _ _ _ _ _ _ _ _ _ _ c.loop.invariant.2 c.in-Failed.ensures.opens

pub loop-preserved-in-Done : goal.loop-preserved-in-Done
loop-preserved-in-Done g c =
    let on = c.loop.invariant.2 in
    let run = c.in-Done.ensures.serves _ _ on.some.count on.some.draws_are in (
      g.met.S.Service.same_then _ _ _ c.loop.invariant.0 c.serve_one.ensures.same,
      c.serve_one.ensures.key ∙ c.loop.invariant.1,
      serves_next _ _ _ _ _ _ _ _ _ _ _ _ _ on _ _ _ _ run.0 c.in-Came.ensures.opens run.1 run.2 refl,
      c.serve_one.ensures.free,
      doors_served 0 _ _ _ _ _ (doors_kept 0 _ _ _ _ _ c.loop.invariant.4 _ c.in-Came.ensures.opens.content c.in-Came.ensures.opens.idles) _ _ _ _ c.in-Came.ensures.opens.fresh c.serve_one.ensures.pauses,
    )

pub loop-preserved-in-ReadFault : goal.loop-preserved-in-ReadFault
loop-preserved-in-ReadFault g c =
    let on = c.loop.invariant.2 in
    let run = c.in-ReadFault.ensures.serves _ _ on.some.count on.some.draws_are in (
      g.met.S.Service.same_then _ _ _ c.loop.invariant.0 c.serve_one.ensures.same,
      c.serve_one.ensures.key ∙ c.loop.invariant.1,
      serves_next _ _ _ _ _ _ _ _ _ _ _ _ _ on _ _ _ _ run.0 c.in-Came.ensures.opens run.1 run.2 refl,
      c.serve_one.ensures.free,
      doors_served 0 _ _ _ _ _ (doors_kept 0 _ _ _ _ _ c.loop.invariant.4 _ c.in-Came.ensures.opens.content c.in-Came.ensures.opens.idles) _ _ _ _ c.in-Came.ensures.opens.fresh c.serve_one.ensures.pauses,
    )

pub loop-preserved-in-WriteFault : goal.loop-preserved-in-WriteFault
loop-preserved-in-WriteFault g c =
    let on = c.loop.invariant.2 in
    let run = c.in-WriteFault.ensures.serves _ _ on.some.count on.some.draws_are in (
      g.met.S.Service.same_then _ _ _ c.loop.invariant.0 c.serve_one.ensures.same,
      c.serve_one.ensures.key ∙ c.loop.invariant.1,
      serves_next _ _ _ _ _ _ _ _ _ _ _ _ _ on _ _ _ _ run.0 c.in-Came.ensures.opens run.1 run.2 refl,
      c.serve_one.ensures.free,
      doors_served 0 _ _ _ _ _ (doors_kept 0 _ _ _ _ _ c.loop.invariant.4 _ c.in-Came.ensures.opens.content c.in-Came.ensures.opens.idles) _ _ _ _ c.in-Came.ensures.opens.fresh c.serve_one.ensures.pauses,
    )

pub returns-in-Spent-clause-serves : goal.returns-in-Spent-clause-serves
returns-in-Spent-clause-serves g c =
    let on = c.loop.invariant.2 in
    let run = c.in-Spent.ensures.serves _ _ on.some.count on.some.draws_are in
    serves_to_spent _ _ _ _ _ _ _ _ _ _ _ _ _ on _ _ _ _ run.0 c.in-Came.ensures.opens run.1 run.2 refl

pub returns-in-Spent-clause-closed : goal.returns-in-Spent-clause-closed
returns-in-Spent-clause-closed g c =
    let on = c.loop.invariant.2 in
    let run = c.in-Spent.ensures.serves _ _ on.some.count on.some.draws_are in
    let goes_on = handed_goes_on _ _ _ _ _ _ _ _ _ _ _ _ _ on _ _ _ _ run.0 c.in-Came.ensures.opens run.1 run.2 in
    spent_goes_on _ goes_on

pub returns-in-Spent-clause-spent : goal.returns-in-Spent-clause-spent
returns-in-Spent-clause-spent g c = λ is.
    let on = c.loop.invariant.2 in
    let run = c.in-Spent.ensures.serves _ _ on.some.count on.some.draws_are in
    full_history _ _ _ _ _ _ _ _ _ _ _ _ _ on _ _ _ _ run.0 c.in-Came.ensures.opens run.1 run.2 refl

pub returns-in-Want-clause-serves : goal.returns-in-Want-clause-serves
returns-in-Want-clause-serves g c =
    let on = c.loop.invariant.2 in
    let run = c.in-Want.ensures.serves _ _ on.some.count on.some.draws_are in
    serves_to_want _ _ _ _ _ _ _ _ _ _ _ _ _ on _ _ _ _ run.0 c.in-Came.ensures.opens run.1 run.2 refl

pub returns-in-Want-clause-closed : goal.returns-in-Want-clause-closed
returns-in-Want-clause-closed g c =
    let on = c.loop.invariant.2 in
    let run = c.in-Want.ensures.serves _ _ on.some.count on.some.draws_are in
    let goes_on = handed_goes_on _ _ _ _ _ _ _ _ _ _ _ _ _ on _ _ _ _ run.0 c.in-Came.ensures.opens run.1 run.2 in
    want_goes_on _ goes_on

pub returns-in-Want-clause-want : goal.returns-in-Want-clause-want
returns-in-Want-clause-want g c = λ is.
    let on = c.loop.invariant.2 in
    let run = c.in-Want.ensures.serves _ _ on.some.count on.some.draws_are in
    refused_memory _ _ _ _ _ _ _ _ _ _ _ _ _ on _ _ _ _ run.0 c.in-Came.ensures.opens run.1 run.2 refl

pub returns-in-End-clause-calm : goal.returns-in-End-clause-calm
returns-in-End-clause-calm g c = λ is. calm_end _ _ _ _ _ _ _ _ _ _ c.loop.invariant.2 c.in-End.ensures.opens

pub returns-in-Spent-clause-calm : goal.returns-in-Spent-clause-calm
returns-in-Spent-clause-calm g c = λ is.
    let on = c.loop.invariant.2 in
    let run = c.in-Spent.ensures.serves _ _ on.some.count on.some.draws_are in
    handed_calm _ _ _ _ _ _ _ _ _ _ _ _ _ on _ _ _ _ run.0 c.in-Came.ensures.opens run.1 run.2

pub returns-in-Want-clause-calm : goal.returns-in-Want-clause-calm
returns-in-Want-clause-calm g c = λ is.
    let on = c.loop.invariant.2 in
    let run = c.in-Want.ensures.serves _ _ on.some.count on.some.draws_are in
    handed_calm _ _ _ _ _ _ _ _ _ _ _ _ _ on _ _ _ _ run.0 c.in-Came.ensures.opens run.1 run.2

pub returns-in-Spent-clause-pauses : goal.returns-in-Spent-clause-pauses
returns-in-Spent-clause-pauses g c =
    doors_served 0 _ _ _ _ _ (doors_kept 0 _ _ _ _ _ c.loop.invariant.4 _ c.in-Came.ensures.opens.content c.in-Came.ensures.opens.idles) _ _ _ _ c.in-Came.ensures.opens.fresh c.serve_one.ensures.pauses

pub returns-in-Want-clause-pauses : goal.returns-in-Want-clause-pauses
returns-in-Want-clause-pauses g c =
    doors_served 0 _ _ _ _ _ (doors_kept 0 _ _ _ _ _ c.loop.invariant.4 _ c.in-Came.ensures.opens.content c.in-Came.ensures.opens.idles) _ _ _ _ c.in-Came.ensures.opens.fresh c.serve_one.ensures.pauses

pub returns-in-End-clause-pauses : goal.returns-in-End-clause-pauses
returns-in-End-clause-pauses g c = doors_kept 0 _ _ _ _ _ c.loop.invariant.4 _ c.in-End.ensures.opens.content c.in-End.ensures.opens.idles

pub returns-in-Failed-clause-pauses : goal.returns-in-Failed-clause-pauses
returns-in-Failed-clause-pauses g c = doors_kept 0 _ _ _ _ _ c.loop.invariant.4 _ c.in-Failed.ensures.opens.content c.in-Failed.ensures.opens.idles
