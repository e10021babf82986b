use Rattle.std.proofs.Common.{refl, ◌∙◌}
use Rattle.satip_tunnel.proofs.WorkerLemmas.{serves_from, serves_idle, serves_to_end, serves_to_fault, serves_next, serves_to_spent, handed_goes_on, handed_calm}
use Rattle.satip_worker.proofs.DoorLemmas.{doors_none, doors_idle, doors_kept, doors_served}
use Rattle.satip_worker.proofs.WorkerLemmas.{spent_goes_on}
use Rattle.satip_tunnel.proofs.worker.run_tunnel_worker.Goals as goal

pub loop-init : goal.loop-init
loop-init g c = (refl, refl, serves_from _ _ _ _ _ c.make-draws.ensures.first, doors_none 1 _ _)

pub loop-preserved : goal.loop-preserved
loop-preserved g c = (
  c.loop.invariant.0,
  c.loop.invariant.1,
  serves_idle _ _ _ _ _ _ _ c.loop.invariant.2 c.in-Idle.ensures.opens,
  doors_idle 1 _ _ _ _ _ c.loop.invariant.3 _ c.in-Idle.ensures.opens c.pause.ensures.pauses c.pause.ensures.once,
)

pub loop-preserved-in-Done : goal.loop-preserved-in-Done
loop-preserved-in-Done g c =
    let on = c.loop.invariant.2 in
    let run = c.in-Done.ensures.serves _ _ on.count on.draws_are in (
      c.serve_one.ensures.key ∙ c.loop.invariant.0,
      c.serve_one.ensures.outlet ∙ c.loop.invariant.1,
      serves_next _ _ _ _ _ _ _ _ _ on _ _ run.0 c.in-Came.ensures.opens run.1 run.2 c.serve_one.new.caller.short refl,
      doors_served 1 _ _ _ _ _ (doors_kept 1 _ _ _ _ _ c.loop.invariant.3 _ c.in-Came.ensures.opens.content c.in-Came.ensures.opens.idles) _ _ _ _ c.in-Came.ensures.opens.fresh c.serve_one.ensures.pauses,
    )

pub loop-preserved-in-ReadFault : goal.loop-preserved-in-ReadFault
loop-preserved-in-ReadFault g c =
    let on = c.loop.invariant.2 in
    let run = c.in-ReadFault.ensures.serves _ _ on.count on.draws_are in (
      c.serve_one.ensures.key ∙ c.loop.invariant.0,
      c.serve_one.ensures.outlet ∙ c.loop.invariant.1,
      serves_next _ _ _ _ _ _ _ _ _ on _ _ run.0 c.in-Came.ensures.opens run.1 run.2 c.serve_one.new.caller.short refl,
      doors_served 1 _ _ _ _ _ (doors_kept 1 _ _ _ _ _ c.loop.invariant.3 _ c.in-Came.ensures.opens.content c.in-Came.ensures.opens.idles) _ _ _ _ c.in-Came.ensures.opens.fresh c.serve_one.ensures.pauses,
    )

pub loop-preserved-in-WriteFault : goal.loop-preserved-in-WriteFault
loop-preserved-in-WriteFault g c =
    let on = c.loop.invariant.2 in
    let run = c.in-WriteFault.ensures.serves _ _ on.count on.draws_are in (
      c.serve_one.ensures.key ∙ c.loop.invariant.0,
      c.serve_one.ensures.outlet ∙ c.loop.invariant.1,
      serves_next _ _ _ _ _ _ _ _ _ on _ _ run.0 c.in-Came.ensures.opens run.1 run.2 c.serve_one.new.caller.short refl,
      doors_served 1 _ _ _ _ _ (doors_kept 1 _ _ _ _ _ c.loop.invariant.3 _ c.in-Came.ensures.opens.content c.in-Came.ensures.opens.idles) _ _ _ _ c.in-Came.ensures.opens.fresh c.serve_one.ensures.pauses,
    )

pub returns-in-Spent-clause-tunnel : goal.returns-in-Spent-clause-tunnel
returns-in-Spent-clause-tunnel g c =
    let on = c.loop.invariant.2 in
    let run = c.in-Spent.ensures.serves _ _ on.count on.draws_are in
    let s = serves_to_spent _ _ _ _ _ _ _ _ _ on _ _ run.0 c.in-Came.ensures.opens run.1 run.2 c.serve_one.new.caller.short refl (c.in-Spent.ensures.spent refl) in
    s.grows.cell

pub returns-in-Spent-clause-pass : goal.returns-in-Spent-clause-pass
returns-in-Spent-clause-pass g c =
    let on = c.loop.invariant.2 in
    let run = c.in-Spent.ensures.serves _ _ on.count on.draws_are in
    let s = serves_to_spent _ _ _ _ _ _ _ _ _ on _ _ run.0 c.in-Came.ensures.opens run.1 run.2 c.serve_one.new.caller.short refl (c.in-Spent.ensures.spent refl) in
    s.grows.keeps

pub returns-in-Spent-clause-seen : goal.returns-in-Spent-clause-seen
returns-in-Spent-clause-seen g c =
    let on = c.loop.invariant.2 in
    let run = c.in-Spent.ensures.serves _ _ on.count on.draws_are in
    let s = serves_to_spent _ _ _ _ _ _ _ _ _ on _ _ run.0 c.in-Came.ensures.opens run.1 run.2 c.serve_one.new.caller.short refl (c.in-Spent.ensures.spent refl) in
    s.grows.seen

pub returns-in-Spent-clause-own : goal.returns-in-Spent-clause-own
returns-in-Spent-clause-own g c =
    let on = c.loop.invariant.2 in
    let run = c.in-Spent.ensures.serves _ _ on.count on.draws_are in
    let s = serves_to_spent _ _ _ _ _ _ _ _ _ on _ _ run.0 c.in-Came.ensures.opens run.1 run.2 c.serve_one.new.caller.short refl (c.in-Spent.ensures.spent refl) in
    record { rest = s.entries; whole = s.grows.own }

pub returns-in-Spent-clause-serves : goal.returns-in-Spent-clause-serves
returns-in-Spent-clause-serves g c =
    let on = c.loop.invariant.2 in
    let run = c.in-Spent.ensures.serves _ _ on.count on.draws_are in
    let s = serves_to_spent _ _ _ _ _ _ _ _ _ on _ _ run.0 c.in-Came.ensures.opens run.1 run.2 c.serve_one.new.caller.short refl (c.in-Spent.ensures.spent refl) in
    s

pub returns-in-Spent-clause-closed : goal.returns-in-Spent-clause-closed
returns-in-Spent-clause-closed g c =
    let on = c.loop.invariant.2 in
    let run = c.in-Spent.ensures.serves _ _ on.count on.draws_are in
    spent_goes_on _ (handed_goes_on _ _ _ _ _ _ _ _ _ on _ _ run.0 c.in-Came.ensures.opens run.1 run.2 c.serve_one.new.caller.short)

pub returns-in-Spent-clause-calm : goal.returns-in-Spent-clause-calm
returns-in-Spent-clause-calm g c = λ is.
    let on = c.loop.invariant.2 in
    let run = c.in-Spent.ensures.serves _ _ on.count on.draws_are in
    handed_calm _ _ _ _ _ _ _ _ _ on _ _ run.0 c.in-Came.ensures.opens run.1 run.2 c.serve_one.new.caller.short

pub returns-in-End-clause-serves : goal.returns-in-End-clause-serves
returns-in-End-clause-serves g c = serves_to_end _ _ _ _ _ _ _ c.loop.invariant.2 c.in-End.ensures.opens

pub returns-in-Failed-clause-serves : goal.returns-in-Failed-clause-serves
returns-in-Failed-clause-serves g c = serves_to_fault _ _ _ _ _ _ _ c.loop.invariant.2 c.in-Failed.ensures.opens

pub returns-in-Spent-clause-pauses : goal.returns-in-Spent-clause-pauses
returns-in-Spent-clause-pauses g c =
    doors_served 1 _ _ _ _ _ (doors_kept 1 _ _ _ _ _ c.loop.invariant.3 _ c.in-Came.ensures.opens.content c.in-Came.ensures.opens.idles) _ _ _ _ c.in-Came.ensures.opens.fresh c.serve_one.ensures.pauses

pub returns-in-End-clause-pauses : goal.returns-in-End-clause-pauses
returns-in-End-clause-pauses g c = doors_kept 1 _ _ _ _ _ c.loop.invariant.3 _ c.in-End.ensures.opens.content c.in-End.ensures.opens.idles

pub returns-in-Failed-clause-pauses : goal.returns-in-Failed-clause-pauses
returns-in-Failed-clause-pauses g c = doors_kept 1 _ _ _ _ _ c.loop.invariant.3 _ c.in-Failed.ensures.opens.content c.in-Failed.ensures.opens.idles
