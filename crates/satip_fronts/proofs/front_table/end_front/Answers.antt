use Rattle.satip_fronts.specs.Rows.{ended_at}
use Rattle.satip_fronts.proofs.MapOver.{map_step}
use Rattle.satip_fronts.proofs.front_table.end_front.Goals as goal

pub loop-i-preserved : goal.loop-i-preserved
loop-i-preserved c =
    map_step (ended_at c.args.front) c.args.rows.now c.loop-i.rows c.loop-i.i c.ended_row.result _ c.loop-i-test.true c.loop-i.auto.rows c.loop-i.invariant
    c.ended_row.ensures.ended
