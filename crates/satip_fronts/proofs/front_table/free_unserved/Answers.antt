use Rattle.satip_fronts.specs.Rows.{freed}
use Rattle.satip_fronts.proofs.MapOver.{map_step}
use Rattle.satip_fronts.proofs.front_table.free_unserved.Goals as goal

pub loop-i-preserved : goal.loop-i-preserved
loop-i-preserved c =
    map_step (freed c.args.places.now) c.args.rows.now c.loop-i.rows c.loop-i.i c.freed_row.result _ c.loop-i-test.true c.loop-i.auto.rows c.loop-i.invariant
    c.freed_row.ensures.freed
