use Rattle.satip_fronts.specs.Rows.{tuned_at}
use Rattle.satip_fronts.proofs.MapOver.{map_step}
use Rattle.satip_fronts.proofs.front_table.tune_front.Goals as goal

pub loop-i-preserved : goal.loop-i-preserved
loop-i-preserved c =
    map_step (tuned_at c.args.front c.args.mux) c.args.rows.now c.loop-i.rows c.loop-i.i c.tuned_row.result _ c.loop-i-test.true c.loop-i.auto.rows
    c.loop-i.invariant c.tuned_row.ensures.tuned
