use Rattle.satip_table.specs.View.{living}
use Rattle.satip_table.proofs.TableLaws.{sound_retuned}
use Rattle.satip_table.proofs.table.Table.change.Goals as goal

pub invariant_of-self : goal.invariant_of-self
invariant_of-self c = record {
  sound =
      sound_retuned (living c.self.inside) c.args.number c.args.tuning c.args.front c.args.pids c.change.new.self c.self.invariant.sound
      c.change.ensures.changed;
}

pub returns-clause-sound : goal.returns-clause-sound
returns-clause-sound c = (invariant_of-self c).sound
