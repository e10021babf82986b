use Rattle.satip_table.specs.declared.session.Change.TheVariants.{Heard}
use Rattle.satip_table.specs.View.{living}
use Rattle.satip_table.proofs.TableLaws.{sound_set}
use Rattle.satip_table.proofs.table.Table.heard.Goals as goal

pub change-requires : goal.change-requires
change-requires c = record { rising = (c.self.inside.made, c.self.invariant.sound.counts) }

pub invariant_of-self : goal.invariant_of-self
invariant_of-self c = record {
  sound =
      sound_set (living c.self.inside) c.args.id (Heard c.args.now) c.change.new.self c.self.invariant.sound c.change.ensures.changed;
}

pub returns-clause-sound : goal.returns-clause-sound
returns-clause-sound c = (invariant_of-self c).sound
