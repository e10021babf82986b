use Rattle.satip_base.proofs.Writing.{◌then◌}
use Rattle.satip_query.specs.Bodies.{body_part}
use Rattle.satip_query.proofs.bodies.write_body.Goals as goal

pub returns : goal.returns
unfolding body_part
returns c = record {
  wrote = rw (← c.size.ensures.size) (
      c.write.ensures.wrote then c.write_number_line.ensures.wrote then c.write-2.ensures.wrote
      then c.write-3.ensures.wrote then c.write-4.ensures.wrote);
}
