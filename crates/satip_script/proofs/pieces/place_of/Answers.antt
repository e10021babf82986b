use Rattle.satip_tune.specs.Pieces.{is_byte}
use Rattle.satip_script.proofs.FirstPlace.{first_place}
use Rattle.satip_script.proofs.pieces.place_of.Goals as goal

pub returns : goal.returns
returns c = record {
  found = first_place (is_byte c.args.at) c.args.text.now c.memchr.result c.memchr.ensures;
}
