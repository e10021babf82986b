use Rattle.std.proofs.Common.{sym}
use Rattle.satip_tune.specs.Pieces.{is_byte}
use Rattle.satip_tune.proofs.Places.{uncut, cut_at}
use Rattle.satip_script.proofs.pieces.cut.Goals as goal

pub returns-in-None-clause-pieces : goal.returns-in-None-clause-pieces
returns-in-None-clause-pieces c =
    (uncut (is_byte c.args.at) c.args.text.now (sym c.in-None.ensures.found)).parts

pub returns-in-Some-clause-pieces : goal.returns-in-Some-clause-pieces
returns-in-Some-clause-pieces c =
    (cut_at (is_byte c.args.at) c.args.text.now c.in-Some.place 0 _ _ _ (sym c.in-Some.ensures.found)
    c.split_at.ensures.front c.split_at.ensures.back c.split_at-in-Some.ensures.back).parts
