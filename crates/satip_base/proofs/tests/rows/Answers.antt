-- What comes behind the prefix.
use Rattle.std.proofs.Common.{[], ◌∷◌, refl}
use Rattle.satip_base.proofs.tests.rows.Goals as goal

pub returns-clause-begins : goal.returns-clause-begins
returns-clause-begins c = record { rest = c.args.c ∷ []; whole = refl }
