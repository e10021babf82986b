use Rattle.satip_audit.proofs.CutLemmas.{finds}
use Rattle.satip_audit.proofs.cutting.place_of.Goals as goal

pub returns-clause-finds : goal.returns-clause-finds
returns-clause-finds c = finds c.args.at c.args.text.now c.memchr.result c.memchr.ensures
