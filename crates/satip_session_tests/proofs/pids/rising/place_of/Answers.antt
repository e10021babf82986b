use Rattle.satip_pids.proofs.RisingLists.{placed}
use Rattle.satip_session_tests.proofs.pids.rising.place_of.Goals as goal

pub returns-clause-found : goal.returns-clause-found
returns-clause-found c =
    (placed 0 c.args.pids.now c.args.pid c.binary_search.result c.requires.rising c.binary_search.ensures.position).0

pub returns-clause-absent : goal.returns-clause-absent
returns-clause-absent c =
    (placed 0 c.args.pids.now c.args.pid c.binary_search.result c.requires.rising c.binary_search.ensures.position).1
