use Rattle.satip_worker.proofs.HttpLemmas.{ran_to_nothing, ran_to_failure, ran_to_refusal, ran_to_cut_refusal, ran_to_unmade, ran_to_cut_start, ran_to_stream}
use Rattle.satip_worker.proofs.PauseLemmas.{pauses_on, pauses_then}
use Rattle.satip_worker.proofs.http.serve_http.Goals as goal

pub returns-in-Ended-clause-serves : goal.returns-in-Ended-clause-serves
returns-in-Ended-clause-serves g c = λ key stream from are.
    ran_to_nothing _ _ _ key stream from _ _ _ _ c.in-Ended.ensures.reads are

pub returns-in-Failed-clause-serves : goal.returns-in-Failed-clause-serves
returns-in-Failed-clause-serves g c = λ key stream from are.
    ran_to_failure _ _ _ key stream from _ _ _ _ c.in-Failed.ensures.reads are

pub returns-in-Started-clause-serves : goal.returns-in-Started-clause-serves
returns-in-Started-clause-serves g c = λ key stream from are.
    ran_to_stream _ _ _ key stream from _ _ _ _ _ _ _ c.in-Asked.ensures.reads (c.get.ensures.draws key stream from are) _ _ _ _
    (c.in-Started.ensures.turns key stream from are) c.stream.ensures.streams

pub returns-in-StartCut-clause-serves : goal.returns-in-StartCut-clause-serves
returns-in-StartCut-clause-serves g c = λ key stream from are.
    ran_to_cut_start _ _ _ key stream from _ _ _ _ _ _ _ c.in-Asked.ensures.reads (c.get.ensures.draws key stream from are) _ _ _
    c.get.ensures.input (c.in-StartCut.ensures.turns key stream from are) c.close.ensures.closes

pub returns-in-Refused-clause-serves : goal.returns-in-Refused-clause-serves
returns-in-Refused-clause-serves g c = λ key stream from are.
    ran_to_refusal _ _ _ key stream from _ _ _ _ _ _ _ c.in-Asked.ensures.reads (c.get.ensures.draws key stream from are)
    c.get.ensures.input (c.in-Refused.ensures.turns key stream from are)

pub returns-in-RefusalCut-clause-serves : goal.returns-in-RefusalCut-clause-serves
returns-in-RefusalCut-clause-serves g c = λ key stream from are.
    ran_to_cut_refusal _ _ _ key stream from _ _ _ _ _ _ _ c.in-Asked.ensures.reads (c.get.ensures.draws key stream from are)
    c.get.ensures.input (c.in-RefusalCut.ensures.turns key stream from are)

pub returns-in-Unmade-clause-serves : goal.returns-in-Unmade-clause-serves
returns-in-Unmade-clause-serves g c = λ key stream from are.
    rw c.end_of.ensures.end (ran_to_unmade _ _ _ key stream from _ _ _ _ _ _ _ c.in-Asked.ensures.reads (c.get.ensures.draws key stream from are) _
    (c.in-Unmade.ensures.turns key stream from are))

pub returns-in-Ended-clause-pauses : goal.returns-in-Ended-clause-pauses
returns-in-Ended-clause-pauses g c = c.read_first.ensures.pauses

pub returns-in-Failed-clause-pauses : goal.returns-in-Failed-clause-pauses
returns-in-Failed-clause-pauses g c = c.read_first.ensures.pauses

pub returns-in-Started-clause-pauses : goal.returns-in-Started-clause-pauses
returns-in-Started-clause-pauses g c =
    pauses_then _ _ _ _ _ _ (pauses_on _ _ _ _ _ c.read_first.ensures.pauses c.get.ensures.idles) c.stream.ensures.pauses

pub returns-in-StartCut-clause-pauses : goal.returns-in-StartCut-clause-pauses
returns-in-StartCut-clause-pauses g c = pauses_on _ _ _ _ _ c.read_first.ensures.pauses c.get.ensures.idles

pub returns-in-Refused-clause-pauses : goal.returns-in-Refused-clause-pauses
returns-in-Refused-clause-pauses g c = pauses_on _ _ _ _ _ c.read_first.ensures.pauses c.get.ensures.idles

pub returns-in-RefusalCut-clause-pauses : goal.returns-in-RefusalCut-clause-pauses
returns-in-RefusalCut-clause-pauses g c = pauses_on _ _ _ _ _ c.read_first.ensures.pauses c.get.ensures.idles

pub returns-in-Unmade-clause-pauses : goal.returns-in-Unmade-clause-pauses
returns-in-Unmade-clause-pauses g c = pauses_on _ _ _ _ _ c.read_first.ensures.pauses c.get.ensures.idles
