use Rattle.std.proofs.Common.{◌≡◌, Some}
use Rattle.satip_pump.proofs.ReadingLemmas.{turns_to}
use Rattle.satip_pump.proofs.reading.turn_to.Goals as goal

pub returns-clause-goes : goal.returns-clause-goes
returns-clause-goes g c = λ first early reel stands.
    rw c.clear.ensures.empty (turns_to _ _ _ first early reel c.args.reading.now c.args.mux c.args.tune _ _ _ c.begin.result stands
    (λ (is : c.args.reading.now.tune ≡ Some c.args.tune). let read = c.is_read.ensures.read.1 is in absurd (cc (read, c.if-is_read.false)))
    c.hand_back.ensures.faults
    (rw c.hand_back.ensures.recordings at c.begin.ensures.begins))
