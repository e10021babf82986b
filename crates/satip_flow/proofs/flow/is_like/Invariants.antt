use Rattle.satip_flow.proofs.Marking.{NoneKnown}
use Rattle.satip_flow.proofs.flow.is_like.Given as goal

abbrev pub invariant-loop-subscriber : goal.invariant-loop-subscriber
invariant-loop-subscriber l = NoneKnown l.subscriber-index l.alike l.stream l.subscribers
