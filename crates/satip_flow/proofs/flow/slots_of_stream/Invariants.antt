use Rattle.satip_flow.proofs.Marking.{SlotsTo}
use Rattle.satip_flow.proofs.flow.slots_of_stream.Given as goal

abbrev pub invariant-loop-subscriber : goal.invariant-loop-subscriber
invariant-loop-subscriber l = SlotsTo l.subscriber-index l.slots l.stream l.subscribers
