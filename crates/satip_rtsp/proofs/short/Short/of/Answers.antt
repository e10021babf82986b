use Rattle.satip_rtsp.proofs.ShortLemmas.{holds_first}
use Rattle.satip_rtsp.proofs.short.Short.of.Goals as goal

pub invariant_of-result : goal.invariant_of-result
invariant_of-result c = (holds_first c.args.text.now c.copy_from_slice.new.self c.min-count.result c.min-count.ensures c.copy_from_slice.ensures.after).packed

pub returns : goal.returns
returns c = record {
  first = (holds_first c.args.text.now c.copy_from_slice.new.self c.min-count.result c.min-count.ensures c.copy_from_slice.ensures.after).first;
}
