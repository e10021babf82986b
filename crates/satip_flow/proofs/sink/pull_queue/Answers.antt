use Rattle.std.proofs.Common.{◌++◌, length, take, drop, sym, ap, subst, ◌∙◌, arith, length-append}
use Rattle.std.proofs.lemmas.List.{drop-drop}
use Rattle.std.proofs.Math.Seq.{take-add}
use Rattle.std.specs.List.{concat}
use Rattle.circular_buffer.specs.Buffer.{buffer}
use Rattle.satip_base.specs.Output.{Wrote}
use Rattle.satip_base.proofs.Writing.{◌then◌}
use Rattle.satip_flow.proofs.Sends.{concat-append}
use Rattle.satip_flow.proofs.sink.pull_queue.Goals as goal

pub loop-pulled-preserved : goal.loop-pulled-preserved
loop-pulled-preserved c =
    let xs = c.args.queue.now.items in
    let i = c.loop-pulled._pulled in
    let so_far = c.loop-pulled.invariant in
    let one = c.pull_packet-bytes.ensures in
    let items = ap (λ b. b.items) so_far.left in
    let moved = take-add i 1 xs in
    let bytes = ap concat moved ∙ concat-append (take i xs) (take 1 (drop i xs))
    ∙ ap (λ ys. concat (take i xs) ++ concat (take 1 ys)) (sym items) in
    let count = ap length moved ∙ length-append (take i xs) (take 1 (drop i xs)) in
    let first = ap (λ ys. length (take 1 ys)) items in
    record {
      left = one.left ∙ ap (λ b. buffer (drop 1 b.items) b.capacity) so_far.left ∙ ap (λ ys. buffer ys c.args.queue.now.capacity) (drop-drop 1 i xs);
      wrote = subst (λ bs. Wrote c.args.out.now bs c.pull_packet-bytes.new.out) (sym bytes) (so_far.wrote then one.wrote);
      bytes = omega (arith, so_far.bytes, one.bytes, count, first);
      spare = omega (arith, so_far.spare, one.spare);
    }
