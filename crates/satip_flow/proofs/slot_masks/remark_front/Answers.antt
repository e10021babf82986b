use Rattle.std.proofs.Common.{◌≡◌, ◌+◌, ◌*◌, ◌<◌, ℕ, sym, ap, subst, ◌∙◌, arith}
use Rattle.std.specs.Int.{bit_at}
use Rattle.satip_pids.specs.Pids.{has_pid}
use Rattle.satip_flow.specs.Rows.{bit, IsRewritten}
use Rattle.satip_flow.proofs.Rewriting.{rewritten_more}
use Rattle.satip_flow.proofs.slot_masks.remark_front.Goals as goal

pub loop-at-preserved : goal.loop-at-preserved
loop-at-preserved c =
    let at = c.loop-at.at in
    let start = c.args.start in
    let was : ℕ → ℕ = λ pid. bit (has_pid c.args.old.now pid) in
    let is : ℕ → ℕ = λ pid. bit (has_pid c.args.pids.now pid) in
    let new = c.remark_words.new.rows in
    let more : 64 * at + 64 ≡ 64 * (at + 1) = omega arith in
    record {
      written = subst (λ n. IsRewritten n start c.args.slots was is c.args.rows.now new) more
          (rewritten_more (64 * at) 64 start (start + 64 * at) c.args.slots was is (λ i. bit_at c.word.result i) (λ i. bit_at c.word-in-loop-at.result i)
          c.args.rows.now c.loop-at.rows new (omega arith) c.word.ensures.bits c.word-in-loop-at.ensures.bits c.loop-at.invariant.written
          c.remark_words.ensures.written);
      count = c.remark_words.ensures.count ∙ c.loop-at.invariant.count;
    }
