use Rattle.std.proofs.Common.{ℕ, None, Option, arith}
use Rattle.std.proofs.lemmas.List.{length-replicate}
use Rattle.satip_timer.proofs.PlaceLaws.{none_due, paired_same}
use Rattle.satip_timer.proofs.heap.Heap.new.Goals as goal

pub returns : goal.returns
returns c = record {
  sound = record {
    placed = record {
      whole = length-replicate {A = Option ℕ} 64 None;
      room = omega arith;
      pairs = paired_same _ (λ i below. c.loop-key.invariant.1 i (omega (arith, c.loop-key-test.false)));
      due = λ i below. absurd (omega arith);
      within = λ key its. absurd (none_due key its);
    };
    heap = λ i pos below. absurd (omega arith);
  };
}
