use Rattle.std.proofs.Common.{◌≡◌, ◌++◌, arith}
use Rattle.satip_interleave.proofs.RingLemmas.{overwritten_behind, overwritten_across}
use Rattle.satip_interleave.proofs.ring.put_across.Goals as goal

pub returns-then-split-at : goal.returns-then-split-at
returns-then-split-at c = record {
  put = rw c.put_at.ensures.put
      (overwritten_behind c.args.first.now c.args.second.now c.args.piece.now c.args.at (omega arith) (omega arith));
}

pub returns-else-piece-split : goal.returns-else-piece-split
returns-else-piece-split c =
    let front = c.split_at.result.0.now in
    let back = c.split_at.result.1.now in
    let whole : c.args.piece.now ≡ front ++ back = c.split_at.ensures.by_index.0 in
    record {
      put = rw (c.put_at-else-piece-split.ensures.put, c.put_at-else-piece-split-2.ensures.put)
          (overwritten_across c.args.first.now c.args.second.now front back c.args.piece.now c.args.at
          (omega (arith, c.split_at.ensures.front_len)) (omega (arith, c.split_at.ensures.front_len, c.split_at.ensures.back_len)) whole);
    }
