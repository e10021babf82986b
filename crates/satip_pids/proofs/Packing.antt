-- What writes to a packed array leave.
use Rattle.std.proofs.Common.{◌≡◌, ℕ, ◌+◌, ◌-◌, ◌<◌, List, drop, set, replicate, arith, sym, ap, ◌∙◌}
use Rattle.std.proofs.lemmas.List.{drop-set-lt, drop-drop, drop-replicate, length-set}
use Rattle.satip_pids.specs.Packed.{IsPacked}

-- one more number at the first place that was free
pub IsPacked-push : (room : ℕ) (places : List ℕ) (count number : ℕ) → IsPacked room places count → count < room
    → IsPacked room (set places count number) (count + 1)
IsPacked-push room places count number packed free =
    let rest : drop (count + 1) places ≡ replicate (room - count - 1) 0 =
    sym (drop-drop 1 count places) ∙ ap (drop 1) packed.blank ∙ drop-replicate 1 (room - count) 0 in
    record {
      within = omega arith;
      size = length-set places count number ∙ packed.size;
      blank = drop-set-lt (count + 1) places count number (omega arith) ∙ rest ∙ ap (λ n. replicate n 0) (omega arith);
    }
