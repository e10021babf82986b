-- Subscribers that select nothing are passed over.
use Rattle.std.proofs.Common.{ℕ, ◌≡◌, ◌+◌, ◌-◌, ◌*◌, ◌<◌, ◌≤◌, zero, suc, Bool, true, false, cond, ◌&&◌, ◌||◌, List, [], ◌∷◌, ◌++◌, length, map, take, set, get_or, max, bit_or, refl, sym, ap, subst, ◌∙◌, arith}
use Rattle.std.proofs.lemmas.List.{take_all}
use Rattle.std.proofs.lemmas.List.Folds.{list_any_more}
use Rattle.std.proofs.lemmas.Nat.Bits.{bit_at_or, bit_at-zero}
use Rattle.std.specs.Int.{bit_at}
use Rattle.std.specs.List.{list_any, flat_map}
use Rattle.satip_base.specs.Output.{Output}
use Rattle.satip_rtp.specs.Sending.{SendsAll}
use Rattle.satip_flow.specs.Subscription.{Subscription, selects, given, given_datagrams, meets_full, has_slot, is_full, fed, fed_datagrams}
use Rattle.satip_flow.specs.Standing.{HoldsOfAt, ChangesAt}
use Rattle.satip_flow.specs.Rows.{bit}
use Rattle.satip_flow.proofs.Sweep.{sweep, length-sweep, sweep-next, sweep-more, sweep-all, flat_map-more}
use Rattle.satip_flow.proofs.Sends.{nothing_sent, ◌then_sends◌, max-marks}
use Rattle.satip_flow.proofs.RoomLemmas.{someone}

-- what no step changes
steady : {Y : Type 0} (F : ℕ → Y) (from count : ℕ) → ((i : ℕ) → from ≤ i → i < from + count → F (suc i) ≡ F i) → F (from + count) ≡ F from
steady F from zero same =
    let none : from + 0 ≡ from = omega arith in
    ap F none
steady F from (suc count) same =
    let more : from + suc count ≡ suc (from + count) = omega arith in
    ap F more ∙ same (from + count) (omega arith) (omega arith) ∙ steady F from count (λ i le lt. same i le (omega (arith, lt)))

steady_to : {Y : Type 0} (F : ℕ → Y) (from to : ℕ) → from ≤ to → ((i : ℕ) → from ≤ i → i < to → F (suc i) ≡ F i) → F to ≡ F from
steady_to F from to h same =
    let whole : to ≡ from + (to - from) = omega (arith, h) in
    ap F whole ∙ steady F from (to - from) (λ i le lt. same i le (omega (arith, h, lt)))

-- an element that isn't changed, or gives nothing, or fails a test
sweep_same : (f : Subscription → Subscription) (n : ℕ) (xs : List Subscription) → ((d : Subscription) → n < length xs → f (get_or xs n d) ≡ get_or xs n d)
    → sweep f (suc n) xs ≡ sweep f n xs
sweep_same f zero [] same = refl
sweep_same f zero (x ∷ xs) same = ap (λ y. y ∷ xs) (same x (omega arith))
sweep_same f (suc n) [] same = refl
sweep_same f (suc n) (x ∷ xs) same = ap (λ rest. f x ∷ rest) (sweep_same f n xs (λ d h. same d (omega (arith, h))))

gives_same : {Y : Type 0} (g : Subscription → List Y) (n : ℕ) (xs : List Subscription) → ((d : Subscription) → n < length xs → g (get_or xs n d) ≡ [])
    → flat_map g (take (suc n) xs) ≡ flat_map g (take n xs)
gives_same g zero [] none = refl
gives_same g zero (x ∷ xs) none = ap (λ ys. ys ++ []) (none x (omega arith))
gives_same g (suc n) [] none = refl
gives_same g (suc n) (x ∷ xs) none = ap (λ rest. g x ++ rest) (gives_same g n xs (λ d h. none d (omega (arith, h))))

fails_same : (p : Subscription → Bool) (n : ℕ) (xs : List Subscription) → ((d : Subscription) → n < length xs → p (get_or xs n d) ≡ false)
    → list_any p (take (suc n) xs) ≡ list_any p (take n xs)
fails_same p zero [] lacks = refl
fails_same p zero (x ∷ xs) lacks = ap (λ t. t || false) (lacks x (omega arith))
fails_same p (suc n) [] lacks = refl
fails_same p (suc n) (x ∷ xs) lacks = ap (λ t. p x || t) (fails_same p n xs (λ d h. lacks d (omega (arith, h))))

-- a packet is given to the first subscribers
pub record IsGivenTo (front : ℕ) (packet : List ℕ) (clock : ℕ) (subscribers : List Subscription) (before : Output) (at : ℕ)
    (now : List Subscription) (out : Output) (marked : ℕ) : Type 0 where
  pub swept : now ≡ sweep (given front packet) at subscribers
  pub sent : SendsAll before (flat_map (given_datagrams front packet clock) (take at subscribers)) out
  pub bytes : before.datagram_spare ≤ out.datagram_spare + 1328 * at
  pub count : before.count_spare ≤ out.count_spare + at
  pub overrun : (slot : ℕ) → bit_at marked slot ≡ cond (list_any (meets_full front packet slot) (take at subscribers)) 1 0

-- those who select nothing are passed over
pub passed : (front : ℕ) (packet : List ℕ) (clock : ℕ) (xs : List Subscription) (before : Output) (from to : ℕ) (now : List Subscription)
    (out : Output) (overrun : ℕ)
    → from ≤ to → ((i : ℕ) → from ≤ i → i < to → (d : Subscription) → i < length xs → selects front packet (get_or xs i d) ≡ false)
    → IsGivenTo front packet clock xs before from now out overrun → IsGivenTo front packet clock xs before to now out overrun
passed front packet clock xs before from to now out overrun h none given_to = record {
  swept = given_to.swept ∙ sym (steady_to (λ n. sweep (given front packet) n xs) from to h (λ i le lt. sweep_same (given front packet) i xs (λ d inside.
      let s = get_or xs i d in
      ap (λ t. cond t (record s { feed = fed packet s.feed }) s) (none i le lt d inside))));
  sent = subst (λ ds. SendsAll before ds out)
      (sym (steady_to (λ n. flat_map (given_datagrams front packet clock) (take n xs)) from to h
      (λ i le lt. gives_same (given_datagrams front packet clock) i xs (λ d inside.
      let s = get_or xs i d in
      ap (λ t. cond t (fed_datagrams packet clock s.feed) []) (none i le lt d inside)))))
      given_to.sent;
  bytes = omega (arith, h, given_to.bytes);
  count = omega (arith, h, given_to.count);
  overrun = λ slot. given_to.overrun slot
      ∙ ap (λ t. cond t 1 0) (sym (steady_to (λ n. list_any (meets_full front packet slot) (take n xs)) from to h
      (λ i le lt. fails_same (meets_full front packet slot) i xs (λ d inside.
      let s = get_or xs i d in
      ap (λ t. (t && is_full s.feed) && has_slot slot s) (none i le lt d inside)))));
}

-- whose bit is clear selects nothing, and whose bit is set selects the packet
pub not_selected : (n : ℕ) (t : Bool) → n ≡ bit t → n ≡ 0 → t ≡ false
not_selected n true h zeros = absurd (omega (arith, h, zeros))
not_selected n false h zeros = refl

pub is_selected : (n : ℕ) (t : Bool) → n ≡ bit t → n ≡ 1 → t ≡ true
is_selected n true h one = refl
is_selected n false h one = absurd (omega (arith, h, one))

-- at first nobody was given it
pub given_none : (front : ℕ) (packet : List ℕ) (clock : ℕ) (xs : List Subscription) (before : Output) → IsGivenTo front packet clock xs before 0 xs before 0
given_none front packet clock xs before = record {
  swept = refl;
  sent = nothing_sent before;
  bytes = omega arith;
  count = omega arith;
  overrun = λ slot. bit_at-zero slot;
}

-- the next one is given it
pub given_more : (front : ℕ) (packet : List ℕ) (clock : ℕ) (xs : List Subscription) (before : Output) (at : ℕ) (now : List Subscription)
    (out : Output) (overrun : ℕ)
    (new : List Subscription) (after : Output) (marked : ℕ) → at < length xs → IsGivenTo front packet clock xs before at now out overrun
    → ChangesAt now at (given front packet) new → HoldsOfAt now at (λ s. SendsAll out (given_datagrams front packet clock s) after)
    → HoldsOfAt now at (λ s. (slot : ℕ) → bit_at marked slot ≡ cond (meets_full front packet slot s) 1 0)
    → out.datagram_spare ≤ after.datagram_spare + 1328 → out.count_spare ≤ after.count_spare + 1
    → IsGivenTo front packet clock xs before (at + 1) new after (bit_or overrun marked)
given_more front packet clock xs before at now out overrun new after marked inside so_far changed sent marks bytes count =
    let f = given front packet in
    let g = given_datagrams front packet clock in
    let same = ap (λ ys. get_or ys at someone) so_far.swept ∙ sweep-next f at xs someone in
    let datagrams = ap (λ s. flat_map g (take at xs) ++ g s) same ∙ sym (flat_map-more g at xs someone inside) in
    record {
      swept = changed someone
          ∙ ap (λ ys. set ys at (f (get_or ys at someone))) so_far.swept
          ∙ ap (λ y. set (sweep f at xs) at (f y)) (sweep-next f at xs someone)
          ∙ sweep-more f at xs someone inside;
      sent = subst (λ ds. SendsAll before ds after) datagrams (so_far.sent then_sends sent someone);
      bytes = omega (arith, so_far.bytes, bytes);
      count = omega (arith, so_far.count, count);
      overrun = λ slot.
          let test = meets_full front packet slot in
          bit_at_or overrun marked slot
          ∙ ap (λ n. max n (bit_at marked slot)) (so_far.overrun slot)
          ∙ ap (λ n. max (cond (list_any test (take at xs)) 1 0) n) (marks someone slot ∙ ap (λ s. cond (test s) 1 0) same)
          ∙ max-marks (list_any test (take at xs)) (test (get_or xs at someone))
          ∙ ap (λ t. cond t 1 0) (sym (list_any_more test xs at someone inside));
    }

-- at last all were
pub given_all : (front : ℕ) (packet : List ℕ) (clock : ℕ) (xs : List Subscription) (before : Output) (at : ℕ) (now : List Subscription)
    (out : Output) (overrun : ℕ)
    → length xs ≤ at → IsGivenTo front packet clock xs before at now out overrun
    → (now ≡ map (given front packet) xs) × SendsAll before (flat_map (given_datagrams front packet clock) xs) out
    × ((slot : ℕ) → bit_at overrun slot ≡ cond (list_any (meets_full front packet slot) xs) 1 0)
given_all front packet clock xs before at now out overrun all given_to = (
  given_to.swept ∙ sweep-all (given front packet) at xs all,
  subst (λ ys. SendsAll before (flat_map (given_datagrams front packet clock) ys) out) (take_all at xs all) given_to.sent,
  λ slot. given_to.overrun slot ∙ ap (λ ys. cond (list_any (meets_full front packet slot) ys) 1 0) (take_all at xs all),
)

-- so long as it is given there are as many
pub still_all : (front : ℕ) (packet : List ℕ) (clock : ℕ) (xs : List Subscription) (before : Output) (at : ℕ) (now : List Subscription)
    (out : Output) (overrun : ℕ)
    → IsGivenTo front packet clock xs before at now out overrun → length now ≡ length xs
still_all front packet clock xs before at now out overrun given_to = ap length given_to.swept ∙ length-sweep (given front packet) at xs
