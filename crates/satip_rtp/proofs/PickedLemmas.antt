-- A packer against all packets that were pushed.
use Rattle.std.proofs.Common.{◌≡◌, ℕ, ◌+◌, ◌*◌, ◌%◌, ◌<◌, ◌≤◌, Bool, true, false, List, [], ◌∷◌, ◌++◌, length, map, drop, sum, refl, sym, ap, ◌∙◌, arith, length-append}
use Rattle.std.proofs.lemmas.List.{drop-append-le, drop-drop, length-drop}
use Rattle.std.proofs.lemmas.List.Sums.{sum_by-append, sum_by-cons}
use Rattle.satip_base.specs.declared.network.Address.{Address}
use Rattle.satip_rtp.specs.Cut.{cut}
use Rattle.satip_rtp.specs.Packing.{Packing, packing, holding, after_cut, sizes, leaving}
use Rattle.satip_rtp.specs.Picked.{Picked, none_picked, picking, parts, after_parts, numbered_parts, Keeps, Call, Push, Flush, after_call, sent_by, picked_after, cut_at_call, cut_at, EachCallCuts, AllCallsCut}

-- the sizes of one more datagram, and of none or all that is left
sum-cons : (n : ℕ) (ns : List ℕ) → sum (n ∷ ns) ≡ n + sum ns
sum-cons n ns = sum_by-cons (λ m. m) n ns

sum-append : (ms ns : List ℕ) → sum (ms ++ ns) ≡ sum ms + sum ns
sum-append ms ns = sum_by-append (λ m. m) ms ns

module _ {X : Type 0} where
  -- a cut has no more packets than there are
  sum-cut : (flush : Bool) (xs : List X) → sum (map length (cut flush xs)) ≤ length xs
  sum-cut flush [] = omega arith
  sum-cut true (a ∷ []) = omega arith
  sum-cut false (a ∷ []) = omega arith
  sum-cut true (a ∷ b ∷ []) = omega arith
  sum-cut false (a ∷ b ∷ []) = omega arith
  sum-cut true (a ∷ b ∷ c ∷ []) = omega arith
  sum-cut false (a ∷ b ∷ c ∷ []) = omega arith
  sum-cut true (a ∷ b ∷ c ∷ d ∷ []) = omega arith
  sum-cut false (a ∷ b ∷ c ∷ d ∷ []) = omega arith
  sum-cut true (a ∷ b ∷ c ∷ d ∷ e ∷ []) = omega arith
  sum-cut false (a ∷ b ∷ c ∷ d ∷ e ∷ []) = omega arith
  sum-cut true (a ∷ b ∷ c ∷ d ∷ e ∷ f ∷ []) = omega arith
  sum-cut false (a ∷ b ∷ c ∷ d ∷ e ∷ f ∷ []) = omega arith
  sum-cut flush (a ∷ b ∷ c ∷ d ∷ e ∷ f ∷ g ∷ rest) =
      omega (arith, sum-cons 7 (map length (cut flush rest)), sum-cut flush rest)

-- counting on from a remainder
rest16 : (p q a : ℕ) → p ≡ q % 65536 → (p + a) % 65536 ≡ (q + a) % 65536
rest16 p q a e = omega arith

rest32 : (p q a : ℕ) → p ≡ q % 4294967296 → (p + a) % 4294967296 ≡ (q + a) % 4294967296
rest32 p q a e = omega arith

-- the cut is made
cutting : (flush : Bool) (first source : ℕ) (s : Picked) (p : Packing) → Keeps first source s p
    → Keeps first source (after_parts flush s) (after_cut flush p)
cutting flush first source s p k =
    let left : p.held ≡ drop (sum s.sizes) s.packets = k.held in
    let news = map length (parts flush s) in
    let same : sizes flush p ≡ news = ap (λ held. map length (cut flush held)) left in
    let total = sum-append s.sizes news in
    let count = length-append s.sizes news in
    let few = sum-cut flush (drop (sum s.sizes) s.packets) in
    record {
      ssrc = k.ssrc;
      held = ap (λ ns. drop (sum ns) p.held) same ∙ ap (λ held. drop (sum news) held) left
          ∙ drop-drop (sum news) (sum s.sizes) s.packets ∙ ap (λ n. drop n s.packets) (sym total);
      within = omega (arith, total, few, k.within, length-drop (sum s.sizes) s.packets);
      next = ap (λ ns. (p.next + length ns) % 65536) same
          ∙ rest16 p.next (first + length s.sizes) (length news) k.next ∙ ap (λ n. n % 65536) (omega (arith, count));
      datagrams = ap (λ ns. (p.datagrams + length ns) % 4294967296) same
          ∙ rest32 p.datagrams (length s.sizes) (length news) k.datagrams ∙ ap (λ n. n % 4294967296) (sym count);
      octets = ap (λ ns. (p.octets + 188 * sum ns) % 4294967296) same
          ∙ rest32 p.octets (188 * sum s.sizes) (188 * sum news) k.octets ∙ ap (λ n. n % 4294967296) (omega (arith, total));
    }

cut_same : (flush : Bool) (first source : ℕ) (s : Picked) (p : Packing) (clock : ℕ) (to : Address) → Keeps first source s p
    → leaving flush p clock to ≡ numbered_parts flush first source s clock to
cut_same flush first source s p clock to k = rw (k.next, k.ssrc, k.held) refl

-- one more packet is held
one_more : (first source : ℕ) (s : Picked) (p : Packing) (packet : List ℕ) → Keeps first source s p
    → Keeps first source (picking s packet) (holding p packet)
one_more first source s p packet k = record {
  ssrc = k.ssrc;
  held = ap (λ held. held ++ packet ∷ []) k.held ∙ sym (drop-append-le (sum s.sizes) s.packets (packet ∷ []) k.within);
  within = omega (arith, k.within, length-append s.packets (packet ∷ []));
  next = k.next;
  datagrams = k.datagrams;
  octets = k.octets;
}

pub each_call_cuts : EachCallCuts
each_call_cuts first source s p (Push packet clock to) k =
    let more = one_more first source s p packet k in
    (cutting false first source (picking s packet) (holding p packet) more, cut_same false first source (picking s packet) (holding p packet) clock to more)
each_call_cuts first source s p (Flush clock to) k =
    (cutting true first source s p k, cut_same true first source s p clock to k)

calls_cut : (first source : ℕ) (calls : List Call) (s : Picked) (p : Packing) → Keeps first source s p → sent_by p calls ≡ cut_at first source s calls
calls_cut first source [] s p k = refl
calls_cut first source (call ∷ calls) s p k =
    let (keeps, same) = each_call_cuts first source s p call k in
    ap (λ ds. ds ++ sent_by (after_call p call) calls) same
    ∙ ap (λ ds. cut_at_call first source s call ++ ds) (calls_cut first source calls (picked_after s call) (after_call p call) keeps)

-- a new packer
new_keeps : (first source : ℕ) → first < 65536 → Keeps first source none_picked (packing source first)
new_keeps first source h = record {
  ssrc = refl;
  held = refl;
  within = omega arith;
  next = omega arith;
  datagrams = refl;
  octets = refl;
}

pub all_calls_cut : AllCallsCut
all_calls_cut first source calls h = calls_cut first source calls none_picked (packing source first) (new_keeps first source h)
