-- A subscriber against all packets that its session was ever given.
use Rattle.std.proofs.Common.{ℕ, ◌≡◌, ◌+◌, ◌≤◌, Bool, true, false, cond, ltb, min, List, [], ◌∷◌, ◌++◌, length, take, drop, sum, refl, sym, ap, ◌∙◌, arith, length-append}
use Rattle.std.proofs.lemmas.List.{drop-append-le, drop-drop, drop_min, length-take, length-drop}
use Rattle.std.proofs.lemmas.List.Sums.{sum_by-append}
use Rattle.satip_rtp.specs.Picked.{Picked, picking, Push, Flush}
use Rattle.satip_rtp.proofs.PickedLemmas.{each_call_cuts}
use Rattle.satip_flow.specs.Subscription.{ToAddress, ToQueue}
use Rattle.satip_flow.specs.Sessions.{HoldsRest, EachCallKeepsRest}

-- a packet behind the queue, or not
queue_given : (first source : ℕ) (s : Picked) (packets : List (List ℕ)) (packet : List ℕ) → HoldsRest first source s (ToQueue packets)
    → (t : Bool) → HoldsRest first source (cond t (picking s packet) s) (ToQueue (cond t (packets ++ packet ∷ []) packets))
queue_given first source s packets packet h true = (
  ap (λ queue. queue ++ packet ∷ []) h.0 ∙ sym (drop-append-le (sum s.sizes) s.packets (packet ∷ []) h.1),
  omega (arith, h.1, length-append s.packets (packet ∷ [])),
)
queue_given first source s packets packet h false = h

-- the first packets were taken out
queue_pulled : (s : Picked) (packets : List (List ℕ)) → packets ≡ drop (sum s.sizes) s.packets → sum s.sizes ≤ length s.packets
    → (drop 64 packets ≡ drop (sum (s.sizes ++ length (take 64 packets) ∷ [])) s.packets)
    × (sum (s.sizes ++ length (take 64 packets) ∷ []) ≤ length s.packets)
queue_pulled s packets rest within =
    let taken = length (take 64 packets) in
    let few : taken ≡ min 64 (length packets) = length-take 64 packets in
    let total : sum (s.sizes ++ taken ∷ []) ≡ sum s.sizes + taken = sum_by-append (λ n. n) s.sizes (taken ∷ []) ∙ omega arith in
    let left : length packets + sum s.sizes ≡ length s.packets = omega (arith, ap length rest, length-drop (sum s.sizes) s.packets, within) in (
      sym (drop_min 64 packets) ∙ ap (λ n. drop n packets) (sym few) ∙ ap (λ ys. drop taken ys) rest
          ∙ drop-drop taken (sum s.sizes) s.packets ∙ ap (λ n. drop n s.packets) (sym total),
      omega (arith, total, few, left),
    )

pub each_call_keeps_rest : EachCallKeepsRest
each_call_keeps_rest first source s (ToAddress to p) h = record {
  given = λ packet. (each_call_cuts first source s p (Push packet 0 to) h).0;
  given_sends = λ packet clock. (each_call_cuts first source s p (Push packet clock to) h).1;
  flushed = (each_call_cuts first source s p (Flush 0 to) h).0;
  flushed_sends = λ clock. (each_call_cuts first source s p (Flush clock to) h).1;
  pulled = h;
}
each_call_keeps_rest first source s (ToQueue packets) h = record {
  given = λ packet. queue_given first source s packets packet h (ltb (length packets) 4096);
  given_sends = λ packet clock. refl;
  flushed = h;
  flushed_sends = λ clock. refl;
  pulled = queue_pulled s packets h.0 h.1;
}
