-- A catcher against the definition of catching, over all that it takes.
use Rattle.std.proofs.Common.{◌≡◌, ◌⊎◌, inl, inr, ℕ, ◌+◌, ◌-◌, ◌%◌, ◌<◌, ◌≤◌, ◌==◌, ◌||◌, ◌&&◌, nat_lt, Bool, true, false, List, [], ◌∷◌, ◌++◌, length, take, drop, get_or, Option, None, Some, is_some, is_none, refl, sym, ap, ◌∙◌, subst, arith, if◌then◌else◌, length-append}
use Rattle.std.proofs.lemmas.Bool.{eqb-true}
use Rattle.std.proofs.lemmas.Bool.Decides.{nat_tests, eqb_tells}
use Rattle.satip_rtp_receiver.specs.Caught.{Datagram, Placed, index_of, greater, greatest, is_index, has_arrived, passed, packets_of, items_from}
use Rattle.satip_rtp_receiver.specs.Catching.{Catch, ahead, is_source, next_number, is_new, put, place_of, is_caught, taken, due}
use Rattle.satip_rtp_receiver.specs.Runs.{all_items, drained}
use Rattle.satip_rtp_receiver.proofs.DrainLemmas.{slot_items, reach, ready, drain}
use Rattle.satip_rtp_receiver.proofs.SlotLemmas.{slots_from, items_from-slots, length-slots, take-slots, drop-slots, has_arrived-more, greatest-more, greater-above, arrived-within, IsBelowPassed, reach-passed, passed-below, passed-near}
use Rattle.satip_rtp_receiver.proofs.TakeLemmas.{LiesAt, LiesBelow, lies, sound-more, slot-kept, slot-arrived, same-slots, slot-missing, old-slot, apart-other, put-slots}

-- the catcher holds what came from an index on, after these arrivals
pub record Holds (first ssrc : ℕ) (ps : List Placed) (from : ℕ) (c : Catch) : Type 0 where
  pub source : c.source ≡ Some ssrc
  pub next : c.next ≡ (first + from) % 65536
  pub held : c.held ≡ slots_from ps from (greatest ps + 1 - from)
  pub unfinished : c.finished ≡ false
  pub below : IsBelowPassed from ps

-- all that can be handed up is the items up to the first missing index
pub record Settles (first ssrc : ℕ) (ps : List Placed) (from : ℕ) (c : Catch) : Type 0 where
  pub items : all_items c ≡ items_from first ps from (passed ps - from)
  pub after : Holds first ssrc ps (passed ps) (drained c)

number-from : (first from k p next : ℕ) → next ≡ (first + from) % 65536 → from + k ≡ p → (next + k) % 65536 ≡ (first + p) % 65536
number-from first from k p next e f = omega arith

pub settle : (first ssrc : ℕ) (ps : List Placed) (from : ℕ) (c : Catch) → Holds first ssrc ps from c → Settles first ssrc ps from c
settle first ssrc ps from c t =
    let n = greatest ps + 1 - from in
    let slots = slots_from ps from n in
    let r = ready c in
    let d = drain (length c.held) c (omega (arith, t.next)) (omega arith) in
    let reaches : r ≡ reach (n - 64) slots =
    ap (λ f. reach (due f c.held) c.held) t.unfinished ∙ ap (λ (h : List (Option (List ℕ))). reach (length h - 64) h) t.held
    ∙ ap (λ k. reach (k - 64) slots) (length-slots ps from n) in
    let sum : from + r ≡ passed ps = ap (λ k. from + k) reaches ∙ reach-passed from ps t.below in
    let below = passed-below ps t.below.some (λ i h. t.below.sound i (omega (arith, sum))) in
    let within : r ≤ n = omega (arith, sum, below.within) in
    let count : r ≡ passed ps - from = omega (arith, sum) in
    let left : n - r ≡ greatest ps + 1 - passed ps = omega (arith, sum, below.within) in
    let number = (first + from) % 65536 in
    record {
      items = d.items ∙ ap (λ a. slot_items a (take r c.held)) t.next ∙ ap (λ (h : List (Option (List ℕ))). slot_items number (take r h)) t.held
          ∙ ap (λ h. slot_items number h) (take-slots ps from n r within) ∙ ap (λ k. slot_items number (slots_from ps from k)) count
          ∙ sym (items_from-slots first ps from (passed ps - from));
      after = subst (λ e. Holds first ssrc ps (passed ps) e) (sym d.after) (record {
        source = t.source;
        next = number-from first from r (passed ps) c.next t.next sum;
        held = ap (λ (h : List (Option (List ℕ))). drop r h) t.held ∙ drop-slots ps from n r within
            ∙ ap (λ i. slots_from ps i (n - r)) sum ∙ ap (λ k. slots_from ps (passed ps) k) left;
        unfinished = t.unfinished;
        below = below;
      });
    }

-- one more arrival
abbrev pub arriving : ℕ → List Placed → Datagram → Placed
arriving first ps d = record { index = index_of first (greatest ps) d.number; packets = d.packets }

or-true : (a b : Bool) → a ≡ true → (a || b) ≡ true
or-true true b e = refl
or-true false b e = absurd (grind (arith, nat_tests))

and-false : (a b : Bool) → b ≡ false → (a && b) ≡ false
and-false true b e = e
and-false false b e = refl

pub true_or_false : (b : Bool) → (b ≡ true) ⊎ (b ≡ false)
true_or_false true = inl refl
true_or_false false = inr refl

still-below : (ps : List Placed) (q : Placed) → IsBelowPassed (passed ps) ps → IsBelowPassed (passed ps) (ps ++ q ∷ [])
still-below ps q b =
    let more = greatest-more ps q in
    let above = greater-above (greatest ps) q.index in
    record {
      some = omega (arith, length-append ps (q ∷ []));
      within = omega (arith, b.within, more, above);
      arrived = λ k h l. has_arrived-more k ps q ∙ or-true (has_arrived k ps) (is_index k q.index) (b.arrived k (omega (arith, more, above)) l);
      sound = sound-more ps q b.sound;
    }

-- whether it is caught
is_caught-new : (first ssrc : ℕ) (ps : List Placed) (d : Datagram) (c : Catch) → (ssrc == d.ssrc) ≡ true → Holds first ssrc ps (passed ps) c
    → is_caught d c ≡ is_new (ahead d.number ((first + passed ps) % 65536)) (slots_from ps (passed ps) (greatest ps + 1 - passed ps))
is_caught-new first ssrc ps d c same t =
    let at = ahead d.number ((first + passed ps) % 65536) in
    let slots = slots_from ps (passed ps) (greatest ps + 1 - passed ps) in
    ap (λ (s : Option ℕ). is_source s d.ssrc && is_new (ahead d.number (next_number s d.number c.next)) c.held) t.source
    ∙ ap (λ n. (ssrc == d.ssrc) && is_new (ahead d.number n) c.held) t.next
    ∙ ap (λ (h : List (Option (List ℕ))). (ssrc == d.ssrc) && is_new at h) t.held
    ∙ ap (λ b. b && is_new at slots) same

abbrev pub took : Datagram → Catch → Catch
took d c = record {
  source = Some d.ssrc;
  next = next_number c.source d.number c.next;
  held = put (place_of d c) d.packets c.held;
  finished = c.finished;
}

-- it isn't, and the places are as before
left-out : (first ssrc : ℕ) (ps : List Placed) (q : Placed) (d : Datagram) (c : Catch) → Holds first ssrc ps (passed ps) c
    → is_caught d c ≡ false → greater (greatest ps) q.index ≡ greatest ps
    → ((i : ℕ) → passed ps ≤ i → packets_of [] (ps ++ q ∷ []) i ≡ packets_of [] ps i)
    → Holds first ssrc (ps ++ q ∷ []) (passed ps) (taken d c)
left-out first ssrc ps q d c t e g same =
    let p = passed ps in
    let stays : taken d c ≡ c = ap (λ b. if b then took d c else c) e in
    let top = greatest-more ps q ∙ g in
    subst (λ x. Holds first ssrc (ps ++ q ∷ []) p x) (sym stays) (record {
      source = t.source;
      next = t.next;
      held = t.held ∙ sym (same-slots (greatest ps + 1 - p) p ps (ps ++ q ∷ []) same)
          ∙ ap (λ m. slots_from (ps ++ q ∷ []) p (m + 1 - p)) (sym top);
      unfinished = t.unfinished;
      below = still-below ps q t.below;
    })

-- it is
let-in : (first ssrc : ℕ) (ps : List Placed) (q : Placed) (d : Datagram) (c : Catch) (j : ℕ) → Holds first ssrc ps (passed ps) c
    → is_caught d c ≡ true → (ssrc == d.ssrc) ≡ true → q.index ≡ Some j → q.packets ≡ d.packets → passed ps ≤ j → has_arrived j ps ≡ false
    → ahead d.number ((first + passed ps) % 65536) ≡ j - passed ps
    → Holds first ssrc (ps ++ q ∷ []) (passed ps) (taken d c)
let-in first ssrc ps q d c j t e same at is from new place =
    let p = passed ps in
    let slots = slots_from ps p (greatest ps + 1 - p) in
    let caught : taken d c ≡ took d c = ap (λ b. if b then took d c else c) e in
    let number = ap (λ (s : Option ℕ). next_number s d.number c.next) t.source ∙ t.next in
    let top = greatest-more ps q ∙ ap (λ (x : Option ℕ). greater (greatest ps) x) at in
    subst (λ x. Holds first ssrc (ps ++ q ∷ []) p x) (sym caught) (record {
      source = ap (λ n. Some n) (sym (eqb-true ssrc d.ssrc same));
      next = number;
      held = ap (λ n. put (ahead d.number n) d.packets c.held) number
          ∙ ap (λ (h : List (Option (List ℕ))). put (ahead d.number ((first + p) % 65536)) d.packets h) t.held
          ∙ ap (λ k. put k d.packets slots) place
          ∙ ap (λ packets. put (j - p) packets slots) (sym is)
          ∙ put-slots j ps q t.below.sound t.below.within from new at
          ∙ ap (λ m. slots_from (ps ++ q ∷ []) p (m + 1 - p)) (sym top);
      unfinished = t.unfinished;
      below = still-below ps q t.below;
    })

not-none : (slot : Option (List ℕ)) → is_some slot ≡ true → is_none slot ≡ false
not-none None e = absurd (grind (arith, nat_tests))
not-none (Some packets) e = refl

not-near : (at : ℕ) (held : List (Option (List ℕ))) → length held + 32767 ≤ at → is_new at held ≡ false
not-near at held h =
    let far : nat_lt at (length held + 32767) ≡ false = grind (arith, nat_tests) in
    ap (λ b. b && is_none (get_or held at None)) far

not-filled : (at : ℕ) (held : List (Option (List ℕ))) → is_some (get_or held at None) ≡ true → is_new at held ≡ false
not-filled at held e = and-false (nat_lt at (length held + 32767)) (is_none (get_or held at None)) (not-none (get_or held at None) e)

is-free : (at : ℕ) (held : List (Option (List ℕ))) → at < length held + 32767 → get_or held at None ≡ None → is_new at held ≡ true
is-free at held h e =
    let near : nat_lt at (length held + 32767) ≡ true = grind (arith, nat_tests) in
    ap (λ b. b && is_none (get_or held at None)) near ∙ ap (λ (slot : Option (List ℕ)). is_none slot) e

-- an arrival whose index has arrived already, or is below the first missing one, or is new
take-below : (first ssrc : ℕ) (ps : List Placed) (d : Datagram) (c : Catch) → (ssrc == d.ssrc) ≡ true → Holds first ssrc ps (passed ps) c
    → LiesBelow (greatest ps) (passed ps) (arriving first ps d).index (ahead d.number ((first + passed ps) % 65536))
    → Holds first ssrc (ps ++ arriving first ps d ∷ []) (passed ps) (taken d c)
take-below first ssrc ps d c same t l =
    let q = arriving first ps d in
    let p = passed ps in
    let at = ahead d.number ((first + p) % 65536) in
    let slots = slots_from ps p (greatest ps + 1 - p) in
    let count = length-slots ps p (greatest ps + 1 - p) in
    let far : is_new at slots ≡ false = not-near at slots (omega (arith, l.passed, count)) in
    left-out first ssrc ps q d c t (is_caught-new first ssrc ps d c same t ∙ far) l.greatest
    (λ i h. slot-kept i ps q t.below.sound h (l.apart i h))

take-again : (first ssrc : ℕ) (ps : List Placed) (d : Datagram) (c : Catch) (j : ℕ) → (ssrc == d.ssrc) ≡ true → Holds first ssrc ps (passed ps) c
    → LiesAt (greatest ps) (passed ps) (arriving first ps d).index (ahead d.number ((first + passed ps) % 65536)) j
    → has_arrived j ps ≡ true
    → Holds first ssrc (ps ++ arriving first ps d ∷ []) (passed ps) (taken d c)
take-again first ssrc ps d c j same t l e =
    let q = arriving first ps d in
    let p = passed ps in
    let at = ahead d.number ((first + p) % 65536) in
    let slots = slots_from ps p (greatest ps + 1 - p) in
    let within = arrived-within j ps e in
    let place : p + at ≡ j = omega (arith, l.ahead, l.from) in
    let filled : is_some (get_or slots at None) ≡ true =
    ap (λ (slot : Option (List ℕ)). is_some slot) (old-slot ps at t.below.sound t.below.within ∙ ap (λ i. packets_of [] ps i) place)
    ∙ sym (t.below.sound j l.from) ∙ e in
    left-out first ssrc ps q d c t (is_caught-new first ssrc ps d c same t ∙ not-filled at slots filled)
    (ap (λ (x : Option ℕ). greater (greatest ps) x) l.lies ∙ omega arith)
    (λ i h. elim (eqb_tells i j) [
      | inl here ↦ slot-arrived i ps q h (ap (λ k. has_arrived k ps) here.1 ∙ e)
      | inr other ↦ slot-kept i ps q t.below.sound h (apart-other i j q.index l.lies other.1)
    ])

take-new : (first ssrc : ℕ) (ps : List Placed) (d : Datagram) (c : Catch) (j : ℕ) → (ssrc == d.ssrc) ≡ true → Holds first ssrc ps (passed ps) c
    → LiesAt (greatest ps) (passed ps) (arriving first ps d).index (ahead d.number ((first + passed ps) % 65536)) j
    → has_arrived j ps ≡ false
    → Holds first ssrc (ps ++ arriving first ps d ∷ []) (passed ps) (taken d c)
take-new first ssrc ps d c j same t l e =
    let q = arriving first ps d in
    let p = passed ps in
    let at = ahead d.number ((first + p) % 65536) in
    let slots = slots_from ps p (greatest ps + 1 - p) in
    let place : p + at ≡ j = omega (arith, l.ahead, l.from) in
    let free : get_or slots at None ≡ None =
    old-slot ps at t.below.sound t.below.within ∙ ap (λ i. packets_of [] ps i) place ∙ slot-missing j p ps t.below.sound l.from e in
    let near : at < length slots + 32767 = omega (arith, l.ahead, l.near, l.from, t.below.within, length-slots ps p (greatest ps + 1 - p)) in
    let-in first ssrc ps q d c j t (is_caught-new first ssrc ps d c same t ∙ is-free at slots near free) same l.lies refl l.from e l.ahead

pub take-one : (first ssrc : ℕ) (ps : List Placed) (d : Datagram) (c : Catch) → d.number < 65536 → (ssrc == d.ssrc) ≡ true
    → Holds first ssrc ps (passed ps) c → Holds first ssrc (ps ++ arriving first ps d ∷ []) (passed ps) (taken d c)
take-one first ssrc ps d c h same t =
    elim (lies first (greatest ps) (passed ps) d.number h t.below.within (passed-near ps t.below.some)) [
      | inl l ↦ take-below first ssrc ps d c same t l
      | inr l ↦ elim (true_or_false (has_arrived l.0 ps)) [
        | inl e ↦ take-again first ssrc ps d c l.0 same t l.1 e
        | inr e ↦ take-new first ssrc ps d c l.0 same t l.1 e
      ]
    ]

-- another source's datagram changes nothing
pub take-other : (first ssrc : ℕ) (ps : List Placed) (d : Datagram) (c : Catch) → (ssrc == d.ssrc) ≡ false
    → Holds first ssrc ps (passed ps) c → Holds first ssrc ps (passed ps) (taken d c)
take-other first ssrc ps d c other t =
    let new = is_new (place_of d c) c.held in
    let left : is_caught d c ≡ false =
    ap (λ (s : Option ℕ). is_source s d.ssrc && new) t.source ∙ ap (λ b. b && new) other in
    subst (λ x. Holds first ssrc ps (passed ps) x) (sym (ap (λ b. if b then took d c else c) left)) t
