-- Whatever datagrams a catcher takes, it hands up what is caught of them.
use Rattle.std.proofs.Common.{◌≡◌, inl, inr, ℕ, ◌+◌, ◌-◌, ◌%◌, ◌<◌, ◌==◌, ◌||◌, nat_le, suc, Bool, true, false, List, [], ◌∷◌, ◌++◌, length, take, filter, Option, None, Some, is_some, refl, sym, ap, ◌∙◌, subst, arith, if◌then◌else◌, append_assoc, append-nil}
use Rattle.std.specs.List.{All}
use Rattle.std.proofs.lemmas.List.{take_all}
use Rattle.std.proofs.lemmas.Bool.Decides.{nat_tests}
use Rattle.satip_rtp_receiver.specs.Caught.{Datagram, Placed, greatest, passed, items_from, items_by, last_items, place_from, placed}
use Rattle.satip_rtp_receiver.specs.Catching.{Catch, catching, taken, ended, place_of, is_caught, is_new, put}
use Rattle.satip_rtp_receiver.specs.Runs.{all_items, drained, handed_up, after_all, AlwaysCatchesAll}
use Rattle.satip_rtp_receiver.proofs.DrainLemmas.{slot_items, reach, drain}
use Rattle.satip_rtp_receiver.proofs.SlotLemmas.{items_from-slots, greatest-more, IsSound}
use Rattle.satip_rtp_receiver.proofs.RunLemmas.{Holds, Settles, settle, arriving, took, true_or_false, take-one, take-other}

-- the arrivals among these, placed behind others
abbrev later : ℕ → ℕ → List Placed → List Datagram → List Placed
later first ssrc ps ds = place_from first (greatest ps) (filter (λ x. ssrc == x.ssrc) ds)

record Runs (first ssrc : ℕ) (ps : List Placed) (c : Catch) (ds : List Datagram) : Type 0 where
  before : handed_up c ds ≡ items_by first ps (later first ssrc ps ds)
  after : Holds first ssrc (ps ++ later first ssrc ps ds) (passed (ps ++ later first ssrc ps ds)) (after_all c ds)

runs-one : (first ssrc : ℕ) (ps : List Placed) (c : Catch) (d : Datagram) (ds : List Datagram) → (ssrc == d.ssrc) ≡ true
    → Settles first ssrc (ps ++ arriving first ps d ∷ []) (passed ps) (taken d c)
    → Runs first ssrc (ps ++ arriving first ps d ∷ []) (drained (taken d c)) ds → Runs first ssrc ps c (d ∷ ds)
runs-one first ssrc ps c d ds same s r =
    let q = arriving first ps d in
    let rest = filter (λ x. ssrc == x.ssrc) ds in
    let more = ps ++ q ∷ [] in
    let all : q ∷ later first ssrc more ds ≡ later first ssrc ps (d ∷ ds) =
    ap (λ m. q ∷ place_from first m rest) (greatest-more ps q)
    ∙ ap (λ b. place_from first (greatest ps) (if b then d ∷ rest else rest)) (sym same) in
    record {
      before = ap (λ items. items ++ handed_up (drained (taken d c)) ds) s.items
          ∙ ap (λ items. items_from first more (passed ps) (passed more - passed ps) ++ items) r.before
          ∙ ap (λ qs. items_by first ps qs) all;
      after = subst (λ rs. Holds first ssrc rs (passed rs) (after_all c (d ∷ ds)))
          (append_assoc ps (q ∷ []) (later first ssrc more ds) ∙ ap (λ qs. ps ++ qs) all) r.after;
    }

runs-other : (first ssrc : ℕ) (ps : List Placed) (c : Catch) (d : Datagram) (ds : List Datagram) → (ssrc == d.ssrc) ≡ false
    → Settles first ssrc ps (passed ps) (taken d c) → Runs first ssrc ps (drained (taken d c)) ds → Runs first ssrc ps c (d ∷ ds)
runs-other first ssrc ps c d ds other s r =
    let rest = filter (λ x. ssrc == x.ssrc) ds in
    let none : passed ps - passed ps ≡ 0 = omega arith in
    let all : later first ssrc ps ds ≡ later first ssrc ps (d ∷ ds) =
    ap (λ b. place_from first (greatest ps) (if b then d ∷ rest else rest)) (sym other) in
    record {
      before = ap (λ items. items ++ handed_up (drained (taken d c)) ds) (s.items ∙ ap (λ n. items_from first ps (passed ps) n) none)
          ∙ r.before ∙ ap (λ qs. items_by first ps qs) all;
      after = subst (λ qs. Holds first ssrc (ps ++ qs) (passed (ps ++ qs)) (after_all c (d ∷ ds))) all r.after;
    }

run : (ds : List Datagram) (first ssrc : ℕ) (ps : List Placed) (c : Catch) → All (λ d. d.number < 65536) ds
    → Holds first ssrc ps (passed ps) c → Runs first ssrc ps c ds
run [] first ssrc ps c all t = record {
  before = refl;
  after = subst (λ rs. Holds first ssrc rs (passed rs) c) (sym (append-nil ps)) t;
}
run (d ∷ ds) first ssrc ps c all t =
    let rest : All (λ d. d.number < 65536) ds = λ k e l. all (suc k) e (omega arith) in
    elim (true_or_false (ssrc == d.ssrc)) [
      | inl same ↦
          let more = ps ++ arriving first ps d ∷ [] in
          let s = settle first ssrc more (passed ps) (taken d c) (take-one first ssrc ps d c (all 0 d (omega arith)) same t) in
          runs-one first ssrc ps c d ds same s (run ds first ssrc more (drained (taken d c)) rest s.after)
      | inr other ↦
          let s = settle first ssrc ps (passed ps) (taken d c) (take-other first ssrc ps d c other t) in
          runs-other first ssrc ps c d ds other s (run ds first ssrc ps (drained (taken d c)) rest s.after)
    ]

-- the end hands up all places
reach-all : (held : List (Option (List ℕ))) → reach (length held) held ≡ length held
reach-all [] = refl
reach-all (slot ∷ held) = omega (arith, reach-all held)

pub last_items-cons : (first : ℕ) (ps : List Placed) → 0 < length ps
    → last_items first ps ≡ items_from first ps (passed ps) (greatest ps + 1 - passed ps)
last_items-cons first [] h = absurd (omega arith)
last_items-cons first (p ∷ ps) h = refl

finish-items : (first ssrc : ℕ) (ps : List Placed) (c : Catch) → Holds first ssrc ps (passed ps) c → all_items (ended c) ≡ last_items first ps
finish-items first ssrc ps c t =
    let p = passed ps in
    let n = greatest ps + 1 - p in
    let d = drain (length c.held) (ended c) (omega (arith, t.next)) (omega arith) in
    d.items ∙ ap (λ k. slot_items c.next (take k c.held)) (reach-all c.held)
    ∙ ap (λ (h : List (Option (List ℕ))). slot_items c.next h) (take_all (length c.held) c.held (omega arith))
    ∙ ap (λ a. slot_items a c.held) t.next ∙ ap (λ (h : List (Option (List ℕ))). slot_items ((first + p) % 65536) h) t.held
    ∙ sym (items_from-slots first ps p n) ∙ sym (last_items-cons first ps t.below.some)

-- the first datagram
abbrev first_of : Datagram → Placed
first_of d = record { index = Some 0; packets = d.packets }

sound-one : (b : Bool) (packets : List ℕ) → (b || false) ≡ is_some (if b then Some packets else None)
sound-one true packets = refl
sound-one false packets = refl

sound-first : (d : Datagram) → IsSound 0 (first_of d ∷ [])
sound-first d i h =
    let late : nat_le 0 i ≡ true = grind (arith, nat_tests) in
    sound-one (i == 0) d.packets ∙ ap (λ b. is_some (if i == 0 then (if b then Some d.packets else None) else None)) (sym late)

begin : (d : Datagram) → d.number < 65536 → Holds d.number d.ssrc (first_of d ∷ []) 0 (taken d catching)
begin d h =
    let here : place_of d catching ≡ 0 = omega arith in
    let new : is_caught d catching ≡ true = ap (λ at. is_new at []) here in
    subst (λ c. Holds d.number d.ssrc (first_of d ∷ []) 0 c) (sym (ap (λ b. if b then took d catching else catching) new)) (record {
      source = refl;
      next = omega arith;
      held = ap (λ at. put at d.packets []) here;
      unfinished = refl;
      below = record {
        some = omega arith;
        within = omega arith;
        arrived = λ k a l. absurd (omega arith);
        sound = sound-first d;
      };
    })

-- the items of the arrivals, and those at the end
first-items : (d : Datagram) (ds : List Datagram) → Settles d.number d.ssrc (first_of d ∷ []) 0 (taken d catching)
    → Runs d.number d.ssrc (first_of d ∷ []) (drained (taken d catching)) ds
    → handed_up catching (d ∷ ds) ≡ items_by d.number [] (placed (d ∷ filter (λ x. d.ssrc == x.ssrc) ds))
first-items d ds s r =
    let ps = first_of d ∷ [] in
    ap (λ items. items ++ handed_up (drained (taken d catching)) ds) s.items
    ∙ ap (λ items. items_from d.number ps 0 (passed ps - 0) ++ items) r.before

pub always_catches_all : AlwaysCatchesAll
always_catches_all [] all = record { before_end = refl; with_end = refl }
always_catches_all (d ∷ ds) all =
    let rest : All (λ d. d.number < 65536) ds = λ k e l. all (suc k) e (omega arith) in
    let ps = first_of d ∷ [] in
    let s = settle d.number d.ssrc ps 0 (taken d catching) (begin d (all 0 d (omega arith))) in
    let r = run ds d.number d.ssrc ps (drained (taken d catching)) rest s.after in
    let items = first-items d ds s r in
    let qs = placed (d ∷ filter (λ x. d.ssrc == x.ssrc) ds) in
    record {
      before_end = items ∙ sym (append-nil (items_by d.number [] qs));
      with_end = ap (λ t. t ++ all_items (ended (after_all catching (d ∷ ds)))) items
          ∙ ap (λ t. items_by d.number [] qs ++ t) (finish-items d.number d.ssrc qs (after_all catching (d ∷ ds)) r.after);
    }
