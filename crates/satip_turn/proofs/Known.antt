-- The rule tells of each view that isn't spent that it is sound.
use Rattle.std.proofs.Common.{◌≡◌, ℕ, zero, suc, ◌+◌, ◌^◌, ◌<◌, ◌≤◌, Bool, true, false, nat_lt, List, [], ◌∷◌, ◌++◌, length, refl, sym, ap, ◌∙◌, subst, inl, inr, ⊎_elim, arith}
use Rattle.std.proofs.lemmas.Bool.Decides.{eqb_tells}
use mathlib.Core.Option.{some}
use lib.ListN.{get_elem?}
use Rattle.satip_base.specs.declared.entry.Entry.{Entry}
use Rattle.satip_base.specs.Lists.{Each, Has}
use Rattle.satip_base.proofs.Elements.{Each-append_left, each_at, each_follows}
use Rattle.satip_base.proofs.Prefixes.{begins_length}
use Rattle.satip_turn.specs.declared.view.Row.{Row}
use Rattle.satip_turn.specs.declared.view.View.{View}
use Rattle.satip_turn.specs.Views.{held, holders, numbers, numbers_of, unless}
use Rattle.satip_turn.specs.Faithful.{AreOwnIn, IsSound}
use Rattle.satip_turn.specs.Rule.{one_if, times, total, HasParent, AreViews}
use Rattle.satip_turn.proofs.Counts.{times-append, has_times, times_apart, total_at, one_place, same_at}

pub numbers_of-append : {E A O : Type 0} (rs ss : List (Row E A O)) → numbers_of (rs ++ ss) ≡ numbers_of rs ++ numbers_of ss
numbers_of-append [] ss = refl
numbers_of-append (r ∷ rs) ss = ap (λ ns. r.number ∷ ns) (numbers_of-append rs ss)

unless_false : {T : Type 0} (b : Bool) (xs : List T) → b ≡ false → unless b xs ≡ xs
unless_false b xs e = ap (λ c. unless c xs) e

pub one_if_le : (b : Bool) → one_if b ≤ 1
one_if_le true = omega arith
one_if_le false = omega arith

-- a number that a view answers for is among its numbers
pub holder_counts : {E A O C : Type 0} (n : ℕ) (v : View E A O C) → Has n (holders v) → 1 ≤ times n (numbers v)
holder_counts n v h = go v.spent refl
  where
    go : (b : Bool) → v.spent ≡ b → 1 ≤ times n (unless v.spent (numbers_of (held v ++ v.drawn)))
    go true e = absurd (subst (λ b. Has n (unless b (numbers_of (held v)))) e h)
    go false e =
        let here : Has n (numbers_of (held v)) = subst (λ b. Has n (unless b (numbers_of (held v)))) e h in
        let one = has_times n (numbers_of (held v)) here in
        let s : times n (numbers_of (held v ++ v.drawn)) ≡ times n (numbers_of (held v)) + times n (numbers_of v.drawn) =
        ap (times n) (numbers_of-append (held v) v.drawn) ∙ times-append n (numbers_of (held v)) (numbers_of v.drawn) in
        let t : times n (unless v.spent (numbers_of (held v ++ v.drawn))) ≡ times n (numbers_of (held v ++ v.drawn)) =
        ap (times n) (unless_false v.spent (numbers_of (held v ++ v.drawn)) e) in
        omega arith

module _ {E A O C : Type 0} (legal : C → List (Entry E A O) → Type 0) (c : C) (log : List (Entry E A O)) (count : ℕ) (views : List (View E A O C))
    (all : AreViews legal c log count views) where
  -- where the view answers for 0, and has joined each that it made, it answers for all numbers
  module _ (j : ℕ) (v : View E A O C) (at : get_elem? views j ≡ some v) (live : v.spent ≡ false) (joined : Each (λ n. Has n (numbers_of v.kept)) v.made) where
    here : (n : ℕ) → Has n (numbers_of (held v)) → Has n (holders v)
    here n h = subst (λ (ns : List ℕ). Has n ns) (sym (unless_false v.spent (numbers_of (held v)) live)) h

    by_parent : (n : ℕ) → (p : HasParent views n) → Has p.number (numbers_of (held v)) → Has n (numbers_of (held v))
    by_parent n p mine =
        let le : total (λ (u : View E A O C). times p.number (numbers u)) views ≤ 1 = let o = all.once p.number in let b = one_if_le (nat_lt p.number count) in
        omega arith in
        let same : p.seat ≡ j = one_place (λ (u : View E A O C). times p.number (numbers u)) views p.seat j p.view v p.at at le
        (holder_counts p.number p.view p.holds) (holder_counts p.number v (here p.number mine)) in
        let is : p.view ≡ v = same_at views j p.view v (subst (λ i. get_elem? views i ≡ some p.view) same p.at) at in
        inr (each_at (λ n. Has n (numbers_of v.kept)) v.made n joined (subst (λ (u : View E A O C). Has n u.made) is p.made))

    below : v.number ≡ 0 → (bound n : ℕ) → n < bound → n < count → Has n (numbers_of (held v))
    below zero_is zero n lt less = absurd (omega arith)
    below zero_is (suc bound) n lt less = ⊎_elim
        (λ t. inl (t.1 ∙ sym zero_is))
        (λ t. let ne = t.1 in let p = all.parents n (omega arith) less in let lesser = p.lesser in
        by_parent n p (below zero_is bound p.number (omega arith) (omega arith)))
        (eqb_tells n 0)

  pub sound : (j : ℕ) (v : View E A O C) → get_elem? views j ≡ some v → v.spent ≡ false → length log < 2 ^ 64 → IsSound legal v
  sound j v at live short =
      let g = all.good j v at live in
      let le = begins_length v.seen log g.begins in
      let mine : AreOwnIn v.seen (held v) = Each-append_left (λ (r : Row E A O). Rattle.satip_base.specs.History.own_of r.number v.seen ≡ r.own) (held v)
      v.drawn g.in_seen in
      record {
        of = c;
        setting = g.setting;
        faithful = record {
          lawful = g.lawful;
          short = omega arith;
          own_is = mine.0;
          kept_are = mine.1;
          apart = times_apart (v.number ∷ numbers_of v.kept) (λ n.
              let one = total_at (λ (u : View E A O C). times n (numbers u)) views j v at in
              let o = all.once n in let b = one_if_le (nat_lt n count) in
              let s : times n (numbers_of (held v ++ v.drawn)) ≡ times n (numbers_of (held v)) + times n (numbers_of v.drawn) =
              ap (times n) (numbers_of-append (held v) v.drawn) ∙ times-append n (numbers_of (held v)) (numbers_of v.drawn) in
              let t : times n (numbers v) ≡ times n (numbers_of (held v ++ v.drawn)) =
              ap (times n) (unless_false v.spent (numbers_of (held v ++ v.drawn)) live) in
              omega arith);
          covered = λ zero_is joined.
              let low : Each (λ (e : Entry E A O). e.caller < count) v.seen =
              Each-append_left (λ (e : Entry E A O). e.caller < count) v.seen g.begins.rest
              (subst (Each (λ (e : Entry E A O). e.caller < count)) g.begins.whole all.below) in
              each_follows (λ (e : Entry E A O). e.caller < count) (λ (e : Entry E A O). Has e.caller (0 ∷ numbers_of v.kept))
              (λ e lt. subst (λ z. Has e.caller (z ∷ numbers_of v.kept)) zero_is (below j v at live joined zero_is count e.caller lt lt)) v.seen low;
        };
      }
