-- Drawing a number and giving it to a new seat keep the rule.
use Rattle.std.proofs.Common.{◌≡◌, ◌≢◌, ℕ, ◌+◌, ◌<◌, ◌≤◌, ◌==◌, false, nat_lt, List, [], ◌∷◌, ◌++◌, length, set, refl, sym, ap, ◌∙◌, subst, inl, inr, ⊎_elim, lt-ltb, le-ltb, lt_of_not-le, arith}
use Rattle.std.proofs.lemmas.Bool.Decides.{eqb_tells}
use mathlib.Core.Option.{some}
use lib.ListN.{get_elem?}
use native.Mathlib.Decide.{dec_le}
use Rattle.atomic_table.specs.Table.{State, Me, Allows, Splits, keeps}
use Rattle.atomic_table.proofs.Lists.{at_snoc, at_longer}
use Rattle.satip_base.specs.declared.entry.Entry.{Entry}
use Rattle.satip_base.specs.Lists.{Each, Has, Begins}
use Rattle.satip_base.specs.History.{own_of}
use Rattle.satip_base.proofs.Elements.{Each-append, Each-append_left, Each-append_right, each_at, each_follows, Has-append_left, Has-append_right}
use Rattle.satip_base.proofs.Owned.{own_of-none}
use Rattle.satip_turn.specs.declared.view.Row.{Row}
use Rattle.satip_turn.specs.declared.view.View.{View}
use Rattle.satip_turn.specs.declared.view.Content.{Content}
use Rattle.satip_turn.specs.Views.{row, held, numbers, numbers_of, unless}
use Rattle.satip_turn.specs.Faithful.{AreOwnIn}
use Rattle.satip_turn.specs.Rule.{one_if, times, IsFree, IsBusy, IsGood, AreViews}
use Rattle.satip_turn.specs.Steps.{drawing, parting, newcomer, Draws}
use Rattle.satip_turn.proofs.Counts.{times-append, total_set, total-push}
use Rattle.satip_turn.proofs.Known.{numbers_of-append, sound}
use Rattle.satip_turn.proofs.Moves.{set_there, moves, moves_alone}
use Rattle.satip_turn.proofs.Held.{no_turn, busy_stays, busy_grows}
use Rattle.satip_turn.proofs.Turning.{Rule, Lands}
use Rattle.satip_turn.proofs.Telling.{number_below}

-- one more number below the count
one_more : (n count : ℕ) → one_if (nat_lt n count) + one_if (count == n) ≡ one_if (nat_lt n (count + 1))
one_more n count = ⊎_elim
    (λ t.
    let is : count ≡ n = t.1 in
    let a : one_if (count == n) ≡ 1 = ap one_if t.0 in
    let b : one_if (nat_lt n count) ≡ 0 = ap one_if (le-ltb n count (omega arith)) in
    let d : one_if (nat_lt n (count + 1)) ≡ 1 = ap one_if (lt-ltb n (count + 1) (omega arith)) in
    omega arith)
    (λ t.
    let apart : count ≢ n = t.1 in
    let a : one_if (count == n) ≡ 0 = ap one_if t.0 in
    go a apart (dec_le count n))
    (eqb_tells count n)
  where
    go : one_if (count == n) ≡ 0 → count ≢ n → Dec (count ≤ n) → one_if (nat_lt n count) + one_if (count == n) ≡ one_if (nat_lt n (count + 1))
    go a apart (yes le) =
        let lt : count < n = omega arith in
        let b : one_if (nat_lt n count) ≡ 0 = ap one_if (le-ltb n count le) in
        let d : one_if (nat_lt n (count + 1)) ≡ 0 = ap one_if (le-ltb n (count + 1) (omega arith)) in
        omega arith
    go a apart (no gt) =
        let lt : n < count = lt_of_not-le gt in
        let b : one_if (nat_lt n count) ≡ 1 = ap one_if (lt-ltb n count lt) in
        let d : one_if (nat_lt n (count + 1)) ≡ 1 = ap one_if (lt-ltb n (count + 1) (omega arith)) in
        omega arith

-- how often a number stands in the numbers of a live view
pub times_numbers : {E A O C : Type 0} (v : View E A O C) (n : ℕ) → v.spent ≡ false
    → times n (numbers v) ≡ times n (numbers_of (held v)) + times n (numbers_of v.drawn)
times_numbers v n live =
    ap (λ b. times n (unless b (numbers_of (held v ++ v.drawn)))) live
    ∙ (ap (times n) (numbers_of-append (held v) v.drawn) ∙ times-append n (numbers_of (held v)) (numbers_of v.drawn))

module _ {E A O C X : Type 0} (setting_of : X → C) (legal : C → List (Entry E A O) → Type 0) (stands : X → List (Entry E A O) → Type 0) (c : C) where
  module _ (s : State (Content X E A O) (View E A O C)) (id : ℕ) (v : View E A O C) (idle : v.turn ≡ false) (live : v.spent ≡ false) (none : v.drawn ≡ [])
      (k : Rule setting_of legal stands c s) (at : get_elem? s.views id ≡ some v) where
    fresh_in : (h : List (Entry E A O)) → Begins h k.log → own_of k.count h ≡ []
    fresh_in h b = own_of-none k.count h
        (Each-append_left (λ (e : Entry E A O). e.caller < k.count) h b.rest (subst (Each (λ (e : Entry E A O). e.caller < k.count)) b.whole k.views.below))

    here : v.number < k.count
    here = number_below setting_of legal stands c k.log k.count s.views id v k.views at live v.number (inl refl)

    drawn_views : AreViews legal c k.log (k.count + 1) (set s.views id (drawing v k.count))
    drawn_views =
        let n : ℕ = k.count in
        let w : View E A O C = drawing v n in
        let g : IsGood legal c k.log n v = k.views.good id v at live in
        let less : (x : ℕ) → x < n → x < n + 1 = λ x lt. omega arith in
        let new_row : (h : List (Entry E A O)) → own_of n h ≡ [] → AreOwnIn h (held v ++ v.drawn) → AreOwnIn h (held w ++ w.drawn) =
        λ h none old. Each-append (λ (r : Row E A O). own_of r.number h ≡ r.own) (held v) (row n [] ∷ [])
        (Each-append_left (λ (r : Row E A O). own_of r.number h ≡ r.own) (held v) v.drawn old) (none, tt) in
        moves legal c k.log k.log n (n + 1) s.views id v w k.views at
        (each_follows (λ (e : Entry E A O). e.caller < n) (λ (e : Entry E A O). e.caller < n + 1) (λ e lt. less e.caller lt) k.log k.views.below)
        (λ i u apart e live' g'. record {
          setting = g'.setting;
          begins = g'.begins;
          lawful = g'.lawful;
          in_log = g'.in_log;
          in_seen = g'.in_seen;
          made = each_follows (λ x. x < n) (λ x. x < n + 1) less u.made g'.made;
          heard = g'.heard;
        })
        (λ _. record {
          setting = g.setting;
          begins = g.begins;
          lawful = g.lawful;
          in_log = new_row k.log (own_of-none n k.log k.views.below) g.in_log;
          in_seen = new_row v.seen (fresh_in v.seen g.begins) g.in_seen;
          made = Each-append (λ x. x < n + 1) v.made (n ∷ []) (each_follows (λ x. x < n) (λ x. x < n + 1) less v.made g.made) (omega arith, tt);
          heard = g.heard;
        })
        (λ m.
        let t = total_set (λ (u : View E A O C). times m (numbers u)) s.views id v w at in
        let o = k.views.once m in
        let a = times_numbers v m live in
        let b = times_numbers w m live in
        let z : times m (numbers_of v.drawn) ≡ 0 = ap (λ (rs : List (Row E A O)). times m (numbers_of rs)) none in
        let y : times m (numbers_of w.drawn) ≡ one_if (n == m) + 0 = refl in
        let x = one_more m n in
        let same : times m (numbers_of (held w)) ≡ times m (numbers_of (held v)) = refl in
        omega arith)
        (λ m h. h) (λ m h. Has-append_left m v.made (n ∷ []) h)
        (λ m positive le less'. record {
          number = v.number;
          lesser = let lt = here in omega arith;
          seat = id;
          view = w;
          at = set_there s.views id v w at;
          holds = subst (λ b. Has v.number (unless b (numbers_of (held v)))) (sym live) (inl refl);
          made = Has-append_right m v.made (n ∷ []) (inl (let e : m ≡ n = omega arith in e));
        })

    draws_number : Lands setting_of legal stands c s id (v, []) 0 (λ n. n) (λ _. Draws legal (v, [])) (k.turn ∷ length k.log ∷ [])
    draws_number =
        let n : ℕ = k.count in
        let w : View E A O C = drawing v n in
        let g : IsGood legal c k.log n v = k.views.good id v at live in (
          w,
          keeps,
          tt,
          record {
            log = k.log;
            count = n + 1;
            turn = k.turn;
            words = refl;
            fits = k.fits;
            lawful = k.lawful;
            views = drawn_views;
            held = ⊎_elim
                (λ (t : (k.turn ≡ 0) × IsFree setting_of stands c k.log s). inl (
                  t.0,
                  record {
                    value = t.1.value;
                    home = t.1.home;
                    setting = t.1.setting;
                    stands_for = t.1.stands_for;
                    nobody = no_turn s.views id w (λ i u apart e. t.1.nobody i u e) idle;
                  },
                ))
                (λ (t : (k.turn ≡ 1) × IsBusy k.log s.views). inr (t.0, busy_stays k.log k.log s.views id v w t.1 at idle idle))
                k.held;
          },
          record {
            number = n;
            view = refl;
            positive = let lt = here in omega arith;
            not_held = λ h. let lt = number_below setting_of legal stands c k.log n s.views id v k.views at live n
                (subst (Has n) (sym (numbers_of-append (held v) v.drawn)) (Has-append_left n (numbers_of (held v)) (numbers_of v.drawn) h)) in omega arith;
            not_made = λ h. let lt : n < n = each_at (λ x. x < n) v.made n g.made h in omega arith;
            not_seen = fresh_in v.seen g.begins;
            sound = sound legal c k.log (n + 1) (set s.views id w) drawn_views id w (set_there s.views id v w at) live k.fits;
          },
        )

  pub draws : (slots id : ℕ) (me : Me (Content X E A O) (View E A O C)) → me.0.turn ≡ false → me.0.spent ≡ false → me.0.drawn ≡ [] → me.1 ≡ []
      → Allows (Rule setting_of legal stands c) slots id me 0 (λ n. n) (λ _. Draws legal me)
  draws slots id me idle live none empty s k long at small =
      subst (λ (cs : List (ℕ × Content X E A O)). Lands setting_of legal stands c s id (me.0, cs) 0 (λ n. n) (λ _. Draws legal (me.0, cs)) s.words) (sym empty)
      (subst (Lands setting_of legal stands c s id (me.0, []) 0 (λ n. n) (λ _. Draws legal (me.0, []))) (sym k.words)
      (draws_number s id me.0 idle live none k at))

  -- a view that has drawn a number is cut in two
  module _ (s : State (Content X E A O) (View E A O C)) (id : ℕ) (u : View E A O C) (n : ℕ) (idle : u.turn ≡ false) (live : u.spent ≡ false)
      (k : Rule setting_of legal stands c s) (at : get_elem? s.views id ≡ some (drawing u n)) where
    left_views : AreViews legal c k.log k.count (set s.views id (parting (drawing u n)) ++ newcomer (drawing u n) ∷ [])
    left_views =
        let v : View E A O C = drawing u n in
        let w : View E A O C = parting v in
        let x : View E A O C = newcomer v in
        let g : IsGood legal c k.log k.count v = k.views.good id v at live in
        let left : (h : List (Entry E A O)) → AreOwnIn h (held v ++ v.drawn) → AreOwnIn h (held w ++ w.drawn) =
        λ h old. Each-append (λ (r : Row E A O). own_of r.number h ≡ r.own) (held v) []
        (Each-append_left (λ (r : Row E A O). own_of r.number h ≡ r.own) (held v) v.drawn old) tt in
        let right : (h : List (Entry E A O)) → AreOwnIn h (held v ++ v.drawn) → AreOwnIn h (row n [] ∷ []) =
        λ h old. Each-append_right (λ (r : Row E A O). own_of r.number h ≡ r.own) (held v) v.drawn old in
        let good_left : IsGood legal c k.log k.count w = record {
          setting = g.setting;
          begins = g.begins;
          lawful = g.lawful;
          in_log = left k.log g.in_log;
          in_seen = left v.seen g.in_seen;
          made = g.made;
          heard = g.heard;
        } in
        let good_right : IsGood legal c k.log k.count x = record {
          setting = g.setting;
          begins = g.begins;
          lawful = g.lawful;
          in_log = right k.log g.in_log;
          in_seen = right v.seen g.in_seen;
          made = tt;
          heard = tt;
        } in
        record {
          below = k.views.below;
          good = λ i y e live'. ⊎_elim
              (λ (t : get_elem? (set s.views id w) i ≡ some y). ⊎_elim
              (λ (z : (i ≡ id) × (w ≡ y)). subst (IsGood legal c k.log k.count) z.1 good_left)
              (λ (z : (i ≢ id) × (get_elem? s.views i ≡ some y)). k.views.good i y z.1 live')
              (Rattle.atomic_table.proofs.Lists.at_set s.views id i w y t))
              (λ (t : x ≡ y). subst (IsGood legal c k.log k.count) t good_right)
              (at_snoc (set s.views id w) x y i e);
          once = λ m.
              let f : View E A O C → ℕ = λ (y : View E A O C). times m (numbers y) in
              let p = total-push f (set s.views id w) x in
              let t = total_set f s.views id v w at in
              let o = k.views.once m in
              let a = times_numbers v m live in
              let b = times_numbers w m live in
              let d : times m (numbers_of v.drawn) ≡ one_if (n == m) + 0 = refl in
              let e : times m (numbers x) ≡ one_if (n == m) + 0 = refl in
              let z : times m (numbers_of w.drawn) ≡ 0 = refl in
              let same : times m (numbers_of (held w)) ≡ times m (numbers_of (held v)) = refl in
              omega arith;
          parents = λ m positive less.
              let p = Rattle.satip_turn.proofs.Moves.parent_moves s.views id v w at (λ j h. h) (λ j h. h) m (k.views.parents m positive less) in
              record {
                number = p.number;
                lesser = p.lesser;
                seat = p.seat;
                view = p.view;
                at = at_longer (set s.views id w) (x ∷ []) p.seat p.view p.at;
                holds = p.holds;
                made = p.made;
              };
        }

    parts : Rule setting_of legal stands c
        (record { words = s.words; homes = s.homes; views = set s.views id (parting (drawing u n)) ++ newcomer (drawing u n) ∷ [] })
    parts =
        let v : View E A O C = drawing u n in
        let w : View E A O C = parting v in
        let x : View E A O C = newcomer v in
        record {
          log = k.log;
          count = k.count;
          turn = k.turn;
          words = k.words;
          fits = k.fits;
          lawful = k.lawful;
          views = left_views;
          held = ⊎_elim
              (λ (t : (k.turn ≡ 0) × IsFree setting_of stands c k.log s). inl (
                t.0,
                record {
                  value = t.1.value;
                  home = t.1.home;
                  setting = t.1.setting;
                  stands_for = t.1.stands_for;
                  nobody = λ i y e. ⊎_elim
                      (λ (z : get_elem? (set s.views id w) i ≡ some y). no_turn s.views id w (λ j a apart q. t.1.nobody j a q) idle i y z)
                      (λ (z : x ≡ y). ap (λ (a : View E A O C). a.turn) (sym z))
                      (at_snoc (set s.views id w) x y i e);
                },
              ))
              (λ (t : (k.turn ≡ 1) × IsBusy k.log s.views).
              inr (t.0, busy_grows k.log (set s.views id w) x (busy_stays k.log k.log s.views id v w t.1 at idle idle) refl))
              k.held;
        }

  pub splits : (id : ℕ) (u v : View E A O C) (n : ℕ) → u.turn ≡ false → u.spent ≡ false → v ≡ drawing u n
      → Splits {S = Content X E A O} {V = View E A O C} (Rule setting_of legal stands c) id v (parting v) (newcomer v)
  splits id u v n idle live is =
      subst (λ (y : View E A O C). Splits {S = Content X E A O} {V = View E A O C} (Rule setting_of legal stands c) id y (parting y) (newcomer y)) (sym is)
      (λ s k at. parts s id u n idle live k at)
