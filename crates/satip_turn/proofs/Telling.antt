-- Looking at the whole history and committing an entry keep the rule.
use Rattle.std.proofs.Common.{◌≡◌, ◌≢◌, ℕ, zero, suc, ◌+◌, ◌%◌, ◌^◌, ◌<◌, ◌≤◌, ◌==◌, Bool, true, false, nat_lt, List, [], ◌∷◌, ◌++◌, length, set, Some, refl, sym, ap, ◌∙◌, subst, inl, inr, ⊎_elim, length-append, lt-ltb, le-ltb, ltb-true, lit<, arith}
use Rattle.std.proofs.Math.Nat.{mod-eq_of_lt}
use Rattle.std.proofs.lemmas.Bool.Decides.{eqb_tells}
use mathlib.Core.Option.{some, some-injective, some-ne-none}
use lib.ListN.{get_elem?}
use Rattle.atomic_table.specs.Table.{State, Me, Allows, opening, rest, keeps}
use Rattle.satip_base.specs.declared.entry.Entry.{Entry}
use Rattle.satip_base.specs.Lists.{Has, Begins}
use Rattle.satip_base.specs.History.{entry, own_of}
use Rattle.satip_base.proofs.Elements.{Each-append, each_at, each_has, each_follows}
use Rattle.satip_base.proofs.Prefixes.{begins_refl, begins_more, begins_trans, begins_along}
use Rattle.satip_base.proofs.Owned.{own_of-push_same, own_of-push_other}
use Rattle.satip_turn.specs.declared.view.Row.{Row}
use Rattle.satip_turn.specs.declared.view.View.{View}
use Rattle.satip_turn.specs.declared.view.Content.{Content}
use Rattle.satip_turn.specs.declared.view.Content.TheVariants.{Home, Said}
use Rattle.satip_turn.specs.Views.{opening_view, held, numbers, numbers_of, unless}
use Rattle.satip_turn.specs.Faithful.{AreOwnIn}
use Rattle.satip_turn.specs.Rule.{one_if, times, total, IsGood, AreViews}
use Rattle.satip_turn.specs.Steps.{looking, committed, spoken, Looks}
use Rattle.std.specs.declared.snapshot.Snapshot.{Snapshot}
use Rattle.satip_turn.specs.Seats.{IsHolding}
use Rattle.satip_turn.proofs.Counts.{has_times, one_if_same, total_at, total_set, one_place}
use Rattle.satip_turn.proofs.Known.{one_if_le}
use Rattle.satip_turn.proofs.Moves.{moves, moves_alone}
use Rattle.satip_turn.proofs.Held.{busy_moves, holder_knows}
use Rattle.satip_turn.proofs.Turning.{Rule, Lands, is_held}

module _ {E A O C X : Type 0} (setting_of : X → C) (legal : C → List (Entry E A O) → Type 0) (stands : X → List (Entry E A O) → Type 0) (c : C) where
  pub looks : (slots id : ℕ) (me : Me (Content X E A O) (View E A O C)) → me.0.turn ≡ true → me.0.spent ≡ false
      → Allows (Rule setting_of legal stands c) slots id me 1 (λ n. n) (Looks me)
  looks slots id me holds live s k long at small =
      let v : View E A O C = me.0 in
      let w : View E A O C = looking v in
      let g : IsGood legal c k.log k.count v = k.views.good id v at live in
      let h = is_held setting_of legal stands c s k id v at holds in
      let knows : v.whole ≡ k.log = holder_knows k.log k.log s.views id v w h.1 at holds in
      let back : k.log ≡ v.whole = sym knows in
      subst (Lands setting_of legal stands c s id me 1 (λ n. n) (Looks me)) (sym k.words) (
        w,
        keeps,
        tt,
        record {
          log = k.log;
          count = k.count;
          turn = k.turn;
          words = refl;
          fits = k.fits;
          lawful = k.lawful;
          views = moves_alone legal c k.log k.count s.views id v w k.views at
              (λ _. record {
                setting = g.setting;
                begins = subst (λ (l : List (Entry E A O)). Begins l k.log) back (begins_refl k.log);
                lawful = subst (legal c) back k.lawful;
                in_log = g.in_log;
                in_seen = subst (λ (l : List (Entry E A O)). AreOwnIn l (held v ++ v.drawn)) back g.in_log;
                made = g.made;
                heard = each_follows (λ l. Begins l v.seen) (λ l. Begins l v.whole)
                    (λ l b. begins_along l k.log v.whole back (begins_trans l v.seen k.log b g.begins)) v.heard g.heard;
              })
              (λ n. refl) (λ n h. h) (λ n h. h);
          held = inr (h.0, busy_moves k.log k.log s.views id v w h.1 at holds holds knows);
        },
        record { view = refl; length_is = ap length back },
      )

  pub numbers_has : (r : Row E A O) (rs : List (Row E A O)) → Has r rs → Has r.number (numbers_of rs)
  numbers_has r [] h = absurd h
  numbers_has r (x ∷ xs) h = ⊎_elim (λ (e : r ≡ x). inl (ap (λ (y : Row E A O). y.number) e)) (λ (t : Has r xs). inr (numbers_has r xs t)) h

  -- a live view's numbers, as they count
  counts : (v : View E A O C) (n : ℕ) → v.spent ≡ false → Has n (numbers_of (held v ++ v.drawn)) → 1 ≤ times n (numbers v)
  counts v n live has =
      let one = has_times n (numbers_of (held v ++ v.drawn)) has in
      let t : times n (numbers v) ≡ times n (numbers_of (held v ++ v.drawn)) = ap (λ b. times n (unless b (numbers_of (held v ++ v.drawn)))) live in
      omega arith

  -- a live view's number is below the count
  pub number_below : (log : List (Entry E A O)) (count : ℕ) (views : List (View E A O C)) (j : ℕ) (v : View E A O C) → AreViews legal c log count views
      → get_elem? views j ≡ some v → v.spent ≡ false
      → (n : ℕ) → Has n (numbers_of (held v ++ v.drawn)) → n < count
  number_below log count views j v all at live n has = go (nat_lt n count) refl
    where
      go : (b : Bool) → nat_lt n count ≡ b → n < count
      go true e = ltb-true n count e
      go false e =
          let one = counts v n live has in
          let t = total_at (λ (u : View E A O C). times n (numbers u)) views j v at in
          let o = all.once n in let z : one_if (nat_lt n count) ≡ 0 = ap one_if e in absurd (omega arith)

  module _ (s : State (Content X E A O) (View E A O C)) (k : Rule setting_of legal stands c s) (id : ℕ) (v : View E A O C) (at : get_elem? s.views id ≡ some v)
      (live : v.spent ≡ false) (x : Entry E A O) (mine : x.caller ≡ v.number) where
    -- another view's rows don't have the committer's number
    others : (i : ℕ) (u : View E A O C) → i ≢ id → get_elem? s.views i ≡ some u → u.spent ≡ false → IsGood legal c k.log k.count u
        → IsGood legal c (k.log ++ x ∷ []) k.count u
    others i u apart at' live' g = record {
      setting = g.setting;
      begins = begins_trans u.seen k.log (k.log ++ x ∷ []) g.begins (begins_more k.log (x ∷ []));
      lawful = g.lawful;
      in_log = each_has (λ (r : Row E A O). own_of r.number (k.log ++ x ∷ []) ≡ r.own) (held u ++ u.drawn)
          (λ r has.
          let there : 1 ≤ times r.number (numbers u) = counts u r.number live' (numbers_has r (held u ++ u.drawn) has) in
          own_of-push_other r.number k.log x
          (λ same.
          let is : r.number ≡ v.number = sym same ∙ mine in
          let here : 1 ≤ times r.number (numbers v) = counts v r.number live (inl is) in
          let o = k.views.once r.number in let b = one_if_le (nat_lt r.number k.count) in
          let le : total (λ (y : View E A O C). times r.number (numbers y)) s.views ≤ 1 = omega arith in
          apart (one_place (λ (y : View E A O C). times r.number (numbers y)) s.views i id u v at' at le there here))
          ∙ each_at (λ (r : Row E A O). own_of r.number k.log ≡ r.own) (held u ++ u.drawn) r g.in_log has);
      in_seen = g.in_seen;
      made = g.made;
      heard = g.heard;
    }

    -- the committer's other rows don't have its number
    rest_in_log : AreOwnIn k.log (v.kept ++ v.drawn) → AreOwnIn (k.log ++ x ∷ []) (v.kept ++ v.drawn)
    rest_in_log old = each_has (λ (r : Row E A O). own_of r.number (k.log ++ x ∷ []) ≡ r.own) (v.kept ++ v.drawn)
        (λ r has.
        own_of-push_other r.number k.log x
        (λ same.
        let is : r.number ≡ v.number = sym same ∙ mine in
        let again = has_times r.number (numbers_of (v.kept ++ v.drawn)) (numbers_has r (v.kept ++ v.drawn) has) in
        let one = one_if_same v.number r.number (sym is) in
        let t : times r.number (numbers v) ≡ times r.number (numbers_of (held v ++ v.drawn)) =
        ap (λ b. times r.number (unless b (numbers_of (held v ++ v.drawn)))) live in
        let u : times r.number (numbers_of (held v ++ v.drawn)) ≡ one_if (v.number == r.number) + times r.number (numbers_of (v.kept ++ v.drawn)) = refl in
        let z = total_at (λ (y : View E A O C). times r.number (numbers y)) s.views id v at in
        let o = k.views.once r.number in let b = one_if_le (nat_lt r.number k.count) in
        absurd (omega arith))
        ∙ each_at (λ (r : Row E A O). own_of r.number k.log ≡ r.own) (v.kept ++ v.drawn) r old has)

    commit_views : (g : IsGood legal c k.log k.count v) → v.seen ≡ k.log → legal c (k.log ++ x ∷ [])
        → AreViews legal c (k.log ++ x ∷ []) k.count (set s.views id (committed v x))
    commit_views g seen lawful =
        let w : View E A O C = committed v x in
        let log' : List (Entry E A O) = k.log ++ x ∷ [] in
        let back : k.log ≡ v.seen = sym seen in
        let at_end : AreOwnIn log' (held w ++ w.drawn) = (own_of-push_same v.number k.log x mine ∙ ap (λ l. l ++ x ∷ []) g.in_log.0, rest_in_log g.in_log.1) in
        moves legal c k.log log' k.count k.count s.views id v w k.views at
        (Each-append (λ (e : Entry E A O). e.caller < k.count) k.log (x ∷ []) k.views.below
        (subst (λ n. n < k.count) (sym mine) (number_below k.log k.count s.views id v k.views at live v.number (inl refl)), tt))
        others
        (λ _. record {
          setting = g.setting;
          begins = subst (λ (l : List (Entry E A O)). Begins (l ++ x ∷ []) log') back (begins_refl log');
          lawful = subst (λ (l : List (Entry E A O)). legal c (l ++ x ∷ [])) back lawful;
          in_log = at_end;
          in_seen = subst (λ (l : List (Entry E A O)). AreOwnIn (l ++ x ∷ []) (held w ++ w.drawn)) back at_end;
          made = g.made;
          heard = each_follows (λ l. Begins l v.seen) (λ l. Begins l w.seen) (λ l b. begins_trans l v.seen w.seen b (begins_more v.seen (x ∷ [])))
              v.heard g.heard;
        })
        (λ n.
        let t = total_set (λ (u : View E A O C). times n (numbers u)) s.views id v w at in
        let same : times n (numbers w) ≡ times n (numbers v) = refl in
        let o = k.views.once n in omega arith)
        (λ n h. h) (λ n h. h) (λ n positive le less. absurd (omega arith))

  pub commits : (slots id : ℕ) (me : Me (Content X E A O) (View E A O C)) (x : Entry E A O) → me.0.turn ≡ true → me.0.spent ≡ false
      → me.0.seen ≡ me.0.whole → length me.0.whole + 1 < 2 ^ 64 → x.caller ≡ me.0.number → spoken me.0 me.1 ≡ committed me.0 x
      → ((d : C) → me.0.setting ≡ Some d → legal d (me.0.whole ++ x ∷ []))
      → Allows (Rule setting_of legal stands c) slots id me 1 (λ n. (n + 1) % 2 ^ 64) (λ _ after. after ≡ (spoken me.0 me.1, me.1))
  commits slots id me x holds live up_to_date room mine says lawful s k long at small =
      let v : View E A O C = me.0 in
      let w : View E A O C = committed v x in
      let log' : List (Entry E A O) = k.log ++ x ∷ [] in
      let g : IsGood legal c k.log k.count v = k.views.good id v at live in
      let h = is_held setting_of legal stands c s k id v at holds in
      let knows : v.whole ≡ k.log = holder_knows k.log k.log s.views id v w h.1 at holds in
      let lawful' : legal c log' = subst (λ (l : List (Entry E A O)). legal c (l ++ x ∷ [])) knows (lawful c g.setting) in
      let same_length : length v.whole ≡ length k.log = ap length knows in
      let longer : length log' ≡ length k.log + 1 = length-append k.log (x ∷ []) in
      let fits : length k.log + 1 < 2 ^ 64 = omega arith in
      let next : (length k.log + 1) % 2 ^ 64 ≡ length log' = mod-eq_of_lt fits ∙ sym longer in
      subst (Lands setting_of legal stands c s id me 1 (λ n. (n + 1) % 2 ^ 64) (λ _ after. after ≡ (spoken v me.1, me.1))) (sym k.words) (
        spoken v me.1,
        keeps,
        tt,
        subst (λ (u : View E A O C). Rule setting_of legal stands c
            (record { words = k.turn ∷ (length k.log + 1) % 2 ^ 64 ∷ []; homes = s.homes; views = set s.views id u })) (sym says)
            (record {
              log = log';
              count = k.count;
              turn = k.turn;
              words = ap (λ (n : ℕ). k.turn ∷ n ∷ []) next;
              fits = omega arith;
              lawful = lawful';
              views = commit_views s k id v at live x mine g (up_to_date ∙ knows) lawful';
              held = inr (h.0, busy_moves k.log log' s.views id v w h.1 at holds holds (ap (λ l. l ++ x ∷ []) knows));
            }),
        refl,
      )

  -- the same after the entry was put into the slot
  pub commits_said : (slots id : ℕ) (old me : Me (Content X E A O) (View E A O C)) (e : Snapshot E) (a : Snapshot A) (o : Snapshot O)
      → IsHolding old → old.0.seen ≡ old.0.whole → length old.0.whole + 1 < 2 ^ 64
      → ((d : C) → old.0.setting ≡ Some d → legal d (old.0.whole ++ entry old.0.number e.value a.value o.value ∷ []))
      → me ≡ (old.0, (0, Said e a o) ∷ rest old.1)
      → Allows (Rule setting_of legal stands c) slots id me 1 (λ n. (n + 1) % 2 ^ 64) (λ _ after. after ≡ (spoken me.0 me.1, me.1))
  commits_said slots id old me e a o h up_to_date room lawful is =
      subst (λ (m : Me (Content X E A O) (View E A O C)).
      Allows (Rule setting_of legal stands c) slots id m 1 (λ n. (n + 1) % 2 ^ 64) (λ _ after. after ≡ (spoken m.0 m.1, m.1))) (sym is)
      (commits slots id (old.0, (0, Said e a o) ∷ rest old.1) (entry old.0.number e.value a.value o.value) h.turn h.live up_to_date room refl refl lawful)

  once_begins : (n : ℕ) → times n (0 ∷ []) + 0 ≡ one_if (nat_lt n 1)
  once_begins n = ⊎_elim
      (λ t. let a : one_if (0 == n) ≡ 1 = ap one_if t.0 in let lt : n < 1 = let e = t.1 in omega arith in
      let b : one_if (nat_lt n 1) ≡ 1 = ap one_if (lt-ltb n 1 lt) in omega arith)
      (λ t. let a : one_if (0 == n) ≡ 0 = ap one_if t.0 in let le : 1 ≤ n = let e = t.1 in omega arith in
      let b : one_if (nat_lt n 1) ≡ 0 = ap one_if (le-ltb n 1 le) in omega arith)
      (eqb_tells 0 n)

  opening_good : legal c [] → IsGood legal c [] 1 (opening_view c)
  opening_good lawful = record {
    setting = refl;
    begins = begins_refl [];
    lawful = lawful;
    in_log = (refl, tt);
    in_seen = (refl, tt);
    made = tt;
    heard = tt;
  }

  first_good : legal c [] → (j : ℕ) (v : View E A O C) → get_elem? (opening_view c ∷ []) j ≡ some v → v.spent ≡ false → IsGood legal c [] 1 v
  first_good lawful zero v e live = subst (IsGood legal c [] 1) (some-injective (opening_view c) v e) (opening_good lawful)
  first_good lawful (suc j) v e live = absurd (some-ne-none v (sym e))

  first_idle : (j : ℕ) (v : View E A O C) → get_elem? (opening_view {E = E} {A = A} {O = O} c ∷ []) j ≡ some v → v.turn ≡ false
  first_idle zero v e = ap (λ (u : View E A O C). u.turn) (sym (some-injective (opening_view c) v e))
  first_idle (suc j) v e = absurd (some-ne-none v (sym e))

  pub opens : (x : X) → setting_of x ≡ c → legal c [] → stands x [] → Rule setting_of legal stands c (opening (0 ∷ 0 ∷ []) (Home x ∷ []) (opening_view c))
  opens x is lawful stands_for = record {
    log = [];
    count = 1;
    turn = 0;
    words = refl;
    fits = lit< tt;
    lawful = lawful;
    views = record {
      below = tt;
      good = first_good lawful;
      once = once_begins;
      parents = λ n positive less. absurd (omega arith);
    };
    held = inl (refl, record { value = x; home = refl; setting = is; stands_for = stands_for; nobody = first_idle });
  }
