-- Joining two seats, and being told that both lists are of one history, keep the rule.
use Rattle.std.proofs.Common.{◌≡◌, ◌≢◌, ℕ, ◌+◌, ◌<◌, ◌==◌, Bool, true, false, nat_le, if◌then◌else◌, List, [], ◌∷◌, ◌++◌, length, set, refl, sym, ap, ◌∙◌, subst, inl, inr, ⊎_elim, leb-true, leb-false, arith}
use Rattle.std.proofs.lemmas.Bool.Decides.{eqb_tells}
use mathlib.Core.Option.{some}
use lib.ListN.{get_elem?}
use Rattle.atomic_table.specs.Table.{State, Me, Allows, Joins, keeps}
use Rattle.atomic_table.proofs.Lists.{at_set, set_else}
use Rattle.satip_base.specs.declared.entry.Entry.{Entry}
use Rattle.satip_base.specs.Lists.{Each, Has, Begins}
use Rattle.satip_base.specs.History.{own_of}
use Rattle.satip_base.proofs.Elements.{Each-append, Each-append_left, Each-append_right, Has-append_left, Has-append_right}
use Rattle.satip_base.proofs.Prefixes.{begins_refl, begins_both}
use Rattle.satip_base.proofs.Owned.{own_of-between}
use Rattle.satip_turn.specs.declared.view.Row.{Row}
use Rattle.satip_turn.specs.declared.view.View.{View}
use Rattle.satip_turn.specs.declared.view.Content.{Content}
use Rattle.satip_turn.specs.Views.{held, holders, numbers, numbers_of, unless, spent_view}
use Rattle.satip_turn.specs.Faithful.{AreOwnIn}
use Rattle.satip_turn.specs.Rule.{one_if, times, IsFree, IsBusy, IsGood, HasParent, AreViews}
use Rattle.satip_turn.specs.Steps.{longer, joining, heeding, Hears}
use Rattle.satip_turn.proofs.Counts.{times-append, total_set, same_at}
use Rattle.satip_turn.proofs.Known.{numbers_of-append, sound}
use Rattle.satip_turn.proofs.Moves.{set_there, moves_alone}
use Rattle.satip_turn.proofs.Held.{both_ways, no_turn, busy_stays}
use Rattle.satip_turn.proofs.Turning.{Rule, Lands}
use Rattle.satip_turn.proofs.Drawing.{times_numbers}

-- what holds of both lists holds of the longer
longer_has : {T : Type 0} (P : List T → Type 0) (xs ys : List T) → P xs → P ys → P (longer xs ys)
longer_has {T} P xs ys p q = go (nat_le (length ys) (length xs))
  where
    go : (b : Bool) → P (if b then xs else ys)
    go true = p
    go false = q

longer_begins : {T : Type 0} (xs ys zs : List T) → Begins xs zs → Begins ys zs → Begins xs (longer xs ys) × Begins ys (longer xs ys)
longer_begins {T} xs ys zs p q = go (nat_le (length ys) (length xs)) refl
  where
    go : (b : Bool) → nat_le (length ys) (length xs) ≡ b → Begins xs (if b then xs else ys) × Begins ys (if b then xs else ys)
    go true e = (begins_refl xs, begins_both ys xs zs q p (leb-true (length ys) (length xs) e))
    go false e = let lt = leb-false (length ys) (length xs) e in (begins_both xs ys zs p q (omega arith), begins_refl ys)

-- rows whose entries are own in two prefixes are own in what lies between
own_between : {E A O : Type 0} (g h k : List (Entry E A O)) (rs : List (Row E A O)) → Begins g h → Begins h k → AreOwnIn g rs → AreOwnIn k rs → AreOwnIn h rs
own_between g h k [] p q a b = tt
own_between g h k (r ∷ rs) p q a b = (own_of-between r.number g h k p q (a.0 ∙ sym b.0) ∙ b.0, own_between g h k rs p q a.1 b.1)

module _ {E A O C X : Type 0} (setting_of : X → C) (legal : C → List (Entry E A O) → Type 0) (stands : X → List (Entry E A O) → Type 0) (c : C) where
  module _ (s : State (Content X E A O) (View E A O C)) (k : Rule setting_of legal stands c s) (id other : ℕ) (v w : View E A O C) (idle : v.turn ≡ false)
      (live : v.spent ≡ false) (none : v.drawn ≡ []) (idle' : w.turn ≡ false) (live' : w.spent ≡ false) (none' : w.drawn ≡ [])
      (at : get_elem? s.views id ≡ some v) (apart : other ≢ id) (there : get_elem? (set s.views id (joining v w)) other ≡ some w) where
    abbrev b : View E A O C
    b = joining v w

    abbrev gone : View E A O C
    gone = spent_view

    abbrev after : List (View E A O C)
    after = set (set s.views id b) other gone

    there_before : get_elem? s.views other ≡ some w
    there_before = sym (set_else s.views id other b apart) ∙ there

    own_rows : (h : List (Entry E A O)) → AreOwnIn h (held v ++ v.drawn) → AreOwnIn h (held w ++ w.drawn) → AreOwnIn h (held b ++ b.drawn)
    own_rows h old old' =
        let P : Row E A O → Type 0 = λ r. own_of r.number h ≡ r.own in
        let mine : Each P (held v) = Each-append_left P (held v) v.drawn old in
        let drawn : Each P v.drawn = Each-append_right P (held v) v.drawn old in
        let theirs : Each P (held w) = Each-append_left P (held w) w.drawn old' in
        (mine.0, Each-append P (v.kept ++ held w) v.drawn (Each-append P v.kept (held w) mine.1 theirs) drawn)

    good_both : IsGood legal c k.log k.count b
    good_both =
        let g : IsGood legal c k.log k.count v = k.views.good id v at live in
        let g' : IsGood legal c k.log k.count w = k.views.good other w there_before live' in
        let begins = longer_begins v.seen w.seen k.log g.begins g'.begins in
        let whole : Begins b.seen k.log = longer_has (λ h. Begins h k.log) v.seen w.seen g.begins g'.begins in
        let mine : AreOwnIn b.seen (held v ++ v.drawn) = own_between v.seen b.seen k.log (held v ++ v.drawn) begins.0 whole g.in_seen g.in_log in
        let theirs : AreOwnIn b.seen (held w ++ w.drawn) = own_between w.seen b.seen k.log (held w ++ w.drawn) begins.1 whole g'.in_seen g'.in_log in
        record {
          setting = g.setting;
          begins = whole;
          lawful = longer_has (legal c) v.seen w.seen g.lawful g'.lawful;
          in_log = own_rows k.log g.in_log g'.in_log;
          in_seen = own_rows b.seen mine theirs;
          made = Each-append (λ n. n < k.count) v.made w.made g.made g'.made;
          heard = (begins.0, (begins.1, tt));
        }

    sums : (n : ℕ) → times n (numbers b) ≡ times n (numbers v) + times n (numbers w)
    sums n =
        let a = times_numbers v n live in
        let d = times_numbers w n live' in
        let e = times_numbers b n live in
        let z : times n (numbers_of w.drawn) ≡ 0 = ap (λ (rs : List (Row E A O)). times n (numbers_of rs)) none' in
        let kept : times n (numbers_of (v.kept ++ held w)) ≡ times n (numbers_of v.kept) + times n (numbers_of (held w)) =
        ap (times n) (numbers_of-append v.kept (held w)) ∙ times-append n (numbers_of v.kept) (numbers_of (held w)) in
        let hb : times n (numbers_of (held b)) ≡ one_if (v.number == n) + times n (numbers_of (v.kept ++ held w)) = refl in
        let hv : times n (numbers_of (held v)) ≡ one_if (v.number == n) + times n (numbers_of v.kept) = refl in
        let same : times n (numbers_of b.drawn) ≡ times n (numbers_of v.drawn) = refl in
        omega arith

    held_left : (n : ℕ) → Has n (holders v) → Has n (holders b)
    held_left n h =
        let open_v : Has n (numbers_of (held v)) = subst (λ t. Has n (unless t (numbers_of (held v)))) live h in
        let both : Has n (numbers_of (held v) ++ numbers_of (held w)) = Has-append_left n (numbers_of (held v)) (numbers_of (held w)) open_v in
        subst (λ t. Has n (unless t (numbers_of (held b)))) (sym live) (subst (Has n) (sym (numbers_of-append (held v) (held w))) both)

    held_right : (n : ℕ) → Has n (holders w) → Has n (holders b)
    held_right n h =
        let open_w : Has n (numbers_of (held w)) = subst (λ t. Has n (unless t (numbers_of (held w)))) live' h in
        let both : Has n (numbers_of (held v) ++ numbers_of (held w)) = Has-append_right n (numbers_of (held v)) (numbers_of (held w)) open_w in
        subst (λ t. Has n (unless t (numbers_of (held b)))) (sym live) (subst (Has n) (sym (numbers_of-append (held v) (held w))) both)

    both_at : get_elem? after id ≡ some b
    both_at = set_else (set s.views id b) other id gone (λ e. apart (sym e)) ∙ set_there s.views id v b at

    parent_joins : (n : ℕ) → HasParent s.views n → HasParent after n
    parent_joins n p = ⊎_elim
        (λ t.
        let is : p.view ≡ v = same_at s.views id p.view v (subst (λ i. get_elem? s.views i ≡ some p.view) t.1 p.at) at in
        record {
          number = p.number;
          lesser = p.lesser;
          seat = id;
          view = b;
          at = both_at;
          holds = held_left p.number (subst (λ (u : View E A O C). Has p.number (holders u)) is p.holds);
          made = Has-append_left n v.made w.made (subst (λ (u : View E A O C). Has n u.made) is p.made);
        })
        (λ t. ⊎_elim
        (λ z.
        let is : p.view ≡ w = same_at s.views other p.view w (subst (λ i. get_elem? s.views i ≡ some p.view) z.1 p.at) there_before in
        record {
          number = p.number;
          lesser = p.lesser;
          seat = id;
          view = b;
          at = both_at;
          holds = held_right p.number (subst (λ (u : View E A O C). Has p.number (holders u)) is p.holds);
          made = Has-append_right n v.made w.made (subst (λ (u : View E A O C). Has n u.made) is p.made);
        })
        (λ z. record {
          number = p.number;
          lesser = p.lesser;
          seat = p.seat;
          view = p.view;
          at = set_else (set s.views id b) other p.seat gone z.1 ∙ (set_else s.views id p.seat b t.1 ∙ p.at);
          holds = p.holds;
          made = p.made;
        })
        (eqb_tells p.seat other))
        (eqb_tells p.seat id)

    joined_views : AreViews legal c k.log k.count after
    joined_views = record {
      below = k.views.below;
      good = λ i u e alive. ⊎_elim
          (λ (t : (i ≡ other) × (gone ≡ u)). both_ways u.spent (ap (λ (y : View E A O C). y.spent) (sym t.1)) alive)
          (λ (t : (i ≢ other) × (get_elem? (set s.views id b) i ≡ some u)). ⊎_elim
          (λ (z : (i ≡ id) × (b ≡ u)). subst (IsGood legal c k.log k.count) z.1 good_both)
          (λ (z : (i ≢ id) × (get_elem? s.views i ≡ some u)). k.views.good i u z.1 alive)
          (at_set s.views id i b u t.1))
          (at_set (set s.views id b) other i gone u e);
      once = λ n.
          let f : View E A O C → ℕ = λ (y : View E A O C). times n (numbers y) in
          let p = total_set f s.views id v b at in
          let q = total_set f (set s.views id b) other w gone there in
          let o = k.views.once n in
          let a = sums n in
          let z : times n (numbers gone) ≡ 0 = refl in
          omega arith;
      parents = λ n positive less. parent_joins n (k.views.parents n positive less);
    }

    joins_here : Rule setting_of legal stands c (record { words = s.words; homes = s.homes; views = after })
    joins_here = record {
      log = k.log;
      count = k.count;
      turn = k.turn;
      words = k.words;
      fits = k.fits;
      lawful = k.lawful;
      views = joined_views;
      held = ⊎_elim
          (λ (t : (k.turn ≡ 0) × IsFree setting_of stands c k.log s). inl (
            t.0,
            record {
              value = t.1.value;
              home = t.1.home;
              setting = t.1.setting;
              stands_for = t.1.stands_for;
              nobody = no_turn (set s.views id b) other gone (λ i u far e. no_turn s.views id b (λ j y far' e'. t.1.nobody j y e') idle i u e) refl;
            },
          ))
          (λ (t : (k.turn ≡ 1) × IsBusy k.log s.views).
          inr (t.0, busy_stays k.log k.log (set s.views id b) other w gone (busy_stays k.log k.log s.views id v b t.1 at idle idle) there idle' refl))
          k.held;
    }

  pub joins : (id other : ℕ) (v w : View E A O C) → v.turn ≡ false → v.spent ≡ false → v.drawn ≡ [] → w.turn ≡ false → w.spent ≡ false → w.drawn ≡ []
      → Joins {S = Content X E A O} {V = View E A O C} (Rule setting_of legal stands c) id v other w (joining v w) spent_view
  joins id other v w idle live none idle' live' none' s k at apart there = joins_here s k id other v w idle live none idle' live' none' at apart there

  pub hears : (slots id : ℕ) (me : Me (Content X E A O) (View E A O C)) → me.0.turn ≡ false → me.0.spent ≡ false
      → Allows (Rule setting_of legal stands c) slots id me 0 (λ n. n) (λ _. Hears legal me)
  hears slots id me idle live s k long at small =
      let v : View E A O C = me.0 in
      let w : View E A O C = heeding v in
      let g : IsGood legal c k.log k.count v = k.views.good id v at live in
      let views : AreViews legal c k.log k.count (set s.views id w) = moves_alone legal c k.log k.count s.views id v w k.views at
      (λ _. record { setting = g.setting; begins = g.begins; lawful = g.lawful; in_log = g.in_log; in_seen = g.in_seen; made = g.made; heard = tt })
      (λ n. refl) (λ n h. h) (λ n h. h) in
      subst (Lands setting_of legal stands c s id me 0 (λ n. n) (λ _. Hears legal me)) (sym k.words) (
        w,
        keeps,
        tt,
        record {
          log = k.log;
          count = k.count;
          turn = k.turn;
          words = refl;
          fits = k.fits;
          lawful = k.lawful;
          views = views;
          held = ⊎_elim
              (λ (t : (k.turn ≡ 0) × IsFree setting_of stands c k.log s). inl (
                t.0,
                record {
                  value = t.1.value;
                  home = t.1.home;
                  setting = t.1.setting;
                  stands_for = t.1.stands_for;
                  nobody = no_turn s.views id w (λ i u apart e. t.1.nobody i u e) idle;
                },
              ))
              (λ (t : (k.turn ≡ 1) × IsBusy k.log s.views). inr (t.0, busy_stays k.log k.log s.views id v w t.1 at idle idle))
              k.held;
        },
        record { view = refl; heard = g.heard; sound = sound legal c k.log k.count (set s.views id w) views id w (set_there s.views id v w at) live k.fits },
      )
