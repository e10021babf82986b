-- Taking and giving up the turn keep the rule.
use Rattle.std.proofs.Common.{◌≡◌, ℕ, ◌==◌, true, false, List, [], ◌∷◌, length, get_or, set, Some, refl, sym, ap, ◌∙◌, subst, inl, inr, ⊎_elim, arith}
use mathlib.Core.Option.{some}
use lib.ListN.{get_elem?}
use prog.Atomic.{either}
use Rattle.atomic_table.specs.Table.{State, Me, Act, Valid, Allows, homes_after, carried_after, rest, keeps, takes, gives}
use Rattle.satip_base.specs.declared.entry.Entry.{Entry}
use Rattle.satip_turn.specs.declared.view.View.{View}
use Rattle.satip_turn.specs.declared.view.Content.{Content}
use Rattle.satip_turn.specs.declared.view.Content.TheVariants.{Home}
use Rattle.satip_turn.specs.Rule.{Kept, IsFree, IsBusy, IsGood, AreViews}
use Rattle.satip_turn.specs.Steps.{meeting, taking, resting, Tries, Gives}
use Rattle.satip_turn.specs.Seats.{IsHolding, IsServed}
use Rattle.satip_turn.proofs.Known.{sound}
use Rattle.satip_turn.proofs.Moves.{set_there, moves_alone}
use Rattle.satip_turn.proofs.Held.{both_ways, busy_stays, busy_begins, holder_knows, nobody_holds, only_place}

-- the list, by its first element and the rest
pub first_back : {T : Type 0} (cs ds : List (ℕ × T)) (x : ℕ × T) → cs ≡ x ∷ ds → cs ≡ x ∷ rest cs
first_back {T} cs ds x e = e ∙ ap (λ (r : List (ℕ × T)). x ∷ r) (sym (ap rest e))

module _ {E A O C X : Type 0} (setting_of : X → C) (legal : C → List (Entry E A O) → Type 0) (stands : X → List (Entry E A O) → Type 0) (c : C) where
  abbrev pub Rule : State (Content X E A O) (View E A O C) → Type 0
  Rule = Kept setting_of legal stands c

  -- the seat has a new view and an act that keep the rule, where the words were these
  abbrev pub Lands : State (Content X E A O) (View E A O C) → ℕ → Me (Content X E A O) (View E A O C) → ℕ → (ℕ → ℕ)
      → (ℕ → Me (Content X E A O) (View E A O C) → Type 0) → List ℕ → Type 0
  Lands s id me i f then words = (w : View E A O C) × (a : Act (Content X E A O)) × Valid s.homes me.1 a
      × Rule (record { words = set words i (f (get_or words i 0)); homes = homes_after s.homes me.1 a; views = set s.views id w })
      × then (get_or words i 0) (w, carried_after me.1 a)

  module _ (s : State (Content X E A O) (View E A O C)) (id : ℕ) (me : Me (Content X E A O) (View E A O C)) (idle : me.0.turn ≡ false)
      (live : me.0.spent ≡ false) (k : Rule s) (at : get_elem? s.views id ≡ some me.0) where
    takes_free : IsFree setting_of stands c k.log s → Lands s id me 0 (λ n. either (n == 0) 1 n) (Tries setting_of stands me) (0 ∷ length k.log ∷ [])
    takes_free free =
        let v : View E A O C = me.0 in
        let w : View E A O C = taking v k.log in
        let g : IsGood legal c k.log k.count v = k.views.good id v at live in (
          w,
          takes 0 (Home free.value),
          ap (λ hs. get_elem? hs 0) free.home,
          record {
            log = k.log;
            count = k.count;
            turn = 1;
            words = refl;
            fits = k.fits;
            lawful = k.lawful;
            views = moves_alone legal c k.log k.count s.views id v w k.views at
                (λ _. record {
                  setting = g.setting;
                  begins = g.begins;
                  lawful = g.lawful;
                  in_log = g.in_log;
                  in_seen = g.in_seen;
                  made = g.made;
                  heard = g.heard;
                })
                (λ n. refl) (λ n h. h) (λ n h. h);
            held = inr (refl, busy_begins k.log s.views id v w free.nobody at refl refl);
          },
          record {
            free = λ _. record {
              value = free.value;
              whole = k.log;
              view = refl;
              slots = refl;
              setting = g.setting ∙ ap Some (sym free.setting);
              stands_for = free.stands_for;
              begins = g.begins;
              fits = k.fits;
            };
            busy = λ ne. absurd (ne refl);
          },
        )

    meets : IsBusy k.log s.views → Lands s id me 0 (λ n. either (n == 0) 1 n) (Tries setting_of stands me) (1 ∷ length k.log ∷ [])
    meets busy =
        let v : View E A O C = me.0 in
        let w : View E A O C = meeting v in
        let g : IsGood legal c k.log k.count v = k.views.good id v at live in (
          w,
          keeps,
          tt,
          record {
            log = k.log;
            count = k.count;
            turn = 1;
            words = refl;
            fits = k.fits;
            lawful = k.lawful;
            views = moves_alone legal c k.log k.count s.views id v w k.views at
                (λ _. record {
                  setting = g.setting;
                  begins = g.begins;
                  lawful = g.lawful;
                  in_log = g.in_log;
                  in_seen = g.in_seen;
                  made = g.made;
                  heard = g.heard;
                })
                (λ n. refl) (λ n h. h) (λ n h. h);
            held = inr (refl, busy_stays k.log k.log s.views id v w busy at idle idle);
          },
          record { free = λ (e : 1 ≡ 0). absurd (omega arith); busy = λ _. refl },
        )

  pub tries : (slots id : ℕ) (me : Me (Content X E A O) (View E A O C)) → me.0.turn ≡ false → me.0.spent ≡ false
      → Allows Rule slots id me 0 (λ n. either (n == 0) 1 n) (Tries setting_of stands me)
  tries slots id me idle live s k long at small =
      subst (Lands s id me 0 (λ n. either (n == 0) 1 n) (Tries setting_of stands me)) (sym k.words)
      (⊎_elim
      (λ (t : (k.turn ≡ 0) × IsFree setting_of stands c k.log s).
      subst (λ (n : ℕ). Lands s id me 0 (λ n. either (n == 0) 1 n) (Tries setting_of stands me) (n ∷ length k.log ∷ [])) (sym t.0)
      (takes_free s id me idle live k at t.1))
      (λ (t : (k.turn ≡ 1) × IsBusy k.log s.views).
      subst (λ (n : ℕ). Lands s id me 0 (λ n. either (n == 0) 1 n) (Tries setting_of stands me) (n ∷ length k.log ∷ [])) (sym t.0)
      (meets s id me idle live k at t.1))
      k.held)

  -- who holds the turn finds it held
  pub is_held : (s : State (Content X E A O) (View E A O C)) (k : Rule s) (id : ℕ) (v : View E A O C) → get_elem? s.views id ≡ some v → v.turn ≡ true
      → (k.turn ≡ 1) × IsBusy k.log s.views
  is_held s k id v at holds = ⊎_elim
      (λ (t : (k.turn ≡ 0) × IsFree setting_of stands c k.log s). both_ways v.turn holds (t.1.nobody id v at))
      (λ (t : (k.turn ≡ 1) × IsBusy k.log s.views). t)
      k.held

  module _ (id : ℕ) (v : View E A O C) (value : X) (holds : v.turn ≡ true) (live : v.spent ≡ false) (setting : v.setting ≡ Some (setting_of value))
      (stands_for : stands value v.whole) where
    gives_up : (slots : ℕ) → slots ≡ 1 → Allows Rule slots id (v, (0, Home value) ∷ []) 0 (λ _. 0) (λ _. Gives legal (v, (0, Home value) ∷ []))
    gives_up slots one s k long at small =
        let w : View E A O C = resting v in
        let g : IsGood legal c k.log k.count v = k.views.good id v at live in
        let h = is_held s k id v at holds in
        let is : c ≡ setting_of value = cc (g.setting) in
        let views : AreViews legal c k.log k.count (set s.views id w) = moves_alone legal c k.log k.count s.views id v w k.views at
        (λ _. record { setting = g.setting; begins = g.begins; lawful = g.lawful; in_log = g.in_log; in_seen = g.in_seen; made = g.made; heard = g.heard })
        (λ n. refl) (λ n h. h) (λ n h. h) in
        let sounds = sound legal c k.log k.count (set s.views id w) views id w (set_there s.views id v w at) live k.fits in
        let there = subst (λ (l : List (Entry E A O)). stands value l) (holder_knows k.log k.log s.views id v w h.1 at holds) stands_for in
        subst (Lands s id (v, (0, Home value) ∷ []) 0 (λ _. 0) (λ _. Gives legal (v, (0, Home value) ∷ []))) (sym k.words) (
          w,
          gives,
          tt,
          record {
            log = k.log;
            count = k.count;
            turn = 0;
            words = refl;
            fits = k.fits;
            lawful = k.lawful;
            views = views;
            held = inl (
              refl,
              record {
                value = value;
                home = only_place s.homes (some (Home value)) (long ∙ one);
                setting = sym is;
                stands_for = there;
                nobody = nobody_holds k.log k.log s.views id v w h.1 at holds refl;
              },
            );
          },
          record { view = refl; sound = sounds },
        )

  pub gives_as : (slots id : ℕ) (me : Me (Content X E A O) (View E A O C)) (value : X) → slots ≡ 1 → me.0.turn ≡ true → me.0.spent ≡ false
      → me.0.setting ≡ Some (setting_of value) → stands value me.0.whole → me.1 ≡ (0, Home value) ∷ []
      → Allows Rule slots id me 0 (λ _. 0) (λ _. Gives legal me)
  gives_as slots id me value one holds live setting stands_for is =
      subst (λ (cs : List (ℕ × Content X E A O)). Allows Rule slots id (me.0, cs) 0 (λ _. 0) (λ _. Gives legal (me.0, cs))) (sym is)
      (gives_up id me.0 value holds live setting stands_for slots one)

  -- the same after the served value was put into the slot
  pub gives_back : (slots id : ℕ) (old me : Me (Content X E A O) (View E A O C)) (value : X) → slots ≡ 1 → IsHolding old
      → IsServed setting_of stands old.0 value → me ≡ (old.0, (0, Home value) ∷ rest old.1)
      → Allows Rule slots id me 0 (λ _. 0) (λ _. Gives legal me)
  gives_back slots id old me value one h served is =
      let cs : rest old.1 ≡ [] = ap rest h.slots in
      subst (λ (m : Me (Content X E A O) (View E A O C)). Allows Rule slots id m 0 (λ _. 0) (λ _. Gives legal m)) (sym is)
      (gives_as slots id (old.0, (0, Home value) ∷ rest old.1) value one h.turn h.live served.setting served.stands_for
      (ap (λ (r : List (ℕ × Content X E A O)). (0, Home value) ∷ r) cs))
