-- Views that are sound by themselves.
use Rattle.std.proofs.Common.{◌≡◌, List, [], length, refl, lit<, sym, subst}
use Rattle.atomic_table.specs.Table.{Me}
use Rattle.satip_base.specs.declared.entry.Entry.{Entry}
use Rattle.satip_turn.specs.declared.view.View.{View}
use Rattle.satip_turn.specs.declared.view.Content.{Content}
use Rattle.satip_turn.specs.Views.{opening_view}
use Rattle.satip_turn.specs.Faithful.{IsSound}
use Rattle.satip_turn.specs.Seats.{IsResting}

module _ {E A O C : Type 0} (legal : C → List (Entry E A O) → Type 0) (c : C) (lawful : legal c []) where
  first_sound : IsSound legal (opening_view {E = E} {A = A} {O = O} c)
  first_sound = record {
    of = c;
    setting = refl;
    faithful = record {
      lawful = lawful;
      short = lit< tt;
      own_is = refl;
      kept_are = tt;
      apart = ((λ none. none), tt);
      covered = λ zero_is joined. tt;
    };
  }

  pub first_rests : {X : Type 0} (me : Me (Content X E A O) (View E A O C)) → me ≡ (opening_view c, []) → IsResting legal me × (0 ≡ length me.0.seen)
  first_rests {X} me is = subst (λ (m : Me (Content X E A O) (View E A O C)). IsResting legal m × (0 ≡ length m.0.seen)) (sym is)
      (record { idle = record { slots = refl; turn = refl; live = refl }; drawn = refl; sound = first_sound }, refl)
