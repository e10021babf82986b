-- The effect of each step.
use Rattle.std.specs.Prelude.{◌≡◌, ◌≢◌, ℕ, ◌+◌, ◌^◌, ◌<◌, true, false, List, [], ◌∷◌, ◌++◌, length, Some, nat_le, if◌then◌else◌}
use Rattle.atomic_table.specs.Table.{Me, rest}
use Rattle.satip_base.specs.declared.entry.Entry.{Entry}
use Rattle.satip_base.specs.Lists.{Each, Has, Begins}
use Rattle.satip_base.specs.History.{entry, own_of}
use Rattle.satip_turn.specs.declared.view.Row.{Row}
use Rattle.satip_turn.specs.declared.view.View.{View}
use Rattle.satip_turn.specs.declared.view.Content.{Content}
use Rattle.satip_turn.specs.declared.view.Content.TheVariants.{Away, Home, Said}
use Rattle.satip_turn.specs.Views.{row, numbers_of, held}
use Rattle.satip_turn.specs.Faithful.{IsSound}

-- the view after the turn was found taken
abbrev pub meeting : {E A O C : Type 0} → View E A O C → View E A O C
meeting v = record v { met = v.met + 1 }

-- the view with the turn, when this is the whole history
abbrev pub taking : {E A O C : Type 0} → View E A O C → List (Entry E A O) → View E A O C
taking v whole = record v { turn = true; whole = whole }

-- the view after a look at the whole history
abbrev pub looking : {E A O C : Type 0} → View E A O C → View E A O C
looking v = record v { seen = v.whole; looked = v.whole; looks = v.looks + 1 }

-- the view after a commit of the entry
abbrev pub committed : {E A O C : Type 0} → View E A O C → Entry E A O → View E A O C
committed v e = record v { seen = v.seen ++ e ∷ []; whole = v.whole ++ e ∷ []; own = v.own ++ e ∷ [] }

-- the view after the content of the slot was committed
abbrev pub committed_by : {E A O C X : Type 0} → View E A O C → Content X E A O → View E A O C
committed_by v (Said e a o) = committed v (entry v.number e.value a.value o.value)
committed_by v Away = v
committed_by v (Home x) = v

-- the view after the content of the seat's slot was committed
abbrev pub spoken : {E A O C X : Type 0} → View E A O C → List (ℕ × Content X E A O) → View E A O C
spoken v [] = v
spoken v (x ∷ xs) = committed_by v x.1

-- the view without the turn
abbrev pub resting : {E A O C : Type 0} → View E A O C → View E A O C
resting v = record v { turn = false }

-- the view after a number was drawn
abbrev pub drawing : {E A O C : Type 0} → View E A O C → ℕ → View E A O C
drawing v n = record v { made = v.made ++ n ∷ []; drawn = row n [] ∷ [] }

-- the view after the number was given to a new seat
abbrev pub parting : {E A O C : Type 0} → View E A O C → View E A O C
parting v = record v { drawn = [] }

-- the number of the first row
abbrev pub first_number : {E A O : Type 0} → List (Row E A O) → ℕ
first_number [] = 0
first_number (r ∷ rs) = r.number

-- the view of the new seat
abbrev pub newcomer : {E A O C : Type 0} → View E A O C → View E A O C
newcomer v = record {
  spent = false;
  turn = false;
  setting = v.setting;
  number = first_number v.drawn;
  seen = v.seen;
  whole = v.whole;
  own = [];
  kept = [];
  made = [];
  drawn = [];
  heard = [];
  met = 0;
  looks = 0;
  looked = [];
}

-- the longer of two lists; the first if they have the same length
abbrev pub longer : {T : Type 0} → List T → List T → List T
longer xs ys = if nat_le (length ys) (length xs) then xs else ys

-- the view after a seat with the view w was joined into it
abbrev pub joining : {E A O C : Type 0} → View E A O C → View E A O C → View E A O C
joining v w = record v { seen = longer v.seen w.seen; kept = v.kept ++ held w; made = v.made ++ w.made; heard = v.seen ∷ w.seen ∷ [] }

-- the view after it learned that both lists are prefixes of what it has seen
abbrev pub heeding : {E A O C : Type 0} → View E A O C → View E A O C
heeding v = record v { heard = [] }

-- the turn was free and is taken, and the served value is with the seat
pub record Takes {E A O C X : Type 0} (setting_of : X → C) (stands : X → List (Entry E A O) → Type 0) (me me' : Me (Content X E A O) (View E A O C)) : Type 0 where
  pub value : X
  pub whole : List (Entry E A O)
  pub view : me'.0 ≡ taking me.0 whole
  pub slots : me'.1 ≡ (0, Home value) ∷ me.1
  pub setting : me.0.setting ≡ Some (setting_of value)
  pub stands_for : stands value whole
  pub begins : Begins me.0.seen whole
  pub fits : length whole < 2 ^ 64

-- a try to take the turn: the turn was free, or it was found taken
pub record Tries {E A O C X : Type 0} (setting_of : X → C) (stands : X → List (Entry E A O) → Type 0) (me : Me (Content X E A O) (View E A O C)) (found : ℕ) (me' : Me (Content X E A O) (View E A O C)) : Type 0 where
  pub free : found ≡ 0 → Takes setting_of stands me me'
  pub busy : found ≢ 0 → me' ≡ (meeting me.0, me.1)

-- the length of the whole history was read, and the history counts as seen
pub record Looks {E A O C X : Type 0} (me : Me (Content X E A O) (View E A O C)) (found : ℕ) (me' : Me (Content X E A O) (View E A O C)) : Type 0 where
  pub view : me' ≡ (looking me.0, me.1)
  pub length_is : found ≡ length me.0.whole

-- the turn was given up
pub record Gives {E A O C X : Type 0} (legal : C → List (Entry E A O) → Type 0) (me me' : Me (Content X E A O) (View E A O C)) : Type 0 where
  pub view : me' ≡ (resting me.0, rest me.1)
  pub sound : IsSound legal (resting me.0)

-- a number was drawn that this seat doesn't hold, hasn't given away, and has seen no entry of
pub record Draws {E A O C X : Type 0} (legal : C → List (Entry E A O) → Type 0) (me me' : Me (Content X E A O) (View E A O C)) : Type 0 where
  pub number : ℕ
  pub view : me' ≡ (drawing me.0 number, me.1)
  pub positive : 0 < number
  pub not_held : ¬ (Has number (numbers_of (held me.0)))
  pub not_made : ¬ (Has number me.0.made)
  pub not_seen : own_of number me.0.seen ≡ []
  pub sound : IsSound legal (drawing me.0 number)

-- both lists that were joined are prefixes of what was seen
pub record Hears {E A O C X : Type 0} (legal : C → List (Entry E A O) → Type 0) (me me' : Me (Content X E A O) (View E A O C)) : Type 0 where
  pub view : me' ≡ (heeding me.0, me.1)
  pub heard : Each (λ h. Begins h me.0.seen) me.0.heard
  pub sound : IsSound legal (heeding me.0)
