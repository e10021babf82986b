-- The effects of calls on a seat.
use Rattle.std.specs.Prelude.{◌≡◌, ℕ, ◌^◌, ◌<◌, ◌≤◌, true, false, List, [], ◌∷◌, ◌++◌, length, Some}
use Rattle.atomic_table.specs.Table.{Me}
use Rattle.atomic_table.specs.Seated.{TableId}
use Rattle.satip_base.specs.declared.entry.Entry.{Entry}
use Rattle.satip_base.specs.declared.entry.Taken.{Taken}
use Rattle.satip_base.specs.Lists.{Has, Begins}
use Rattle.satip_base.specs.History.{own_of, entries}
use Rattle.satip_turn.specs.declared.view.View.{View}
use Rattle.satip_turn.specs.declared.view.Content.{Content}
use Rattle.satip_turn.specs.declared.view.Content.TheVariants.{Away}
use Rattle.satip_turn.specs.Views.{held, numbers_of}
use Rattle.satip_turn.specs.Faithful.{IsSound}
use Rattle.satip_turn.specs.Steps.{taking, looking, committed, resting, drawing, parting, newcomer}

-- the table of a cell: two words and one slot
pub record IsTurnTable (z : TableId) : Type 0 where
  pub words : z.words ≡ 2
  pub slots : z.slots ≡ 1

-- the seat holds no slot and no turn, and was joined into no other
pub record IsIdle {E A O C X : Type 0} (me : Me (Content X E A O) (View E A O C)) : Type 0 where
  pub slots : me.1 ≡ []
  pub turn : me.0.turn ≡ false
  pub live : me.0.spent ≡ false

-- the seat holds the turn and the slot, and the served value is out of the slot
pub record IsHolding {E A O C X : Type 0} (me : Me (Content X E A O) (View E A O C)) : Type 0 where
  pub slots : me.1 ≡ (0, Away) ∷ []
  pub turn : me.0.turn ≡ true
  pub live : me.0.spent ≡ false

-- the value has the seat's setting, and stands for the whole history
pub record IsServed {E A O C X : Type 0} (setting_of : X → C) (stands : X → List (Entry E A O) → Type 0) (v : View E A O C) (value : X) : Type 0 where
  pub setting : v.setting ≡ Some (setting_of value)
  pub stands_for : stands value v.whole

-- the turn was taken, when this was the whole history
pub record TakesTurn {E A O C X Y : Type 0} (setting_of : X → C) (stands : X → List (Entry E A O) → Type 0) (me me' : Me (Content Y E A O) (View E A O C)) (value : X) : Type 0 where
  pub whole : List (Entry E A O)
  pub view : me'.0 ≡ taking me.0 whole
  pub slots : me'.1 ≡ (0, Away) ∷ []
  pub served : IsServed setting_of stands me'.0 value
  pub begins : Begins me.0.seen whole
  pub fits : length whole < 2 ^ 64

-- the turn was taken, after tries that found it taken
pub record WaitsTurn {E A O C X Y : Type 0} (setting_of : X → C) (stands : X → List (Entry E A O) → Type 0) (me me' : Me (Content Y E A O) (View E A O C)) (value : X) : Type 0 where
  pub met : ℕ
  pub rises : me.0.met ≤ met
  pub takes : TakesTurn setting_of stands (record me.0 { met = met }, []) me' value

-- tries found the turn taken, and nothing else changed
pub record IsWaiting {E A O C X : Type 0} (me me' : Me (Content X E A O) (View E A O C)) : Type 0 where
  pub met : ℕ
  pub rises : me.0.met ≤ met
  pub is : me' ≡ (record me.0 { met = met }, [])

-- the seat is between two calls, and its view is sound
pub record IsResting {E A O C X : Type 0} (legal : C → List (Entry E A O) → Type 0) (me : Me (Content X E A O) (View E A O C)) : Type 0 where
  pub idle : IsIdle me
  pub drawn : me.0.drawn ≡ []
  pub sound : IsSound legal me.0

-- the view after a turn that added this entry
abbrev pub after_entry : {E A O C : Type 0} → View E A O C → Entry E A O → View E A O C
after_entry v e = resting (committed (looking v) e)

-- a number was given to a new seat; this seat didn't hold it, hadn't given it away, and had seen no entry of it
pub record Parts {E A O C X : Type 0} (legal : C → List (Entry E A O) → Type 0) (me me' new : Me (Content X E A O) (View E A O C)) : Type 0 where
  pub number : ℕ
  pub old : me' ≡ (parting (drawing me.0 number), [])
  pub young : new ≡ (newcomer (drawing me.0 number), [])
  pub positive : 0 < number
  pub not_held : ¬ (Has number (numbers_of (held me.0)))
  pub not_made : ¬ (Has number me.0.made)
  pub not_seen : own_of number me.0.seen ≡ []
  pub rests : IsResting legal me'
  pub rests_too : IsResting legal new

-- the view with these entries added
abbrev pub extended : {E A O C : Type 0} → View E A O C → List (Entry E A O) → View E A O C
extended v es = record v { seen = v.seen ++ es; whole = v.whole ++ es; own = v.own ++ es }

-- a burst under way: since its look it has added `made` entries, which are those that the feed took
pub record IsUnderWay {E A O C X Y : Type 0} (setting_of : X → C) (stands : X → List (Entry E A O) → Type 0) (has_taken : List (Taken E A O) → Type 0) (v : View E A O C) (made : ℕ) (me : Me (Content Y E A O) (View E A O C)) (value : X) (place : ℕ) : Type 0 where
  pub taken : List (Taken E A O)
  pub count : length taken ≡ made
  pub has : has_taken taken
  pub seat : me ≡ (extended v (entries v.number taken), (0, Away) ∷ [])
  pub served : IsServed setting_of stands me.0 value
  pub place_is : place ≡ length me.0.whole
