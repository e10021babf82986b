-- The front end that a stream gets.
use Rattle.std.specs.Prelude.{ℕ, ◌&&◌, ◌||◌, not, Bool, true, false, List, [], ◌∷◌, Option, None, Some, find, filter}
use Rattle.std.specs.List.{list_all}
use Rattle.std.specs.Option.{option_map}
use Rattle.satip_tune.specs.Frontends.{fits_of}
use Rattle.satip_tune.specs.declared.frontends.Front.{Front}
use Rattle.satip_tune.specs.declared.tunings.Tuning.{Tuning}
use Rattle.satip_fronts.specs.declared.choice.Place.{Place}
use Rattle.satip_fronts.specs.declared.choice.Case.{Case}
use Rattle.satip_fronts.specs.declared.choice.Case.TheVariants.{Keep, Share, Retune, Start}
use Rattle.satip_fronts.specs.Rows.{is_at}

-- the data that the choice of a front end for a stream depends on
pub record Outlook : Type 0 where
  -- the front ends, in the order of their numbers
  pub fronts : List Front
  -- the multiplex of the front end of this number, if it has one
  pub mux_at : ℕ → Option ℕ
  -- the front end of this stream, if it has one
  pub own : Option ℕ
  -- whether the front end of this number serves another stream
  pub shared : ℕ → Bool

-- whether a front end with the multiplex `has` is tuned to the wanted one
abbrev pub is_tuned_to : Option ℕ → Option ℕ → Bool
is_tuned_to None has = false
is_tuned_to (Some wanted) has = is_at wanted has

-- whether the front end is tuned to the wanted multiplex
abbrev pub is_tuned : Outlook → Option ℕ → Front → Bool
is_tuned o wanted front = is_tuned_to wanted (o.mux_at front.number)

-- whether the front end is the stream's own
abbrev pub is_own : Outlook → Front → Bool
is_own o front = is_at front.number o.own

-- whether a front end that fits may be taken in this case; `own` is whether the stream is at it, `tuned` whether it is tuned to the wanted multiplex, `shared`
-- whether it serves another stream
abbrev pub may_take_if : Case → Bool → Bool → Bool → Bool
may_take_if Keep own tuned shared = own && tuned
may_take_if Share own tuned shared = tuned
may_take_if Retune own tuned shared = own && not shared
may_take_if Start own tuned shared = not own && not shared

-- whether this front end, if it fits, may be taken in this case
unfoldable pub may_take : Case → Outlook → Option ℕ → Front → Bool
may_take case o wanted front = may_take_if case (is_own o front) (is_tuned o wanted front) (o.shared front.number)

-- whether the front end fits and may be taken in this case
abbrev pub suits : Case → Outlook → Option ℕ → Tuning → Front → Bool
suits case o wanted tuning front = fits_of front tuning && may_take case o wanted front

-- the least front end that fits and may be taken in this case
unfoldable pub least : Case → Outlook → Option ℕ → Tuning → Option ℕ
least case o wanted tuning = option_map (λ (front : Front). front.number) (find (suits case o wanted tuning) o.fronts)

-- the place at the front end of this number, if there is one
unfoldable pub placed : Bool → Option ℕ → Option Place
placed anew number = option_map (λ front. record { front = front; anew = anew }) number

-- the first place that isn't None
abbrev pub first_placed : List (Option Place) → Option Place
first_placed [] = None
first_placed (None ∷ places) = first_placed places
first_placed (Some place ∷ places) = Some place

-- the place of a stream that wants a multiplex with this tuning: it keeps its front end, shares one, retunes its own, or tunes a free one
unfoldable pub choose : Outlook → Option ℕ → Tuning → Option Place
choose o wanted tuning = first_placed
    (placed false (least Keep o wanted tuning)
    ∷ placed false (least Share o wanted tuning)
    ∷ placed true (least Retune o wanted tuning)
    ∷ placed true (least Start o wanted tuning)
    ∷ [])

-- the front ends that fit
abbrev pub fitting : Outlook → Tuning → List Front
fitting o tuning = filter (λ front. fits_of front tuning) o.fronts

-- whether the front end serves another stream and isn't tuned to the wanted multiplex
abbrev pub is_occupied : Outlook → Option ℕ → Front → Bool
is_occupied o wanted front = o.shared front.number && not (is_tuned o wanted front)

-- whether a list is empty
abbrev pub is_empty : {A : Type 0} → List A → Bool
is_empty [] = true
is_empty (_ ∷ _) = false

-- whether no front end is available: none fits, or each that fits is occupied
unfoldable pub blocked : Outlook → Option ℕ → Tuning → Bool
blocked o wanted tuning = is_empty (fitting o tuning) || list_all (is_occupied o wanted) (fitting o tuning)
