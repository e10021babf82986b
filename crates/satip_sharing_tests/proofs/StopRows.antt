-- Which small histories have one stop, and why the others don't.
use Rattle.std.proofs.Common.{◌≡◌, ◌++◌, ℕ, List, [], ◌∷◌, refl, sym, subst}
use Rattle.satip_base.specs.History.{own_of}
use Rattle.satip_plain.specs.declared.answers.Beat.TheVariants.{Going, Stopping}
use Rattle.satip_plain.specs.declared.events.Event.TheVariants.{Close, Stop, Tick}
use Rattle.satip_plain.specs.Histories.{Item}
use Rattle.satip_plain.specs.Types.{SessionId}
use Rattle.satip_sharing_tests.specs.Examples.{busy_worker, close_by, stop_by, stopped_well, tick_by}
use Rattle.satip_serve.specs.ServeRuns.{StopsOnce}

pub one_is_not_none : {T : Type 0} (x : T) (xs : List T) → x ∷ xs ≡ [] → ⊥
one_is_not_none x xs e = cc

pub two_are_not_one : {T : Type 0} (x y z : T) → x ∷ y ∷ [] ≡ z ∷ [] → ⊥
two_are_not_one x y z e = cc

the_only : {T : Type 0} (x y : T) → x ∷ [] ≡ y ∷ [] → y ≡ x
the_only x y e = cc

tick_is_no_stop : (now : ℕ) → Tick now ≡ Stop → ⊥
tick_is_no_stop now e = cc

close_is_no_stop : (session : SessionId) → Close session ≡ Stop → ⊥
close_is_no_stop session e = cc

-- of two entries of which the second is no stop, the second is behind the stop
behind_first : (before after : List Item) (x y z : Item) → x ∷ y ∷ [] ≡ before ++ z ∷ after → z.event ≡ Stop → (y.event ≡ Stop → ⊥) → after ≡ y ∷ []
behind_first [] after x y z are stop other = cc
behind_first (b ∷ []) after x y z are stop other =
    let same : z ≡ y = cc in
    absurd (other (subst (λ (i : Item). i.event ≡ Stop) same stop))
behind_first (b ∷ c ∷ []) after x y z are stop other = cc
behind_first (b ∷ c ∷ d ∷ ds) after x y z are stop other = cc

pub stops_once : StopsOnce stopped_well busy_worker
stops_once = record {
  before = close_by 1 ∷ tick_by 2 1020 Going ∷ [];
  stop = stop_by 0;
  after = tick_by 2 1040 Stopping ∷ [];
  are = refl;
  event = refl;
  own = refl;
  last = (refl, tt);
}

pub stops_alone : StopsOnce (stop_by 0 ∷ []) []
stops_alone = record { before = []; stop = stop_by 0; after = []; are = refl; event = refl; own = refl; last = tt }

pub never_stops : ¬ (StopsOnce (close_by 1 ∷ tick_by 2 1020 Going ∷ []) busy_worker)
never_stops s = one_is_not_none s.stop [] (sym s.own)

pub stops_twice : ¬ (StopsOnce (stop_by 0 ∷ stop_by 0 ∷ []) [])
stops_twice s = two_are_not_one (stop_by 0) (stop_by 0) s.stop s.own

pub another_stops : ¬ (StopsOnce (stop_by 1 ∷ []) [])
another_stops s = one_is_not_none s.stop [] (sym s.own)

pub ticks_and_stops : ¬ (StopsOnce (tick_by 0 1020 Going ∷ stop_by 0 ∷ []) [])
ticks_and_stops s = two_are_not_one (tick_by 0 1020 Going) (stop_by 0) s.stop s.own

pub ticks_only : ¬ (StopsOnce (tick_by 0 1020 Going ∷ []) [])
ticks_only s =
    let same : s.stop ≡ tick_by 0 1020 Going = the_only (tick_by 0 1020 Going) s.stop s.own in
    tick_is_no_stop 1020 (subst (λ (i : Item). i.event ≡ Stop) same s.event)

pub worker_behind : ¬ (StopsOnce (stop_by 0 ∷ close_by 1 ∷ []) busy_worker)
worker_behind s =
    let rest : s.after ≡ close_by 1 ∷ [] =
    behind_first s.before s.after (stop_by 0) (close_by 1) s.stop s.are s.event (close_is_no_stop (record { count = 1; word = 10 })) in
    one_is_not_none (close_by 1) [] (subst (λ (l : List Item). own_of 1 l ≡ []) rest s.last.0)
