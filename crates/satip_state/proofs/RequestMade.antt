-- The parts before the first event.
use Rattle.std.proofs.Common.{◌≡◌, ◌∙◌, ℕ, zero, suc, ◌-◌, ◌<◌, ◌==◌, Bool, true, false, cond, List, [], ◌∷◌, Option, None, Some, map, replicate, slice_get}
use Rattle.std.proofs.Common.{refl, ap, sym, arith}
use Rattle.std.specs.Option.{option_flatten}
use Rattle.satip_tune.specs.declared.frontends.Front.{Front}
use Rattle.satip_table.specs.Living.{Living, none}
use Rattle.satip_fronts.specs.FrontEnds.{FrontEnds, all_free, front_of, new_row}
use Rattle.satip_flow.specs.Subscription.{Subscription}
use Rattle.satip_plain.specs.declared.setting.Setting.{Setting}
use Rattle.satip_plain.specs.Steps.{capped}
use Rattle.satip_plain.specs.Histories.{opening, untuned}
use Rattle.satip_state.specs.Seated.{subscribers}
use Rattle.satip_state.specs.Standing.{StandsFor, row_in, stream_in}

abbrev no_place : Option ℕ
no_place = None

none_due : (n i : ℕ) → i < n → slice_get (replicate n no_place) i ≡ Some None
none_due zero i within = absurd (omega arith)
none_due (suc n) zero within = refl
none_due (suc n) (suc i) within = none_due n i (omega (arith, within))

nowhere : (n i : ℕ) → option_flatten (slice_get (replicate n no_place) i) ≡ None
nowhere zero i = refl
nowhere (suc n) zero = refl
nowhere (suc n) (suc i) = nowhere n i

new_rows : (fronts : List Front) → map row_in (map new_row fronts) ≡ map untuned fronts
unfolding row_in new_row
new_rows [] = refl
new_rows (f ∷ fronts) = ap (λ rows. untuned f ∷ rows) (new_rows fronts)

no_front : (number : ℕ) → front_of (replicate 64 None) number ≡ None
unfolding front_of
no_front number = by (number == 0)
  where
    by : (b : Bool) → cond b no_place (option_flatten (slice_get (replicate 64 no_place) (number - 1))) ≡ no_place
    by true = refl
    by false = nowhere 64 (number - 1)

pub made_stands : (c : Setting) (clock timeout start : ℕ) (table : Living) (dues : List (Option ℕ)) (fronts : FrontEnds) (flow : List Subscription)
    → clock ≡ capped start → c.start ≡ start → c.config.timeout ≡ timeout → table ≡ none → dues ≡ replicate 64 None
    → fronts ≡ all_free c.config.fronts c.config.muxes → flow ≡ []
    → StandsFor c.config (record { clock = clock; stopped = false; timeout = timeout; table = table; dues = dues; fronts = fronts; flow = flow }) (opening c)
unfolding all_free subscribers
made_stands c clock timeout start table dues fronts flow now begun ends empty free unserved quiet = record {
  seated = [];
  clock = now ∙ ap capped (sym begun);
  moment = omega arith;
  stopped = refl;
  timeout = sym ends;
  made = ap (λ (t : Living). t.made) empty;
  seats = ap (λ (t : Living). t.seats) empty;
  sessions = refl;
  each_session = tt;
  streams = ap (λ (t : Living). map stream_in t.streams) empty;
  numbers = tt;
  dues = λ slot below. ap (λ ds. slice_get ds slot) free ∙ none_due 64 slot below;
  front_ends = ap (λ (f : FrontEnds). f.fronts) unserved;
  muxes = ap (λ (f : FrontEnds). f.muxes) unserved;
  rows = ap (λ (f : FrontEnds). map row_in f.rows) unserved ∙ new_rows c.config.fronts;
  places = λ number. ap (λ (f : FrontEnds). front_of f.places number) unserved ∙ no_front number;
  flow = quiet;
}
