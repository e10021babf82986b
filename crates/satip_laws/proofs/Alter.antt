-- Readings that say the same are the same.
use Rattle.std.proofs.Common.{◌≡◌, ℕ}
use Rattle.satip_plain.specs.Types.{SessionId}
use Rattle.satip_plain.specs.Readings.{Readings}

pub record SameReadings (a b : Readings) : Type 0 where
  pub clock : a.clock ≡ b.clock
  pub made : a.made ≡ b.made
  pub over : (s : SessionId) → a.over s ≡ b.over s
  pub played : (s : SessionId) → a.played s ≡ b.played s
  pub heard : (s : SessionId) → a.heard s ≡ b.heard s
  pub number : (t : SessionId) → a.number t ≡ b.number t
  pub tuned : (t : SessionId) → a.tuned t ≡ b.tuned t
  pub pids : (t : SessionId) → a.pids t ≡ b.pids t
  pub front : (t : SessionId) → a.front t ≡ b.front t
  pub tune : (f : ℕ) → a.tune f ≡ b.tune f
  pub mux : (f : ℕ) → a.mux f ≡ b.mux f
  pub selected : (s : SessionId) → a.selected s ≡ b.selected s
  pub pulled : (s : SessionId) → a.pulled s ≡ b.pulled s

pub same_readings : (a b : Readings) → SameReadings a b → a ≡ b
same_readings a b e = λ i. record {
  clock = e.clock i;
  made = e.made i;
  over = λ s. e.over s i;
  played = λ s. e.played s i;
  heard = λ s. e.heard s i;
  number = λ t. e.number t i;
  tuned = λ t. e.tuned t i;
  pids = λ t. e.pids t i;
  front = λ t. e.front t i;
  tune = λ f. e.tune f i;
  mux = λ f. e.mux f i;
  selected = λ s. e.selected s i;
  pulled = λ s. e.pulled s i;
}
