-- The entries of a run are a legal history.
use Rattle.std.proofs.Common.{arith, ℕ, ◌<◌, ◌^◌, List, [], ◌∷◌, map, refl}
use Rattle.std.proofs.lemmas.List.Elements.{All-cons, All-nil}
use Rattle.satip_base.specs.Lists.{Each}
use Rattle.satip_plain.specs.declared.events.Event.{Event}
use Rattle.satip_plain.specs.State.{State}
use Rattle.satip_plain.specs.Steps.{step}
use Rattle.satip_plain.specs.Values.{AreBytes, IsEvent, IsServable, IsSetting}
use Rattle.satip_plain.specs.Histories.{LegalFrom, opening}
use Rattle.satip_plain.specs.Examples.{config, run_from, entry_of}
use Rattle.satip_laws.specs.Rows.{setting, RunsAreLegal}

legal_from : (es : List Event) (st : State) → LegalFrom config st (map entry_of (run_from st es))
legal_from [] st = tt
legal_from (e ∷ es) st = (record { answer = refl; reply = refl; datagrams = refl }, legal_from es (step config st e).state)

events_from : (es : List Event) (st : State) → Each IsEvent es → Each (λ e. IsEvent e.event) (map entry_of (run_from st es))
events_from [] st each = tt
events_from (e ∷ es) st each = (each.0, events_from es (step config st e).state each.1)

byte_first : (byte : ℕ) (bytes : List ℕ) → byte < 2 ^ 8 → AreBytes bytes → AreBytes (byte ∷ bytes)
byte_first byte bytes = All-cons (λ (b : ℕ). b < 2 ^ 8) byte bytes

-- a name of four characters
name : (a b c d : ℕ) → a < 2 ^ 8 → b < 2 ^ 8 → c < 2 ^ 8 → d < 2 ^ 8 → AreBytes (a ∷ b ∷ c ∷ d ∷ [])
name a b c d k l m n =
    byte_first a (b ∷ c ∷ d ∷ []) k (byte_first b (c ∷ d ∷ []) l (byte_first c (d ∷ []) m (byte_first d [] n (All-nil (λ (x : ℕ). x < 2 ^ 8)))))

is_servable : IsServable config
is_servable = record { numbered = refl; few = omega arith; muxes = omega arith }

is_setting : IsSetting setting
is_setting = record {
  start = omega arith;
  address = omega arith;
  rtsp_port = omega arith;
  http_port = omega arith;
  timeout = omega arith;
  workers = omega arith;
  fronts = (record { number = omega arith; sources = refl; systems = refl }, (record { number = omega arith; sources = refl; systems = refl }, tt));
  muxes = (record { src = omega arith; freq = omega arith; sr = omega arith }, (record { src = omega arith; freq = omega arith; sr = omega arith }, tt));
  files = (
    name 97 46 116 115 (omega arith) (omega arith) (omega arith) (omega arith),
    (name 98 46 116 115 (omega arith) (omega arith) (omega arith) (omega arith), tt),
  );
}

pub runs_are_legal : RunsAreLegal
runs_are_legal es each = record {
  servable = is_servable;
  setting = is_setting;
  events = events_from es (opening setting) each;
  entries = legal_from es (opening setting);
}
