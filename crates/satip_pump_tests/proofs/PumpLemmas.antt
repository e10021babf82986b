-- The entries of the one caller of a scripted service.
use Rattle.std.proofs.Common.{◌≡◌, List, [], ◌∷◌, ◌++◌, ap, sym, ◌∙◌, append-nil}
use Rattle.satip_base.specs.Output.{Output}
use Rattle.satip_base.specs.History.{entry}
use Rattle.satip_plain.specs.declared.answers.Answer.{Answer}
use Rattle.satip_plain.specs.declared.events.Event.{Event}
use Rattle.satip_plain.specs.Histories.{Item}
use Rattle.satip_plain.specs.Known.{Adds, AddsNone}
use Rattle.satip_plain.specs.Calls.{Made}
use Rattle.satip_plain.specs.Suits.{Suits}
use Rattle.satip_pump_tests.specs.PumpScripts.{known_of}

pub adds_next : (h i : List Item) (e : Item) → i ≡ h ++ e ∷ [] → Adds (known_of h) (known_of i) e
adds_next h i e is = record {
  between = [];
  seen = is ∙ ap (λ (s : List Item). s ++ e ∷ []) (sym (append-nil h));
  own = is;
}

pub adds_same : (h i : List Item) → i ≡ h → AddsNone (known_of h) (known_of i)
adds_same h i is = record { more = []; seen = is ∙ sym (append-nil h); own = is }

pub made_next : (h i : List Item) (event : Event) (answer : Answer) (out : Output) → i ≡ h ++ entry 0 event answer out ∷ [] → Suits event answer
    → Made (known_of h) (known_of i) event answer out
made_next h i event answer out is suits = record { caller = 0; adds = adds_next h i (entry 0 event answer out) is; suits = suits }
