-- A server stands for a history, and for one more entry after its step.
use Rattle.std.proofs.Common.{◌≡◌, ℕ, ◌+◌, ◌≤◌, List, [], ◌∷◌, ◌++◌, map, length, refl, sym, subst}
use Rattle.std.specs.List.{range_with_len}
use Rattle.satip_base.specs.Output.{Output}
use Rattle.satip_base.specs.History.{entry}
use Rattle.satip_base.proofs.Elements.{Each-append}
use Rattle.satip_fronts.specs.FrontEnds.{IsNumbered}
use Rattle.satip_plain.specs.declared.answers.Answer.{Answer}
use Rattle.satip_plain.specs.declared.events.Event.{Event}
use Rattle.satip_plain.specs.declared.setting.Setting.{Setting}
use Rattle.satip_plain.specs.Types.{Config, Front}
use Rattle.satip_plain.specs.State.{State}
use Rattle.satip_plain.specs.Steps.{step}
use Rattle.satip_plain.specs.Values.{IsEvent, IsSetting}
use Rattle.satip_plain.specs.Histories.{Item, Legal, LegalFrom, after, after_from, opening}
use Rattle.satip_state.specs.Standing.{StandsFor}
use Rattle.satip_core.specs.Held.{Held}
use Rattle.satip_core.specs.Serving.{Stands, StandsAfter, Steps}

after_from-append : (c : Config) (st : State) (h k : List Item) → after_from c st (h ++ k) ≡ after_from c (after_from c st h) k
after_from-append c st [] k = refl
after_from-append c st (e ∷ es) k = after_from-append c (step c st e.event).state es k

legal_from-append : (c : Config) (st : State) (h k : List Item) → LegalFrom c st h → LegalFrom c (after_from c st h) k → LegalFrom c st (h ++ k)
legal_from-append c st [] k a b = b
legal_from-append c st (e ∷ es) k a b = (a.0, legal_from-append c (step c st e.event).state es k a.1 b)

-- one more entry
pub stands_more : (s t : Held) (h : List Item) (n : ℕ) (event : Event) (answer : Answer) (out : Output)
    → IsEvent event → t.setting ≡ s.setting → Steps s event t answer out → StandsAfter s h → StandsAfter t (h ++ entry n event answer out ∷ [])
stands_more s t h n event answer out is same steps stands =
    let e : Item = entry n event answer out in
    let c : Config = s.setting.config in
    let did = steps (after s.setting h) stands.stands in
    let before = stands.lawful in
    let lawful : Legal s.setting (h ++ e ∷ []) = record {
      servable = before.servable;
      setting = before.setting;
      events = Each-append (λ (x : Item). IsEvent x.event) h (e ∷ []) before.events (is, tt);
      entries = legal_from-append c (opening s.setting) h (e ∷ []) before.entries
          (record { answer = did.answer; reply = did.reply; datagrams = did.datagrams }, tt);
    } in
    let P : State → Type 0 = λ st. StandsFor c t.kept st in
    let Q : Setting → Type 0 = λ x. StandsFor x.config t.kept (after x (h ++ e ∷ [])) in
    let R : Setting → Type 0 = λ x. Legal x (h ++ e ∷ []) in
    record {
      lawful = subst R (sym same) lawful;
      stands = subst Q (sym same) (subst P (sym (after_from-append c (opening s.setting) h (e ∷ []))) did.stands);
    }

numbers_from : (from : ℕ) (fronts : List Front) → IsNumbered from fronts → map (λ (f : Front). f.number) fronts ≡ range_with_len from (length fronts)
numbers_from from [] numbered = refl
numbers_from from (front ∷ fronts) numbered =
    let here = numbered.0 in
    let rest = numbers_from (from + 1) fronts numbered.1 in
    λ i. here i ∷ rest i

-- a server that stands for the opening state stands for the empty history
pub stands_first : (s : Held) → length s.setting.config.fronts ≤ 16 → IsNumbered 1 s.setting.config.fronts → length s.setting.config.muxes ≤ 256
    → IsSetting s.setting → Stands s (opening s.setting) → StandsAfter s []
stands_first s few numbered received is stands = record {
  lawful = record {
    servable = record { numbered = numbers_from 1 s.setting.config.fronts numbered; few = few; muxes = received };
    setting = is;
    events = tt;
    entries = tt;
  };
  stands = stands;
}
