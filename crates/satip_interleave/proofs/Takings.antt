-- A lot takes what a burst takes.
use Rattle.std.proofs.Common.{◌≡◌, ◌∙◌, List, [], ◌∷◌, ◌++◌, Option, Some, None, refl, sym, ap, subst, append_assoc}
use Rattle.std.specs.Prelude.{option_map}
use Rattle.satip_base.specs.Output.{Output}
use Rattle.satip_base.specs.declared.entry.Taken.{Taken}
use Rattle.satip_base.specs.History.{taken}
use Rattle.satip_base.specs.Lists.{Each}
use Rattle.satip_base.proofs.Elements.{Each-append, Each-append_left, Each-append_right}
use Rattle.satip_plain.specs.declared.answers.Answer.{Answer}
use Rattle.satip_plain.specs.declared.events.Event.{Event}
use Rattle.satip_interleave.specs.declared.events.TunnelEvent.{TunnelEvent}
use Rattle.satip_interleave.specs.declared.events.TunnelEvent.TheVariants.{Inner}
use Rattle.satip_interleave.specs.declared.events.TunnelAnswer.{TunnelAnswer}
use Rattle.satip_interleave.specs.declared.events.TunnelAnswer.TheVariants.{Inner as InnerAnswer}
use Rattle.satip_interleave.specs.Answers.{IsInner}
use Rattle.satip_interleave.specs.Taking.{IsInnerEvent, TunnelTaken, inner_taken, inners_taken}
use Rattle.satip_interleave.proofs.Calling.{FedFrom}

inners_taken-append : (ts us : List TunnelTaken) → inners_taken (ts ++ us) ≡ inners_taken ts ++ inners_taken us
inners_taken-append [] us = refl
inners_taken-append (t ∷ ts) us =
    ap (λ rest. inner_taken t.event t.answer t.out ++ rest) (inners_taken-append ts us)
    ∙ sym (append_assoc (inner_taken t.event t.answer t.out) (inners_taken ts) (inners_taken us))

-- an event that was given is one of the server
record IsGiven (given : Option Event) (e : TunnelEvent) : Type 0 where
  event : Event
  some : given ≡ Some event
  is : e ≡ Inner event

given_is : (given : Option Event) (e : TunnelEvent) → option_map Inner given ≡ Some e → IsGiven given e
given_is None e is = absurd (cc is)
given_is (Some event) e is = record { event = event; some = refl; is = cc is }

all_events : (ts : List TunnelTaken) (given : Option Event) (e : TunnelEvent) (answer : TunnelAnswer) (out : Output) → IsGiven given e
    → Each (λ (t : TunnelTaken). IsInnerEvent t.event) ts → Each (λ (t : TunnelTaken). IsInnerEvent t.event) (ts ++ taken e answer out ∷ [])
all_events ts given e answer out was events =
    Each-append (λ (t : TunnelTaken). IsInnerEvent t.event) ts (taken e answer out ∷ []) events (subst IsInnerEvent (sym was.is) tt, tt)

-- an answer of the server is told to the lot; no legal history has another
pub fed_more : (same : Type 0) (before after : List (Taken Event Answer Output) → Type 0) (given : Option Event) (answer : TunnelAnswer) (told : Answer)
    (out : Output)
    → (IsInner answer → answer ≡ InnerAnswer told)
    → ((us : List (Taken Event Answer Output)) (event : Event) → given ≡ Some event → before us → after (us ++ taken event told out ∷ []))
    → (ts : List TunnelTaken) (e : TunnelEvent) → option_map Inner given ≡ Some e → FedFrom same before ts
    → FedFrom same after (ts ++ taken e answer out ∷ [])
fed_more same before after given answer told out tells takes ts e is has =
    let was = given_is given e is in
    let t : TunnelTaken = taken e answer out in
    let I : TunnelTaken → Type 0 = λ x. IsInner x.answer in
    let last : IsInner answer → inners_taken (t ∷ []) ≡ taken was.event told out ∷ [] = λ i.
    ap (λ (x : TunnelEvent). inner_taken x answer out ++ []) was.is ∙ ap (λ (a : TunnelAnswer). inner_taken (Inner was.event) a out ++ []) (tells i) in
    let all : IsInner answer → inners_taken ts ++ taken was.event told out ∷ [] ≡ inners_taken (ts ++ t ∷ []) = λ i.
    sym (inners_taken-append ts (t ∷ []) ∙ ap (λ rest. inners_taken ts ++ rest) (last i)) in (
      has.0,
      all_events ts given e answer out was has.1,
      λ answers. subst after (all (Each-append_right I ts (t ∷ []) answers).0)
          (takes (inners_taken ts) was.event was.some (has.2 (Each-append_left I ts (t ∷ []) answers))),
    )
