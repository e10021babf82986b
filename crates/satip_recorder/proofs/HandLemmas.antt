-- Items that a catcher hands up, written and told.
use Rattle.std.proofs.Common.{◌≡◌, ◌<◌, false, List, [], ◌∷◌, ◌++◌, None, Some, sym, ap, ◌∙◌, subst, append_assoc, append-nil}
use Rattle.satip_rtp_receiver.specs.declared.item.Item.{Item}
use Rattle.satip_rtp_receiver.specs.Catching.{Catch, next_item, after_item}
use Rattle.satip_rtp_receiver.specs.Runs.{all_items, drained}
use Rattle.satip_recorder.specs.Tapes.{Deck, Taped, TapeFailed}
use Rattle.satip_recorder.proofs.ItemLemmas.{hands_one, hands_none}
use Rattle.satip_recorder.proofs.TapeLemmas.{taped-then, taped-full, tape_fails-after, tape_fails-more}

-- one more item was handed up
pub record StepsOn (a c e : Catch) (item : Item) (so_far : List Item) : Type 0 where
  pub items : all_items a ≡ (so_far ++ item ∷ []) ++ all_items e
  pub rest : drained a ≡ drained e
  pub number : e.next < 65536
  pub finished : e.finished ≡ false

pub steps_on : (a c e : Catch) (item : Item) (so_far : List Item) → next_item c ≡ Some item → e ≡ after_item c → c.next < 65536
    → c.finished ≡ false → all_items a ≡ so_far ++ all_items c → drained a ≡ drained c → StepsOn a c e item so_far
steps_on a c e item so_far is next number unfinished items rest =
    let h = hands_one c item number is in
    subst (λ (x : Catch). StepsOn a c x item so_far) (sym next) (record {
      items = items ∙ ap (λ (t : List Item). so_far ++ t) h.items ∙ sym (append_assoc so_far (item ∷ []) (all_items (after_item c)));
      rest = rest ∙ h.rest;
      number = h.number;
      finished = unfinished;
    })

pub hand-more : (tells tells_lines : Type 0) (o m n : Deck) (so_far : List Item) (item : Item) → Taped tells tells_lines o m so_far
    → Taped tells tells_lines m n (item ∷ []) → Taped tells tells_lines o n (so_far ++ item ∷ [])
hand-more tells tells_lines o m n so_far item first second = taped-then tells tells_lines o m n so_far (item ∷ []) first second

-- no further one can be handed up
pub hand-done : (tells tells_lines : Type 0) (o n : Deck) (a c : Catch) (so_far : List Item) → next_item c ≡ None → c.next < 65536
    → all_items a ≡ so_far ++ all_items c → Taped tells tells_lines o n so_far → Taped tells tells_lines o n (all_items a)
hand-done tells tells_lines o n a c so_far is number items taped =
    let all = items ∙ ap (λ (t : List Item). so_far ++ t) (hands_none c number is).items ∙ append-nil so_far in
    subst (λ (t : List Item). Taped tells tells_lines o n t) (sym all) taped

pub hand-rest : (a c e : Catch) → next_item c ≡ None → e ≡ after_item c → c.next < 65536 → drained a ≡ drained c → e ≡ drained a
hand-rest a c e is next number rest =
    let h = hands_none c number is in
    next ∙ h.after ∙ sym h.rest ∙ sym rest

-- no further bytes are to be written
pub hand-full : (tells tells_lines : Type 0) (o n : Deck) (a c : Catch) (so_far : List Item) → n.tape.left ≡ 0
    → all_items a ≡ so_far ++ all_items c → Taped tells tells_lines o n so_far → Taped tells tells_lines o n (all_items a)
hand-full tells tells_lines o n a c so_far full items taped =
    subst (λ (t : List Item). Taped tells tells_lines o n t) (sym items)
    (taped-then tells tells_lines o n n so_far (all_items c) taped (taped-full tells tells_lines n (all_items c) full))

-- the output failed
pub hand-failed : (tells tells_lines : Type 0) (o m n : Deck) (a c x : Catch) (so_far : List Item) (item : Item) → StepsOn a c x item so_far
    → Taped tells tells_lines o m so_far → TapeFailed tells tells_lines m n (item ∷ []) → TapeFailed tells tells_lines o n (all_items a)
hand-failed tells tells_lines o m n a c x so_far item steps taped failed =
    subst (λ (t : List Item). TapeFailed tells tells_lines o n t) (sym steps.items)
    (tape_fails-more tells tells_lines o n (so_far ++ item ∷ []) (all_items x)
    (tape_fails-after tells tells_lines o m n so_far (item ∷ []) taped failed))
