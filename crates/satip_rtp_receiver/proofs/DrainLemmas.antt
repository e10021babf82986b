-- What a catcher hands up, call by call, over its places.
use Rattle.std.proofs.Common.{◌⊎◌, inl, inr, ◌≡◌, ◌≢◌, ℕ, ◌+◌, ◌-◌, ◌%◌, ◌<◌, ◌≤◌, zero, suc, Bool, true, false, List, [], ◌∷◌, ◌++◌, length, take, drop, Option, None, Some, refl, sym, ap, ◌∙◌, subst, arith}
use Rattle.std.proofs.lemmas.List.{length-drop, drop-drop}
use Rattle.std.specs.Option.{option_to_list}
use Rattle.satip_rtp_receiver.specs.declared.item.Item.{Item}
use Rattle.satip_rtp_receiver.specs.declared.item.Item.TheVariants.{Data, Gap}
use Rattle.satip_rtp_receiver.specs.Caught.{with_item}
use Rattle.satip_rtp_receiver.specs.Catching.{Catch, missing, gap, due, next_item, item_of, after_item, places}
use Rattle.satip_rtp_receiver.specs.Runs.{items_of, after_items}

-- the items of places, the first of which has this number
abbrev pub slot_items : ℕ → List (Option (List ℕ)) → List Item
slot_items next [] = []
slot_items next (slot ∷ slots) = with_item next slot (slot_items ((next + 1) % 65536) slots)

-- how many places are handed up where n needn't be waited for
abbrev pub reach : ℕ → List (Option (List ℕ)) → ℕ
reach n [] = 0
reach zero (Some packets ∷ held) = suc (reach zero held)
reach zero (None ∷ held) = 0
reach (suc n) (slot ∷ held) = suc (reach n held)

-- a gap in front
abbrev pub after_gap : ℕ → ℕ → List Item → List Item
after_gap next zero items = items
after_gap next (suc n) items = Gap next (suc n) ∷ items

abbrev pub reached : ℕ → List (Option (List ℕ)) → List (Option (List ℕ))
reached n held = take (reach n held) held

same-number : (next : ℕ) → next < 65536 → (next + 0) % 65536 ≡ next
same-number next h = omega arith

next-number : (next n : ℕ) → ((next + 1) % 65536 + n) % 65536 ≡ (next + suc n) % 65536
next-number next n = omega arith

-- where nothing is missing in front, what is reached begins with no gap
with_item-none : (next after n : ℕ) (held : List (Option (List ℕ))) → missing n held ≡ 0
    → with_item next None (slot_items after (reached n held)) ≡ Gap next 1 ∷ slot_items after (reached n held)
with_item-none next after zero [] h = refl
with_item-none next after zero (Some packets ∷ held) h = refl
with_item-none next after zero (None ∷ held) h = refl
with_item-none next after (suc n) [] h = refl
with_item-none next after (suc n) (Some packets ∷ held) h = refl
with_item-none next after (suc n) (None ∷ held) h = absurd (omega arith)

with_item-gap : (next after m : ℕ) (items : List Item) → m ≢ 0 → with_item next None (after_gap after m items) ≡ after_gap next (suc m) items
with_item-gap next after zero items h = absurd (h refl)
with_item-gap next after (suc m) items h = ap (λ n. Gap next n ∷ items) (omega arith)

gap-step : (next after n m : ℕ) (held : List (Option (List ℕ))) (items : List Item) → missing n held ≡ m
    → slot_items after (reached n held) ≡ after_gap after m items
    → with_item next None (slot_items after (reached n held)) ≡ after_gap next (suc m) items
gap-step next after n zero held items e same = with_item-none next after n held e ∙ ap (λ t. Gap next 1 ∷ t) same
gap-step next after n (suc m) held items e same =
    ap (λ t. with_item next None t) same ∙ with_item-gap next after (suc m) items (λ zero_is. absurd (omega arith))

-- what follows k places
abbrev from_gap : ℕ → ℕ → List (Option (List ℕ)) → ℕ → List Item
from_gap next n held k = slot_items ((next + k) % 65536) (reached (n - k) (drop k held))

from_gap-next : (next n m : ℕ) (held : List (Option (List ℕ)))
    → from_gap ((next + 1) % 65536) n held m ≡ from_gap next (suc n) (None ∷ held) (suc m)
from_gap-next next n m held =
    let less : suc n - suc m ≡ n - m = omega arith in
    ap (λ a. slot_items a (reached (n - m) (drop m held))) (next-number next m)
    ∙ ap (λ k. slot_items ((next + suc m) % 65536) (reached k (drop m held))) (sym less)

-- the places that are missing in front are one gap
pub gap-front : (next n : ℕ) (held : List (Option (List ℕ))) → next < 65536
    → slot_items next (reached n held) ≡ after_gap next (missing n held) (from_gap next n held (missing n held))
gap-front next zero held h = ap (λ a. slot_items a (reached zero held)) (sym (same-number next h))
gap-front next (suc n) [] h = refl
gap-front next (suc n) (Some packets ∷ held) h =
    let same : suc n ≡ suc n - 0 = omega arith in
    ap (λ a. slot_items a (reached (suc n) (Some packets ∷ held))) (sym (same-number next h))
    ∙ ap (λ k. slot_items ((next + 0) % 65536) (reached k (Some packets ∷ held))) same
gap-front next (suc n) (None ∷ held) h =
    let m = missing n held in
    let more : suc m ≡ m + 1 = omega arith in
    let after : (next + 1) % 65536 < 65536 = omega arith in
    gap-step next ((next + 1) % 65536) n m held (from_gap ((next + 1) % 65536) n held m) refl
    (gap-front ((next + 1) % 65536) n held after)
    ∙ ap (λ t. after_gap next (suc m) t) (from_gap-next next n m held)
    ∙ ap (λ k. after_gap next k (from_gap next (suc n) (None ∷ held) k)) more

-- a catcher that has no item stays
at_rest : (c : Catch) → c.next < 65536 → next_item c ≡ None → after_item c ≡ c
at_rest c h e =
    ap (λ (item : Option Item). record c { next = (c.next + places item) % 65536; held = drop (places item) c.held }) e
    ∙ ap (λ (n : ℕ). record c { next = n }) (same-number c.next h)

pub rest-items : (n : ℕ) (c : Catch) → c.next < 65536 → next_item c ≡ None → items_of n c ≡ []
rest-items zero c h e = refl
rest-items (suc n) c h e =
    ap (λ (item : Option Item). option_to_list item ++ items_of n (after_item c)) e
    ∙ ap (λ d. items_of n d) (at_rest c h e) ∙ rest-items n c h e

pub rest-after : (n : ℕ) (c : Catch) → c.next < 65536 → next_item c ≡ None → after_items n c ≡ c
rest-after zero c h e = refl
rest-after (suc n) c h e = ap (λ d. after_items n d) (at_rest c h e) ∙ rest-after n c h e

-- one item, where n places needn't be waited for
record HandsUp (next n : ℕ) (held : List (Option (List ℕ))) (item : Item) : Type 0 where
  is_next : item_of next n held ≡ Some item
  some : 0 < places (Some item)
  items : slot_items next (reached n held) ≡ item ∷ from_gap next n held (places (Some item))
  reach : reach n held ≡ places (Some item) + reach (n - places (Some item)) (drop (places (Some item)) held)

record Waits (next n : ℕ) (held : List (Option (List ℕ))) : Type 0 where
  is_none : item_of next n held ≡ None
  reach : reach n held ≡ 0

reach-some : (n : ℕ) (packets : List ℕ) (held : List (Option (List ℕ))) → reach n (Some packets ∷ held) ≡ suc (reach (n - 1) held)
reach-some zero packets held = refl
reach-some (suc n) packets held = let less : n ≡ suc n - 1 = omega arith in ap (λ k. suc (reach k held)) less

reach-gap : (n : ℕ) (held : List (Option (List ℕ))) → reach n held ≡ missing n held + reach (n - missing n held) (drop (missing n held) held)
reach-gap zero held = omega arith
reach-gap (suc n) [] = omega arith
reach-gap (suc n) (Some packets ∷ held) =
    let same : suc n - 0 ≡ suc n = omega arith in
    omega (arith, ap (λ k. reach k (Some packets ∷ held)) same)
reach-gap (suc n) (None ∷ held) =
    let m = missing n held in
    let more : m + 1 ≡ suc m = omega arith in
    let less : suc n - suc m ≡ n - m = omega arith in
    omega (arith, reach-gap n held, ap (λ k. reach (suc n - k) (drop k (None ∷ held))) more, ap (λ k. reach k (drop m held)) less)

reach-length : (n : ℕ) (held : List (Option (List ℕ))) → reach n held ≤ length held
reach-length n [] = omega arith
reach-length zero (Some packets ∷ held) = omega (arith, reach-length zero held)
reach-length zero (None ∷ held) = omega arith
reach-length (suc n) (slot ∷ held) = omega (arith, reach-length n held)

gap-some : (next m : ℕ) → gap next (m + 1) ≡ Some (Gap next (m + 1))
gap-some next m = let more : suc m ≡ m + 1 = omega arith in subst (λ k. gap next k ≡ Some (Gap next k)) more refl

gap-list : (next m : ℕ) (items : List Item) → after_gap next (m + 1) items ≡ Gap next (m + 1) ∷ items
gap-list next m items = let more : suc m ≡ m + 1 = omega arith in subst (λ k. after_gap next k items ≡ Gap next k ∷ items) more refl

hands_up : (next n : ℕ) (held : List (Option (List ℕ))) → next < 65536 → Waits next n held ⊎ ((item : Item) × HandsUp next n held item)
hands_up next n [] h = inl record { is_none = refl; reach = refl }
hands_up next n (Some packets ∷ held) h = inr (
  Data next packets,
  record {
    is_next = refl;
    some = omega arith;
    items = ap (λ k. slot_items next (take k (Some packets ∷ held))) (reach-some n packets held);
    reach = reach-some n packets held ∙ omega arith;
  },
)
hands_up next zero (None ∷ held) h = inl record { is_none = refl; reach = refl }
hands_up next (suc n) (None ∷ held) h = inr (
  Gap next (missing n held + 1),
  record {
    is_next = gap-some next (missing n held);
    some = omega arith;
    items = gap-front next (suc n) (None ∷ held) h ∙ gap-list next (missing n held) (from_gap next (suc n) (None ∷ held) (missing n held + 1));
    reach = reach-gap (suc n) (None ∷ held);
  },
)

-- k places were handed up
abbrev pub moved : Catch → ℕ → Catch
moved c k = record c { next = (c.next + k) % 65536; held = drop k c.held }

moved-none : (c : Catch) → c.next < 65536 → c ≡ moved c 0
moved-none c h = ap (λ (n : ℕ). record c { next = n }) (sym (same-number c.next h))

number-more : (next k j : ℕ) → ((next + k) % 65536 + j) % 65536 ≡ (next + (k + j)) % 65536
number-more next k j = omega arith

moved-more : (c : Catch) (k j : ℕ) → moved (moved c k) j ≡ moved c (k + j)
moved-more c k j =
    ap (λ (n : ℕ). record c { next = n; held = drop j (drop k c.held) }) (number-more c.next k j)
    ∙ ap (λ (held : List (Option (List ℕ))). record c { next = (c.next + (k + j)) % 65536; held = held }) (drop-drop j k c.held)

due-drop : (finished : Bool) (k : ℕ) (held : List (Option (List ℕ))) → due finished (drop k held) ≡ due finished held - k
due-drop true k held = length-drop k held
due-drop false k held = omega (arith, length-drop k held)

-- how many places a catcher hands up
abbrev pub ready : Catch → ℕ
ready c = reach (due c.finished c.held) c.held

-- what n calls of `next` hand up, where n is at least the number of places
pub record Drains (n : ℕ) (c : Catch) : Type 0 where
  pub items : items_of n c ≡ slot_items c.next (take (ready c) c.held)
  pub after : after_items n c ≡ moved c (ready c)

drain-rest : (n : ℕ) (c : Catch) → c.next < 65536 → Waits c.next (due c.finished c.held) c.held → Drains n c
drain-rest n c h w = record {
  items = rest-items n c h w.is_none ∙ ap (λ k. slot_items c.next (take k c.held)) (sym w.reach);
  after = rest-after n c h w.is_none ∙ moved-none c h ∙ ap (λ k. moved c k) (sym w.reach);
}

drain-item : (n : ℕ) (c : Catch) (item : Item) → HandsUp c.next (due c.finished c.held) c.held item
    → Drains n (moved c (places (Some item))) → Drains (suc n) c
drain-item n c item s d =
    let k = places (Some item) in
    let step : after_item c ≡ moved c k = ap (λ i. moved c (places i)) s.is_next in
    let left = due-drop c.finished k c.held in
    record {
      items = ap (λ (i : Option Item). option_to_list i ++ items_of n (after_item c)) s.is_next
          ∙ ap (λ e. item ∷ items_of n e) step ∙ ap (λ t. item ∷ t) d.items
          ∙ ap (λ u. item ∷ slot_items ((c.next + k) % 65536) (reached u (drop k c.held))) left
          ∙ sym s.items;
      after = ap (λ e. after_items n e) step ∙ d.after
          ∙ ap (λ u. moved (moved c k) (reach u (drop k c.held))) left
          ∙ moved-more c k (reach (due c.finished c.held - k) (drop k c.held))
          ∙ ap (λ j. moved c j) (sym s.reach);
    }

pub drain : (n : ℕ) (c : Catch) → c.next < 65536 → length c.held ≤ n → Drains n c
drain zero c h l =
    elim (hands_up c.next (due c.finished c.held) c.held h) [
      | inl w ↦ drain-rest zero c h w
      | inr p ↦ absurd (omega (arith, p.1.reach, p.1.some, reach-length (due c.finished c.held) c.held))
    ]
drain (suc n) c h l =
    elim (hands_up c.next (due c.finished c.held) c.held h) [
      | inl w ↦ drain-rest (suc n) c h w
      | inr p ↦
          let k = places (Some p.0) in
          drain-item n c p.0 p.1 (drain n (moved c k) (omega arith) (omega (arith, p.1.some, length-drop k c.held)))
    ]
