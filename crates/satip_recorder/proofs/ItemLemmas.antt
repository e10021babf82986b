-- What a catcher hands up, call by call.
use Rattle.std.proofs.Common.{◌≡◌, ℕ, ◌<◌, zero, suc, Bool, true, false, List, [], ◌∷◌, ◌++◌, length, drop, Option, None, Some, refl, sym, ap, ◌∙◌, arith, length-drop, if◌then◌else◌}
use Rattle.std.specs.Option.{option_to_list}
use Rattle.satip_rtp_receiver.specs.declared.item.Item.{Item}
use Rattle.satip_rtp_receiver.specs.Caught.{Datagram}
use Rattle.satip_rtp_receiver.specs.Catching.{Catch, missing, gap, due, next_item, next_number, item_of, after_item, places, is_caught, place_of, put, taken}
use Rattle.satip_rtp_receiver.specs.Runs.{items_of, all_items, drained}
use Rattle.satip_rtp_receiver.proofs.DrainLemmas.{drain, rest-items, rest-after}

none-some : (item : Item) → None ≡ Some item → ⊥
none-some item e = cc

gap-fewer : (next k : ℕ) (held : List (Option (List ℕ))) (item : Item) → gap next k ≡ Some item
    → length (drop (places (gap next k)) (None ∷ held)) < suc (length held)
gap-fewer next zero held item e = absurd (none-some item e)
gap-fewer next (suc k) held item e = omega (arith, length-drop k held)

item-fewer : (next n : ℕ) (held : List (Option (List ℕ))) (item : Item) → item_of next n held ≡ Some item
    → length (drop (places (item_of next n held)) held) < length held
item-fewer next n [] item e = absurd (none-some item e)
item-fewer next n (Some packets ∷ held) item e = omega arith
item-fewer next n (None ∷ held) item e = gap-fewer next (missing n (None ∷ held)) held item e

-- one item was handed up
pub record HandsOne (c : Catch) (item : Item) : Type 0 where
  pub items : all_items c ≡ item ∷ all_items (after_item c)
  pub rest : drained c ≡ drained (after_item c)
  pub fewer : length (after_item c).held < length c.held
  pub number : (after_item c).next < 65536

pub hands_one : (c : Catch) (item : Item) → c.next < 65536 → next_item c ≡ Some item → HandsOne c item
hands_one c item h e =
    let fewer : length (after_item c).held < length c.held = item-fewer c.next (due c.finished c.held) c.held item e in
    let number : (after_item c).next < 65536 = omega arith in
    let n = length c.held in
    let a = drain n c h (omega arith) in
    let b = drain (suc n) c h (omega arith) in
    let p = drain n (after_item c) number (omega arith) in
    let q = drain (length (after_item c).held) (after_item c) number (omega arith) in
    record {
      items = a.items ∙ sym b.items ∙ ap (λ (i : Option Item). option_to_list i ++ items_of n (after_item c)) e
          ∙ ap (λ (t : List Item). item ∷ t) (p.items ∙ sym q.items);
      rest = a.after ∙ sym b.after ∙ p.after ∙ sym q.after;
      fewer = fewer;
      number = number;
    }

-- none can be handed up
pub record HandsNone (c : Catch) : Type 0 where
  pub items : all_items c ≡ []
  pub rest : drained c ≡ c
  pub after : after_item c ≡ c

pub hands_none : (c : Catch) → c.next < 65536 → next_item c ≡ None → HandsNone c
hands_none c h e = record {
  items = rest-items (length c.held) c h e;
  rest = rest-after (length c.held) c h e;
  after = rest-after 1 c h e;
}

-- what a datagram leaves as it was
pub record StaysReady (c e : Catch) : Type 0 where
  pub number : e.next < 65536
  pub finished : e.finished ≡ c.finished

either : (b : Bool) (c x y : Catch) → StaysReady c x → StaysReady c y → StaysReady c (if b then x else y)
either true c x y first second = first
either false c x y first second = second

next_number-small : (source : Option ℕ) (number next : ℕ) → number < 65536 → next < 65536 → next_number source number next < 65536
next_number-small None number next h g = h
next_number-small (Some ssrc) number next h g = g

pub taken-ready : (d : Datagram) (c : Catch) → d.number < 65536 → c.next < 65536 → StaysReady c (taken d c)
taken-ready d c h g =
    either (is_caught d c) c
    (record {
      source = Some d.ssrc;
      next = next_number c.source d.number c.next;
      held = put (place_of d c) d.packets c.held;
      finished = c.finished;
    })
    c (record { number = next_number-small c.source d.number c.next h g; finished = refl }) (record { number = g; finished = refl })
