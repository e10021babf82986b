-- A burst goes on by one entry.
use Rattle.std.proofs.Common.{◌≡◌, ℕ, ◌+◌, List, [], ◌∷◌, ◌++◌, length, Some, sym, ap, ◌∙◌, subst, append_assoc, length-append, arith}
use Rattle.atomic_table.specs.Table.{Me}
use Rattle.satip_base.specs.declared.entry.Entry.{Entry}
use Rattle.satip_base.specs.declared.entry.Taken.{Taken}
use Rattle.satip_base.specs.History.{entry, entries, taken}
use Rattle.satip_base.proofs.Owned.{entries-append}
use Rattle.satip_turn.specs.declared.view.View.{View}
use Rattle.satip_turn.specs.declared.view.Content.{Content}
use Rattle.satip_turn.specs.declared.view.Content.TheVariants.{Away}
use Rattle.satip_turn.specs.Steps.{committed}
use Rattle.satip_turn.specs.Seats.{IsUnderWay, extended}

extended_more : {E A O C : Type 0} (v : View E A O C) (es : List (Entry E A O)) (x : Entry E A O) → committed (extended v es) x ≡ extended v (es ++ x ∷ [])
extended_more v es x = λ i. record v {
  seen = append_assoc v.seen es (x ∷ []) i;
  whole = append_assoc v.whole es (x ∷ []) i;
  own = append_assoc v.own es (x ∷ []) i;
}

module _ {E A O C X Y : Type 0} (setting_of : X → C) (stands : X → List (Entry E A O) → Type 0) where
  pub goes_on : (before after : List (Taken E A O) → Type 0) (v : View E A O C) (made place : ℕ) (me me' : Me (Content Y E A O) (View E A O C))
      (value value' : X) (e : E) (a : A) (o : O)
      → IsUnderWay setting_of stands before v made me value place
      → ((ts : List (Taken E A O)) → before ts → after (ts ++ taken e a o ∷ []))
      → me' ≡ (committed me.0 (entry me.0.number e a o), (0, Away) ∷ [])
      → setting_of value' ≡ setting_of value
      → stands value' (me.0.whole ++ entry me.0.number e a o ∷ [])
      → IsUnderWay setting_of stands after v (made + 1) me' value' (place + 1)
  goes_on before after v made place me me' value value' e a o u takes is same stands_for =
      let ts : List (Taken E A O) = u.taken in
      let x : Entry E A O = entry v.number e a o in
      let es : List (Entry E A O) = entries v.number ts in
      let here : me.0 ≡ extended v es = ap (λ (m : Me (Content Y E A O) (View E A O C)). m.0) u.seat in
      let step : committed me.0 (entry me.0.number e a o) ≡ extended v (entries v.number (ts ++ taken e a o ∷ [])) =
      ap (λ (w : View E A O C). committed w (entry w.number e a o)) here ∙ extended_more v es x
      ∙ ap (extended v) (sym (entries-append v.number ts (taken e a o ∷ []))) in
      let longer : length (me.0.whole ++ entry me.0.number e a o ∷ []) ≡ length me.0.whole + 1 = length-append me.0.whole (entry me.0.number e a o ∷ []) in
      let long : length (ts ++ taken e a o ∷ []) ≡ length ts + 1 = length-append ts (taken e a o ∷ []) in
      let whole : me'.0.whole ≡ me.0.whole ++ entry me.0.number e a o ∷ [] = ap (λ (m : Me (Content Y E A O) (View E A O C)). m.0.whole) is in
      let setting : me'.0.setting ≡ me.0.setting = ap (λ (m : Me (Content Y E A O) (View E A O C)). m.0.setting) is in
      let count = u.count in
      let at = u.place_is in
      let more : length me'.0.whole ≡ length me.0.whole + 1 = ap length whole ∙ longer in
      record {
        taken = ts ++ taken e a o ∷ [];
        count = omega arith;
        has = takes ts u.has;
        seat = is ∙ ap (λ (w : View E A O C). (w, (0, Away) ∷ [])) step;
        served = record {
          setting = setting ∙ u.served.setting ∙ ap Some (sym same);
          stands_for = subst (stands value') (sym whole) stands_for;
        };
        place_is = omega arith;
      }
