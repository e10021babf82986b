-- The server in the middle of a history.
use Rattle.std.proofs.Common.{◌≡◌, ℕ, zero, suc, ◌+◌, ◌<◌, ◌≤◌, List, [], ◌∷◌, ◌++◌, length, take, drop, get_or, Option, None, Some, refl, sym, ap, ◌∙◌, subst, arith}
use Rattle.std.specs.Prelude.{slice_get}
use Rattle.std.proofs.lemmas.List.{take_all}
use Rattle.satip_plain.specs.Types.{Config}
use Rattle.satip_plain.specs.declared.setting.Setting.{Setting}
use Rattle.satip_plain.specs.State.{State}
use Rattle.satip_plain.specs.Steps.{step}
use Rattle.satip_plain.specs.Histories.{Fits, Item, LegalFrom, after, after_from, opening}
use Rattle.satip_core.specs.Standing.{StandsFor}
use Rattle.satip_core.specs.Held.{Held}
use Rattle.satip_core.specs.Serving.{Stands}
use Rattle.satip_audit.specs.declared.index.Spot.{Spot}
use Rattle.satip_entry_reader.specs.ReadingEntries.{IsEntry, entry_text}
use Rattle.satip_audit.specs.Journals.{Placed}
use Rattle.satip_audit.specs.Verdicts.{DiffersAt, item}
use Rattle.satip_audit.specs.Replaying.{AreLed, DoesOther, DoesSo, Finds}

take_suc : (h : List Item) (i : ℕ) (x : Item) → slice_get h i ≡ Some x → take (suc i) h ≡ take i h ++ x ∷ []
take_suc [] i x e = cc e
take_suc (y ∷ h) zero x e = let same : y ≡ x = cc e in ap (λ (z : Item). z ∷ []) same
take_suc (y ∷ h) (suc i) x e = ap (λ (l : List Item). y ∷ l) (take_suc h i x e)

after_next : (c : Config) (st : State) (h : List Item) (e : Item) → after_from c st (h ++ e ∷ []) ≡ (step c (after_from c st h) e.event).state
after_next c st [] e = refl
after_next c st (x ∷ h) e = after_next c (step c st x.event).state h e

legal_next : (c : Config) (st : State) (h : List Item) (e : Item) → LegalFrom c st h → Fits (step c (after_from c st h) e.event) e
    → LegalFrom c st (h ++ e ∷ [])
legal_next c st [] e legal fits = (fits, tt)
legal_next c st (x ∷ h) e legal fits = (legal.0, legal_next c (step c st x.event).state h e legal.1 fits)

-- the first entries of a history are legal, and the server stands after them
pub record Ran (h : List Item) (place : ℕ) (s : Held) : Type 0 where
  pub stands : StandsFor s.setting.config s.kept (after s.setting (take place h))
  pub legal : LegalFrom s.setting.config (opening s.setting) (take place h)

-- so it is for each history to which spots lead
pub record Runs (records : List ℕ) (spots : List Spot) (old : Held) (place : ℕ) (s : Held) : Type 0 where
  pub setting : s.setting ≡ old.setting
  pub ran : (h : List Item) → Stands old (opening old.setting) → AreLed records h spots → Ran h place s

pub runs_from : (records : List ℕ) (spots : List Spot) (old : Held) → Runs records spots old 0 old
runs_from records spots old = record { setting = refl; ran = λ h stands led. record { stands = stands; legal = tt } }

module _ (records bytes : List ℕ) (spots : List Spot) (d : Spot) (old s t : Held) (place : ℕ) (inside : place < length spots)
    (bytes_are : bytes ≡ take (get_or spots place d).len (drop (get_or spots place d).at records)) (runs : Runs records spots old place s) where
  ran_more : (same : t.setting ≡ s.setting) → ((p : Placed) → IsEntry p.entry → bytes ≡ entry_text p.entry → DoesSo s p t)
      → (h : List Item) → Stands old (opening old.setting) → AreLed records h spots → Ran h (place + 1) t
  ran_more same does h stands led =
      let before = runs.ran h stands led in
      let l = led.leads place d inside in
      let x = item l.entry in
      let c = s.setting.config in
      let did = does l.entry l.within (bytes_are ∙ l.record_is) (after s.setting (take place h)) before.stands in
      let next : suc place ≡ place + 1 = omega arith in
      let grows : take place h ++ x ∷ [] ≡ take (place + 1) h = sym (take_suc h place x l.stands) ∙ ap (λ (n : ℕ). take n h) next in
      let state : StandsFor c t.kept (after s.setting (take place h ++ x ∷ [])) =
      subst (λ (st : State). StandsFor c t.kept st) (sym (after_next c (opening s.setting) (take place h) x)) did.stands in
      let legal = legal_next c (opening s.setting) (take place h) x before.legal did.fits in
      let P : List Item → Type 0 = λ k. StandsFor c t.kept (after s.setting k) × LegalFrom c (opening s.setting) k in
      let Q : Setting → Type 0 = λ z. StandsFor z.config t.kept (after z (take (place + 1) h)) × LegalFrom z.config (opening z) (take (place + 1) h) in
      let both : P (take (place + 1) h) = subst P grows (state, legal) in
      let all : Q t.setting = subst Q (sym same) both in
      record { stands = all.0; legal = all.1 }

  pub runs_more : t.setting ≡ s.setting → ((p : Placed) → IsEntry p.entry → bytes ≡ entry_text p.entry → DoesSo s p t) → Runs records spots old (place + 1) t
  runs_more same does = record { setting = same ∙ runs.setting; ran = ran_more same does }

  pub runs_other : ((p : Placed) → IsEntry p.entry → bytes ≡ entry_text p.entry → DoesOther s p)
      → (h : List Item) → Stands old (opening old.setting) → AreLed records h spots → Finds old.setting h (Some place)
  runs_other does h stands led =
      let before = runs.ran h stands led in
      let l = led.leads place d inside in
      let found : DiffersAt s.setting h place = record {
        before = before.legal;
        here = item l.entry;
        stands = l.stands;
        differs = λ fits. does l.entry l.within (bytes_are ∙ l.record_is) (after s.setting (take place h)) before.stands fits;
      } in
      subst (λ (z : Setting). DiffersAt z h place) runs.setting found

pub runs_end : (records : List ℕ) (spots : List Spot) (old s : Held) (place : ℕ) → length spots ≤ place → Runs records spots old place s
    → (h : List Item) → Stands old (opening old.setting) → AreLed records h spots → Finds old.setting h None
runs_end records spots old s place far runs h stands led =
    let before = runs.ran h stands led in
    let long = led.long in
    let whole : take place h ≡ h = take_all place h (omega (arith, long, far)) in
    let P : List Item → Type 0 = λ k. LegalFrom s.setting.config (opening s.setting) k in
    subst (λ (z : Setting). LegalFrom z.config (opening z) h) runs.setting (subst P whole before.legal)

-- a server that was made in this setting
pub finds_as : (records : List ℕ) (spots : List Spot) (c : Setting) (s : Held) (result : Option ℕ) → s.setting ≡ c → Stands s (opening c)
    → ((h : List Item) → Stands s (opening s.setting) → AreLed records h spots → Finds s.setting h result)
    → (h : List Item) → AreLed records h spots → Finds c h result
finds_as records spots c s result same stands finds h led =
    let here : Stands s (opening s.setting) = subst (λ (z : Setting). Stands s (opening z)) (sym same) stands in
    subst (λ (z : Setting). Finds z h result) same (finds h here led)
