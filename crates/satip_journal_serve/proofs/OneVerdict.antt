-- There is one verdict on a text.
use Rattle.std.proofs.Common.{◌≡◌, ◌∙◌, ℕ, zero, suc, ◌<◌, List, [], ◌∷◌, length, take, Result, Ok, Some, None, refl, sym, ap, subst, arith}
use Rattle.std.specs.Prelude.{slice_get}
use Rattle.satip_plain.specs.Types.{Config}
use Rattle.satip_plain.specs.State.{State}
use Rattle.satip_plain.specs.Steps.{step}
use Rattle.satip_plain.specs.Histories.{Fits, Item, LegalFrom, after_from, opening}
use Rattle.satip_audit.specs.declared.verdicts.Verdict.{Verdict}
use Rattle.satip_audit.specs.declared.verdicts.Verdict.TheVariants.{NoStart, Repeated, Missing, Differs, Yes}
use Rattle.satip_audit.specs.Journals.{Note}
use Rattle.satip_audit.specs.Places.{IsLeast}
use Rattle.satip_audit.specs.Verdicts.{DiffersAt, IsOneHistory, IsOther, IsVerdict, entered, history, setting, starts}
use Rattle.satip_audit.proofs.OneReading.{one_thing}
use Rattle.satip_journal_serve.specs.Laws.{HasOneVerdict}

least_is : (P : ℕ → Type 0) (p q : ℕ) → IsLeast P p → IsLeast P q → p ≡ q
least_is P p q a b =
    let up : p < q → ⊥ = λ less. b.least p less a.holds in
    let down : q < p → ⊥ = λ less. a.least q less b.holds in
    omega (arith, up, down)

same_entry : (x e : Item) → Some x ≡ Some e → x ≡ e
same_entry x e is = cc is

-- an entry of a legal beginning is what its event does
fits_at : (c : Config) (st : State) (h : List Item) (p q : ℕ) (e : Item) → p < q → slice_get h p ≡ Some e → LegalFrom c st (take q h)
    → Fits (step c (after_from c st (take p h)) e.event) e
fits_at c st [] p q e less is legal = let none : ◌≡◌ None (Some e) = is in absurd (cc none)
fits_at c st (x ∷ xs) p zero e less is legal = absurd (omega (arith, less))
fits_at c st (x ∷ xs) zero (suc q) e less is legal =
    let P : Item → Type 0 = λ y. Fits (step c st y.event) y in
    subst P (same_entry x e is) legal.0
fits_at c st (x ∷ xs) (suc p) (suc q) e less is legal = fits_at c (step c st x.event).state xs p q e (omega (arith, less)) is legal.1

legal_take : (c : Config) (st : State) (h : List Item) (q : ℕ) → LegalFrom c st h → LegalFrom c st (take q h)
legal_take c st [] zero legal = tt
legal_take c st [] (suc q) legal = tt
legal_take c st (x ∷ xs) zero legal = tt
legal_take c st (x ∷ xs) (suc q) legal = (legal.0, legal_take c (step c st x.event).state xs q legal.1)

module _ (config : Config) (start : ℕ) (h : List Item) where
  not_before : (p q : ℕ) → DiffersAt (setting config start) h p → DiffersAt (setting config start) h q → p < q → ⊥
  not_before p q a b less = a.differs (fits_at config (opening (setting config start)) h p q a.here less a.stands b.before)

  not_legal : (p : ℕ) → DiffersAt (setting config start) h p → LegalFrom config (opening (setting config start)) h → ⊥
  not_legal p a legal =
      a.differs (fits_at config (opening (setting config start)) h p (suc p) a.here (omega arith) a.stands
      (legal_take config (opening (setting config start)) h (suc p) legal))

one_moment : (ms : List ℕ) (a b : ℕ) → ms ≡ a ∷ [] → ms ≡ b ∷ [] → a ≡ b
one_moment ms a b x y = let both : a ∷ [] ≡ b ∷ [] = sym x ∙ y in cc both

one_long : (ms : List ℕ) (a : ℕ) → ms ≡ a ∷ [] → length ms ≡ 1
one_long ms a x = ap (λ (l : List ℕ). length l) x

same_differs : (config : Config) (notes : List Note) (p q : ℕ) → IsOther config notes p → IsOther config notes q → p ≡ q
same_differs config notes p q a b =
    let h = history (entered notes) in
    let start : b.start ≡ a.start = one_moment (starts notes) b.start a.start b.one_start a.one_start in
    let other : DiffersAt (setting config a.start) h q = subst (λ (m : ℕ). DiffersAt (setting config m) h q) start b.differs in
    let up : p < q → ⊥ = not_before config a.start h p q a.differs other in
    let down : q < p → ⊥ = not_before config a.start h q p other a.differs in
    omega (arith, up, down)

not_both : (config : Config) (notes : List Note) (p n : ℕ) → IsOther config notes p → IsOneHistory config notes n → ⊥
not_both config notes p n a b =
    let h = history (entered notes) in
    let start : a.start ≡ b.start = one_moment (starts notes) a.start b.start a.one_start b.one_start in
    let other : DiffersAt (setting config b.start) h p = subst (λ (m : ℕ). DiffersAt (setting config m) h p) start a.differs in
    not_legal config b.start h p other b.legal

same_verdict : (config : Config) (notes : List Note) (v w : Verdict) → IsVerdict config notes v → IsVerdict config notes w → v ≡ w
same_verdict config notes NoStart NoStart a b = refl
same_verdict config notes NoStart (Repeated q) a b = absurd (a b.one_start)
same_verdict config notes NoStart (Missing q) a b = absurd (a b.one_start)
same_verdict config notes NoStart (Differs q) a b = absurd (a (one_long (starts notes) b.start b.one_start))
same_verdict config notes NoStart (Yes m) a b = absurd (a (one_long (starts notes) b.start b.one_start))
same_verdict config notes (Repeated p) NoStart a b = absurd (b a.one_start)
same_verdict config notes (Repeated p) (Repeated q) a b = ap (λ (k : ℕ). Repeated k) (least_is _ p q a.least b.least)
same_verdict config notes (Repeated p) (Missing q) a b = absurd (b.none_twice p a.least.holds)
same_verdict config notes (Repeated p) (Differs q) a b = absurd (b.apart.none_twice p a.least.holds)
same_verdict config notes (Repeated p) (Yes m) a b = absurd (b.apart.none_twice p a.least.holds)
same_verdict config notes (Missing p) NoStart a b = absurd (b a.one_start)
same_verdict config notes (Missing p) (Repeated q) a b = absurd (a.none_twice q b.least.holds)
same_verdict config notes (Missing p) (Missing q) a b = ap (λ (k : ℕ). Missing k) (least_is _ p q a.least b.least)
same_verdict config notes (Missing p) (Differs q) a b = absurd (b.apart.none_missing p a.least.holds)
same_verdict config notes (Missing p) (Yes m) a b = absurd (b.apart.none_missing p a.least.holds)
same_verdict config notes (Differs p) NoStart a b = absurd (b (one_long (starts notes) a.start a.one_start))
same_verdict config notes (Differs p) (Repeated q) a b = absurd (a.apart.none_twice q b.least.holds)
same_verdict config notes (Differs p) (Missing q) a b = absurd (a.apart.none_missing q b.least.holds)
same_verdict config notes (Differs p) (Differs q) a b = ap (λ (k : ℕ). Differs k) (same_differs config notes p q a b)
same_verdict config notes (Differs p) (Yes m) a b = absurd (not_both config notes p m a b)
same_verdict config notes (Yes n) NoStart a b = absurd (b (one_long (starts notes) a.start a.one_start))
same_verdict config notes (Yes n) (Repeated q) a b = absurd (a.apart.none_twice q b.least.holds)
same_verdict config notes (Yes n) (Missing q) a b = absurd (a.apart.none_missing q b.least.holds)
same_verdict config notes (Yes n) (Differs q) a b = absurd (not_both config notes q n b a)
same_verdict config notes (Yes n) (Yes m) a b = ap (λ (k : ℕ). Yes k) (a.count_is ∙ sym b.count_is)

same_notes : (a b : List Note) → ◌≡◌ {A = Result (List Note) ℕ} (Ok a) (Ok b) → a ≡ b
same_notes a b e = cc e

pub one_verdict : HasOneVerdict
one_verdict config text v w a b =
    let notes = same_notes a.notes b.notes (one_thing text (Ok a.notes) (Ok b.notes) a.journal b.journal) in
    same_verdict config b.notes v w (subst (λ (l : List Note). IsVerdict config l v) notes a.verdict_is) b.verdict_is
