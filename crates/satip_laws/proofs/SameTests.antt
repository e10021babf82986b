-- Tests that have the same answer, and ids.
use Rattle.std.proofs.Common.{◌&&◌, ◌≡◌, ℕ, ◌==◌, not, Bool, true, false, Option, Some, None, refl, ap, sym, ◌∙◌}
use Rattle.std.proofs.lemmas.Bool.{and_parts, and_from, eqb-true, eq-eqb, false_from_ne_true, not-true}
use Rattle.std.proofs.lemmas.Option.{same_Some}
use Rattle.satip_plain.proofs.SameIds.{same_id_is}
use Rattle.satip_plain.specs.Types.{SessionId}
use Rattle.satip_plain.specs.State.{same_id}

pub same_bool : (a b : Bool) → (a ≡ true → b ≡ true) → (b ≡ true → a ≡ true) → a ≡ b
same_bool true b f g = sym (f refl)
same_bool false true f g = g refl
same_bool false false f g = refl

pub none_true : {A : Type 0} → (b : Bool) → b ≡ true → b ≡ false → A
none_true true e f = absurd (cc)
none_true false e f = absurd (cc)

pub not_false : (b : Bool) → b ≡ false → not b ≡ true
not_false b e = rw e refl

pub either_false : (b : Bool) → (b && false) ≡ false
either_false true = refl
either_false false = refl

pub middle_true : (x y z : Bool) → y ≡ true → (x && y && z) ≡ (x && z)
middle_true true y z e = rw e refl
middle_true false y z e = refl

pub middle_false : (x y z : Bool) → y ≡ false → (x && y && z) ≡ false
middle_false true y z e = rw e refl
middle_false false y z e = refl

pub double_not : (b : Bool) → not b ≡ false → b ≡ true
double_not true e = refl
double_not false e = cc

pub none_some : {X A : Type 0} (o : Option X) (x : X) → o ≡ None → o ≡ Some x → A
none_some o x e f = absurd (cc)

-- ids

pub id_same : (a b : SessionId) → a ≡ b → same_id a b ≡ true
id_same a b e = and_from (a.count == b.count) (a.word == b.word) (eq-eqb a.count b.count (ap (λ i. i.count) e)) (eq-eqb a.word b.word (ap (λ i. i.word) e))

pub id_itself : (a : SessionId) → same_id a a ≡ true
id_itself a = id_same a a refl

pub id_turned : (a b : SessionId) → same_id a b ≡ same_id b a
id_turned a b = same_bool (same_id a b) (same_id b a) (λ e. id_same b a (sym (same_id_is a b e))) (λ e. id_same a b (sym (same_id_is b a e)))

pub id_other : (a b : SessionId) → (a ≡ b → ⊥) → same_id a b ≡ false
id_other a b f = false_from_ne_true (same_id a b) (λ e. f (same_id_is a b e))
