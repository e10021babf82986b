-- Lemmas on `Each` and `Has`.
use Rattle.std.proofs.Common.{◌≡◌, List, [], ◌∷◌, ◌++◌, sym, subst, inl, inr, ⊎_elim}
use Rattle.satip_base.specs.Lists.{Each, Has}

pub Each-append : {T : Type 0} (P : T → Type 0) (xs ys : List T) → Each P xs → Each P ys → Each P (xs ++ ys)
Each-append P [] ys p q = q
Each-append P (x ∷ xs) ys p q = (p.0, Each-append P xs ys p.1 q)

pub Each-append_left : {T : Type 0} (P : T → Type 0) (xs ys : List T) → Each P (xs ++ ys) → Each P xs
Each-append_left P [] ys p = tt
Each-append_left P (x ∷ xs) ys p = (p.0, Each-append_left P xs ys p.1)

pub Each-append_right : {T : Type 0} (P : T → Type 0) (xs ys : List T) → Each P (xs ++ ys) → Each P ys
Each-append_right P [] ys p = p
Each-append_right P (x ∷ xs) ys p = Each-append_right P xs ys p.1

-- what follows from P of each element holds of each
pub each_follows : {T : Type 0} (P Q : T → Type 0) → ((x : T) → P x → Q x) → (xs : List T) → Each P xs → Each Q xs
each_follows P Q f [] p = tt
each_follows P Q f (x ∷ xs) p = (f x p.0, each_follows P Q f xs p.1)

pub each_at : {T : Type 0} (P : T → Type 0) (xs : List T) (x : T) → Each P xs → Has x xs → P x
each_at P [] x p h = absurd h
each_at P (y ∷ ys) x p h = ⊎_elim (λ (e : x ≡ y). subst P (sym e) p.0) (λ (t : Has x ys). each_at P ys x p.1 t) h

-- P holds of each element where it holds of what the list has
pub each_has : {T : Type 0} (P : T → Type 0) (xs : List T) → ((x : T) → Has x xs → P x) → Each P xs
each_has P [] f = tt
each_has P (x ∷ xs) f = (f x (inl (λ i. x)), each_has P xs (λ y h. f y (inr h)))

pub Has-append_left : {T : Type 0} (x : T) (xs ys : List T) → Has x xs → Has x (xs ++ ys)
Has-append_left x [] ys h = absurd h
Has-append_left x (y ∷ xs) ys h = ⊎_elim (λ (e : x ≡ y). inl e) (λ (t : Has x xs). inr (Has-append_left x xs ys t)) h

pub Has-append_right : {T : Type 0} (x : T) (xs ys : List T) → Has x ys → Has x (xs ++ ys)
Has-append_right x [] ys h = h
Has-append_right x (y ∷ xs) ys h = inr (Has-append_right x xs ys h)
