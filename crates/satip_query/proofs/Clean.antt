-- Texts without a byte, and how such texts are cut again where they were joined by it.
use Rattle.std.proofs.Common.{◌≡◌, ℕ, zero, suc, ◌+◌, Bool, true, false, List, [], ◌∷◌, ◌++◌, length, take, drop, map, refl, ap, ◌∙◌, arith}
use Rattle.std.specs.Char.{is_ascii_digit}
use Rattle.std.specs.List.{list_all, list_any, join_with_byte, slice_split, position_or_len, before_first, after_first}
use Rattle.std.proofs.Math.Seq.{take-append_seam, drop-append-add}
use Rattle.std.proofs.lemmas.Bool.Decides.{nat_tests}
use Rattle.std.proofs.lemmas.List.Folds.{list_any-append}
use Rattle.std.proofs.lemmas.Bool.{or_parts}
use Rattle.satip_tune.specs.Pieces.{is_byte}
use Rattle.satip_tune.proofs.Places.{slice_split-no, slice_split-join}

-- no byte of two texts one behind the other
pub no-append : (p : ℕ → Bool) (xs ys : List ℕ) → list_any p xs ≡ false → list_any p ys ≡ false → list_any p (xs ++ ys) ≡ false
no-append p xs ys hx hy = list_any-append p xs ys ∙ rw (hx, hy) refl

pub no-cons : (p : ℕ → Bool) (x : ℕ) (xs : List ℕ) → p x ≡ false → list_any p xs ≡ false → list_any p (x ∷ xs) ≡ false
no-cons p x xs here rest = rw (here, rest) refl

pub no-take : (p : ℕ → Bool) (n : ℕ) (xs : List ℕ) → list_any p xs ≡ false → list_any p (take n xs) ≡ false
no-take p zero xs h = refl
no-take p (suc n) [] h = refl
no-take p (suc n) (x ∷ xs) h =
    let both = or_parts (p x) (list_any p xs) h in
    no-cons p x (take n xs) both.0 (no-take p n xs both.1)

-- digits have no separator
pub no-ampersand : (ds : List ℕ) → list_all is_ascii_digit ds ≡ true → list_any (is_byte 38) ds ≡ false
no-ampersand [] h = refl
no-ampersand (d ∷ ds) h = grind (arith, nat_tests, no-ampersand ds)

pub no-comma : (ds : List ℕ) → list_all is_ascii_digit ds ≡ true → list_any (is_byte 44) ds ≡ false
no-comma [] h = refl
no-comma (d ∷ ds) h = grind (arith, nat_tests, no-comma ds)

-- no byte in each of some texts
abbrev pub AreClean : ℕ → List (List ℕ) → Type 0
AreClean byte [] = Unit {0}
AreClean byte (text ∷ texts) = (list_any (is_byte byte) text ≡ false) × AreClean byte texts

same-byte : (byte : ℕ) → is_byte byte byte ≡ true
same-byte byte = grind (arith, nat_tests)

-- texts that were joined by a byte are cut at it again
pub split-join : (byte : ℕ) (text : List ℕ) (texts : List (List ℕ)) → AreClean byte (text ∷ texts)
    → slice_split (is_byte byte) (join_with_byte byte (text ∷ texts)) ≡ text ∷ texts
split-join byte text [] clean = slice_split-no (is_byte byte) text clean.0
split-join byte text (next ∷ texts) clean =
    slice_split-join (is_byte byte) text byte (join_with_byte byte (next ∷ texts)) clean.0 (same-byte byte)
    ∙ ap (λ (rest : List (List ℕ)). text ∷ rest) (split-join byte next texts clean.1)

-- no other byte comes in by joining
pub no-join : (p : ℕ → Bool) (byte : ℕ) → p byte ≡ false → (f : ℕ → List ℕ) (xs : List ℕ)
    → ((x : ℕ) → list_any p (f x) ≡ false) → list_any p (join_with_byte byte (map f xs)) ≡ false
no-join p byte here f [] each = refl
no-join p byte here f (x ∷ []) each = each x
no-join p byte here f (x ∷ y ∷ xs) each =
    no-append p (f x) (byte ∷ join_with_byte byte (map f (y ∷ xs))) (each x)
    (no-cons p byte (join_with_byte byte (map f (y ∷ xs))) here (no-join p byte here f (y ∷ xs) each))

-- a text is cut at the first byte behind a text without it
place-join : (p : ℕ → Bool) (xs : List ℕ) (y : ℕ) (ys : List ℕ) → list_any p xs ≡ false → p y ≡ true
    → position_or_len p (xs ++ (y ∷ ys)) ≡ length xs
place-join p [] y ys none here = rw here refl
place-join p (x ∷ xs) y ys none here =
    let both = or_parts (p x) (list_any p xs) none in
    let rest : position_or_len p (xs ++ (y ∷ ys)) ≡ length xs = place-join p xs y ys both.1 here in
    rw (both.0, rest) (omega arith)

pub before-join : (p : ℕ → Bool) (xs : List ℕ) (y : ℕ) (ys : List ℕ) → list_any p xs ≡ false → p y ≡ true
    → before_first p (xs ++ (y ∷ ys)) ≡ xs
before-join p xs y ys none here =
    ap (λ n. take n (xs ++ (y ∷ ys))) (place-join p xs y ys none here) ∙ take-append_seam xs (y ∷ ys)

pub after-join : (p : ℕ → Bool) (xs : List ℕ) (y : ℕ) (ys : List ℕ) → list_any p xs ≡ false → p y ≡ true
    → after_first p (xs ++ (y ∷ ys)) ≡ ys
after-join p xs y ys none here =
    ap (λ n. drop (n + 1) (xs ++ (y ∷ ys))) (place-join p xs y ys none here) ∙ drop-append-add xs (y ∷ ys) 1
