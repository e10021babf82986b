-- What a reading that succeeded says of its parts.
use Rattle.std.proofs.Common.{◌≡◌, ℕ, ℤ, pos, negsuc, suc, Bool, true, false, cond, List, [], ◌∷◌, length, map, Option, Some, None, Ok, Err, All, refl, ap, subst, sym, ◌∙◌, add-one, arith}
use Rattle.std.specs.List.{range_with_len}
use Rattle.std.specs.Option.{ok_or}
use Rattle.std.proofs.lemmas.Bool.Decides.{nat_tests}
use Rattle.std.proofs.lemmas.List.Elements.{All-nil, All-cons}
use Rattle.toml.specs.Data.{Data, Members, as_integer}
use Rattle.satip_config.specs.declared.key.ConfigKey.{ConfigKey}
use Rattle.satip_config.specs.declared.fault.ConfigFault.{ConfigFault}
use Rattle.satip_config.specs.Steps.{Reading, ◌>>=◌, of_kind, is_within, counted}
use Rattle.satip_config.specs.Values.{value_at, required, within, number, number_at, number_unless_missing, number_or, word_at, text_at, tables_in, all_of}
use Rattle.satip_config.specs.Limits.{IsWithin}
use Rattle.satip_config.specs.Entries.{entries}

-- both steps succeeded
pub bound : {A B P : Type 0} (first : Reading A) (next : A → Reading B) (y : B) → (first >>= next) ≡ Ok y → ((x : A) → first ≡ Ok x → next x ≡ Ok y → P) → P
bound (Ok x) next y h use_them = use_them x refl h
bound (Err e) next y h use_them = absurd cc

pub same_Ok : {A : Type 0} (x y : A) → ◌≡◌ {A = Reading A} (Ok x) (Ok y) → x ≡ y
same_Ok x y h = cc

pub some_from_ok_or : {A : Type 0} (o : Option A) (e : ConfigFault) (x : A) → ok_or o e ≡ Ok x → o ≡ Some x
some_from_ok_or (Some y) e x h = ap Some (same_Ok y x h)
some_from_ok_or None e x h = absurd cc

pub is_within-parts : (least most n : ℕ) → is_within least most n ≡ true → IsWithin least most n
is_within-parts least most n h = grind (arith, nat_tests)

within_or_none : (b : Bool) (least most m n : ℕ) → is_within least most m ≡ b → cond b (Some m) None ≡ Some n → IsWithin least most n
within_or_none true least most m n is h = let same : m ≡ n = cc in subst (IsWithin least most) same (is_within-parts least most m is)
within_or_none false least most m n is h = absurd cc

pub within-range : (least most n : ℕ) (z : ℤ) → within least most z ≡ Some n → IsWithin least most n
within-range least most n (pos m) h = within_or_none (is_within least most m) least most m n refl h
within-range least most n (negsuc m) h = absurd cc

pub number-range : (least most n : ℕ) (key : ConfigKey) (d : Data) → number least most key d ≡ Ok n → IsWithin least most n
unfolding number
number-range least most n key d h =
    bound (of_kind key (as_integer d)) _ n h (λ z is read. within-range least most n z (some_from_ok_or _ _ n read))

pub number_at-range : (least most n : ℕ) (key : ConfigKey) (table : Members) → number_at least most key table ≡ Ok n → IsWithin least most n
unfolding number_at
number_at-range least most n key table h =
    bound (required key table) _ n h (λ d is read. number-range least most n key d read)

number_unless_missing-range : (default least most n : ℕ) (key : ConfigKey) (o : Option Data) → IsWithin least most default
    → number_unless_missing default least most key o ≡ Ok n → IsWithin least most n
number_unless_missing-range default least most n key None fine h = subst (IsWithin least most) (same_Ok default n h) fine
number_unless_missing-range default least most n key (Some d) fine h = number-range least most n key d h

pub number_or-range : (default least most n : ℕ) (key : ConfigKey) (table : Members) → IsWithin least most default
    → number_or default least most key table ≡ Ok n → IsWithin least most n
unfolding number_or
number_or-range default least most n key table fine h = number_unless_missing-range default least most n key (value_at key table) fine h

-- what the word was read from
pub word_at-read : {A : Type 0} (read : List ℕ → Option A) (key : ConfigKey) (table : Members) (x : A) → word_at read key table ≡ Ok x
    → (text : List ℕ) × (read text ≡ Some x)
unfolding word_at
word_at-read read key table x h = bound (text_at key table) _ x h (λ text is found. (text, some_from_ok_or _ _ x found))

counted_or_none : {A : Type 0} (b : Bool) (least most : ℕ) (xs ys : List A) → is_within least most (length xs) ≡ b → cond b (Some xs) None ≡ Some ys
    → IsWithin least most (length ys)
counted_or_none true least most xs ys is h = let same : xs ≡ ys = cc in
    subst (λ zs. IsWithin least most (length zs)) same (is_within-parts least most (length xs) is)
counted_or_none false least most xs ys is h = absurd cc

pub counted-range : {A : Type 0} (least most : ℕ) (xs ys : List A) → counted least most xs ≡ Some ys → IsWithin least most (length ys)
counted-range least most xs ys h = counted_or_none (is_within least most (length xs)) least most xs ys refl h

pub tables_in-range : (least most : ℕ) (key : ConfigKey) (values : List Data) (tables : List Members) → tables_in least most key values ≡ Ok tables
    → IsWithin least most (length tables)
unfolding tables_in
tables_in-range least most key values tables h =
    bound (all_of _ key values) _ tables h (λ all is found. counted-range least most all tables (some_from_ok_or _ _ tables found))

module _ {A : Type 0} (entry_at : ℕ → Members → Reading A) where
  -- one entry for each table
  pub entries-length : (n : ℕ) (tables : List Members) (xs : List A) → entries entry_at n tables ≡ Ok xs → length xs ≡ length tables
  unfolding entries
  entries-length n [] xs h = ap length (sym (same_Ok [] xs h))
  entries-length n (table ∷ tables) xs h =
      bound (entry_at n table) _ xs h (λ x read more.
      bound (entries entry_at (suc n) tables) _ xs more (λ rest others is.
      ap length (sym (same_Ok (x ∷ rest) xs is)) ∙ ap suc (entries-length (suc n) tables rest others)))

  -- what holds of each entry
  pub entries-All : (P : A → Type 0) → ((n : ℕ) (table : Members) (x : A) → entry_at n table ≡ Ok x → P x)
      → (n : ℕ) (tables : List Members) (xs : List A) → entries entry_at n tables ≡ Ok xs → All P xs
  unfolding entries
  entries-All P each n [] xs h = subst (All P) (same_Ok [] xs h) (All-nil P)
  entries-All P each n (table ∷ tables) xs h =
      bound (entry_at n table) _ xs h (λ x read more.
      bound (entries entry_at (suc n) tables) _ xs more (λ rest others is.
      subst (All P) (same_Ok (x ∷ rest) xs is) (All-cons P x rest (each n table x read) (entries-All P each (suc n) tables rest others))))

  -- each entry has its number
  pub entries-numbers : (number_of : A → ℕ) → ((n : ℕ) (table : Members) (x : A) → entry_at n table ≡ Ok x → number_of x ≡ n)
      → (n : ℕ) (tables : List Members) (xs : List A) → entries entry_at n tables ≡ Ok xs → map number_of xs ≡ range_with_len n (length xs)
  unfolding entries
  entries-numbers number_of each n [] xs h = subst (λ ys. map number_of ys ≡ range_with_len n (length ys)) (same_Ok [] xs h) refl
  entries-numbers number_of each n (table ∷ tables) xs h =
      bound (entry_at n table) _ xs h (λ x read more.
      bound (entries entry_at (suc n) tables) _ xs more (λ rest others is.
      subst (λ ys. map number_of ys ≡ range_with_len n (length ys)) (same_Ok (x ∷ rest) xs is)
      (rw (each n table x read, entries-numbers number_of each (suc n) tables rest others, add-one))))
