-- The entries of an array, read one after another.
use Rattle.std.proofs.Common.{◌≡◌, ℕ, ◌+◌, ◌<◌, ◌≤◌, List, [], ◌∷◌, ◌++◌, length, drop, get_or, Option, Some, None, Ok, Err, refl, ap, ◌∙◌, sym, append_assoc, add-one}
use Rattle.std.specs.List.{filter_map, cons_option}
use Rattle.std.proofs.lemmas.List.{at_drop_more, at_drop_all}
use Rattle.toml.specs.Data.{Members}
use Rattle.satip_config.specs.declared.fault.ConfigFault.{ConfigFault}
use Rattle.satip_config.specs.Steps.{Reading, ◌>>=◌}
use Rattle.satip_config.specs.Entries.{entries}

-- two next steps that do the same
pub same_next : {A B : Type 0} (reading : Reading A) (k l : A → Reading B) → ((x : A) → k x ≡ l x) → (reading >>= k) ≡ (reading >>= l)
same_next (Ok x) k l same = same x
same_next (Err e) k l same = refl

after_one : {A B : Type 0} (x : A) (rest : Reading (List A)) (k : List A → Reading B) → ((rest >>= (λ xs. Ok (x ∷ xs))) >>= k) ≡ (rest >>= (λ xs. k (x ∷ xs)))
after_one x (Ok xs) k = refl
after_one x (Err e) k = refl

-- after some elements, one more and the rest
pub append-cons : {A : Type 0} (done : List A) (x : A) (rest : List A) → done ++ (x ∷ rest) ≡ (done ++ x ∷ []) ++ rest
append-cons done x rest = sym (append_assoc done (x ∷ []) rest)

module _ {A B V : Type 0} (entry_at : ℕ → Members → Reading A) (f : V → Option Members) (vs : List V) (i n : ℕ) (d : V) (k : List A → Reading B) where
  next_item : (o : Option Members) → i < length vs → f (get_or vs i d) ≡ o → filter_map f (drop i vs) ≡ cons_option o (filter_map f (drop (i + 1) vs))
  next_item o below is = at_drop_more (filter_map f) vs i d below ∙ ap (λ p. cons_option p (filter_map f (drop (i + 1) vs))) is

  -- an item that is a table
  pub entries-more : (table : Members) (x : A) → i < length vs → f (get_or vs i d) ≡ Some table → entry_at n table ≡ Ok x
      → (entries entry_at n (filter_map f (drop i vs)) >>= k) ≡ (entries entry_at (n + 1) (filter_map f (drop (i + 1) vs)) >>= (λ xs. k (x ∷ xs)))
  unfolding entries
  entries-more table x below is read = rw (next_item (Some table) below is, read, add-one n) (after_one x _ k)

  pub entries-fault : (table : Members) (e : ConfigFault) → i < length vs → f (get_or vs i d) ≡ Some table → entry_at n table ≡ Err e
      → (entries entry_at n (filter_map f (drop i vs)) >>= k) ≡ Err e
  unfolding entries
  entries-fault table e below is read = rw (next_item (Some table) below is, read)

  -- an item that is no table
  pub entries-skip : i < length vs → f (get_or vs i d) ≡ None
      → (entries entry_at n (filter_map f (drop i vs)) >>= k) ≡ (entries entry_at n (filter_map f (drop (i + 1) vs)) >>= k)
  entries-skip below is = ap (λ tables. entries entry_at n tables >>= k) (next_item None below is)

module _ {A B V : Type 0} (entry_at : ℕ → Members → Reading A) (f : V → Option Members) (vs : List V) (i n : ℕ) (k : List A → Reading B) where
  pub entries-all : length vs ≤ i → (entries entry_at n (filter_map f (drop i vs)) >>= k) ≡ k []
  unfolding entries
  entries-all past = rw (at_drop_all (filter_map f) vs i past)
