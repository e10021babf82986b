-- The list at a key, by what the code's values stand for.
use Rattle.std.proofs.Common.{◌≡◌, ℕ, Bool, true, false, ◌&&◌, cond, List, length, map, Option, Some, None, is_some, option_and_then, Ok, Err, refl, ◌∙◌}
use Rattle.std.specs.List.{list_all, filter_map}
use Rattle.std.proofs.lemmas.List.Folds.{list_all-map}
use Rattle.toml.specs.Data.{Data, as_table}
use Rattle.toml.specs.View.{view}
use Rattle.toml.specs.declared.value.Value.{Value}
use Rattle.satip_config.specs.declared.key.ConfigKey.{ConfigKey}
use Rattle.satip_config.specs.declared.fault.ConfigFault.TheVariants as faults
use Rattle.satip_config.specs.Steps.{Reading, ◌>>=◌, allowed, is_within, whole}
use Rattle.satip_config.specs.Values.{list_in, tables_in}
use Rattle.satip_config.proofs.Wholes.{filter_map-filter_map, list_all-whole, length-whole, filter_map-map}

-- the list where it is allowed, else the fault
abbrev pub taken : {B : Type 0} → ConfigKey → Bool → List B → Reading (List B)
taken key fine xs = cond fine (Ok xs) (Err (faults.Value key))

last_step : {A B : Type 0} (read : A → Option B) (key : ConfigKey) (xs : List A) (rest : Bool) → list_all (λ x. is_some (read x)) xs ≡ rest
    → allowed key (whole read xs) ≡ taken key rest (filter_map read xs)
last_step read key xs true e = rw e
last_step read key xs false e = rw e

last_steps : {A B : Type 0} (read : A → Option B) (key : ConfigKey) (xs : List A) (within rest : Bool) → list_all (λ x. is_some (read x)) xs ≡ rest
    → (allowed key (cond within (Some xs) None) >>= (λ some. allowed key (whole read some))) ≡ taken key (within && rest) (filter_map read xs)
last_steps read key xs false rest e = refl
last_steps read key xs true rest e = last_step read key xs rest e

module _ {A B : Type 0} (kind : Data → Option A) (most : ℕ) (read : A → Option B) (key : ConfigKey) (vs : List Value) where
  pub list_in-shape : list_all (λ v. is_some (kind (view v))) vs ≡ false → list_in kind most read key (map view vs) ≡ Err (faults.Shape key)
  unfolding list_in
  list_in-shape other = rw (list_all-map, other)

  list_in-taken : list_all (λ v. is_some (kind (view v))) vs ≡ true
      → list_in kind most read key (map view vs)
      ≡ taken key (is_within 1 most (length vs) && list_all (λ v. is_some (option_and_then read (kind (view v)))) vs)
      (filter_map (λ v. option_and_then read (kind (view v))) vs)
  unfolding list_in
  list_in-taken same =
      let kinds : List A = filter_map (λ v. kind (view v)) vs in
      rw (list_all-map, same, filter_map-map)
      (last_steps read key kinds (is_within 1 most (length kinds)) _ refl
      ∙ rw (length-whole (λ v. kind (view v)) vs same, list_all-whole (λ v. kind (view v)) read vs same, filter_map-filter_map (λ v. kind (view v)) read vs))

  pub list_in-value : list_all (λ v. is_some (kind (view v))) vs ≡ true
      → (is_within 1 most (length vs) && list_all (λ v. is_some (option_and_then read (kind (view v)))) vs) ≡ false
      → list_in kind most read key (map view vs) ≡ Err (faults.Value key)
  list_in-value same refused = list_in-taken same ∙ rw refused

  pub list_in-Ok : list_all (λ v. is_some (kind (view v))) vs ≡ true
      → (is_within 1 most (length vs) && list_all (λ v. is_some (option_and_then read (kind (view v)))) vs) ≡ true
      → list_in kind most read key (map view vs) ≡ Ok (filter_map (λ v. option_and_then read (kind (view v))) vs)
  list_in-Ok same fine = list_in-taken same ∙ rw fine

pub ruleset lists = (list_in-shape, list_in-value, list_in-Ok)

module _ (least most : ℕ) (key : ConfigKey) (vs : List Value) where
  pub tables_in-shape : list_all (λ v. is_some (as_table (view v))) vs ≡ false → tables_in least most key (map view vs) ≡ Err (faults.Shape key)
  unfolding tables_in
  tables_in-shape other = rw (list_all-map, other)

  tables_in-counted : list_all (λ v. is_some (as_table (view v))) vs ≡ true
      → tables_in least most key (map view vs) ≡ allowed key (cond (is_within least most (length vs)) (Some (filter_map (λ v. as_table (view v)) vs)) None)
  unfolding tables_in
  tables_in-counted same = rw (list_all-map, same, filter_map-map, length-whole (λ v. as_table (view v)) vs same)

  pub tables_in-value : list_all (λ v. is_some (as_table (view v))) vs ≡ true → is_within least most (length vs) ≡ false
      → tables_in least most key (map view vs) ≡ Err (faults.Value key)
  tables_in-value same refused = tables_in-counted same ∙ rw refused

  pub tables_in-Ok : list_all (λ v. is_some (as_table (view v))) vs ≡ true → is_within least most (length vs) ≡ true
      → tables_in least most key (map view vs) ≡ Ok (filter_map (λ v. as_table (view v)) vs)
  tables_in-Ok same fine = tables_in-counted same ∙ rw fine

pub ruleset tables = (tables_in-shape, tables_in-value, tables_in-Ok)
