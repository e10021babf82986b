-- Reading step by step, up to the first fault.
use Rattle.std.specs.Prelude.{◌≡◌, ◌≢◌, MatchResult, ℕ, Bool, ◌&&◌, nat_le, List, length, is_some, Option, Some, None, Result, Ok, Err, if◌then◌else◌}
use Rattle.std.specs.List.{list_all, filter_map}
use Rattle.std.specs.Option.{ok_or}
use Rattle.satip_config.specs.declared.key.ConfigKey.{ConfigKey}
use Rattle.satip_config.specs.declared.fault.ConfigFault.{ConfigFault}
use Rattle.satip_config.specs.declared.fault.ConfigFault.TheVariants as faults

-- the value that is read, or the first fault
abbrev pub Reading : Type 0 → Type 0
Reading A = Result A ConfigFault

-- the next step after a value was read, or the fault
infixl 10 ◌>>=◌
abbrev pub ◌>>=◌ : {A B : Type 0} → Reading A → (A → Reading B) → Reading B
Ok x >>= next = next x
Err fault >>= next = Err fault

-- the value, if it has the kind that the key requires
abbrev pub of_kind : {A : Type 0} → ConfigKey → Option A → Reading A
of_kind key found = ok_or found (faults.Shape key)

-- the value, if the key allows it
abbrev pub allowed : {A : Type 0} → ConfigKey → Option A → Reading A
allowed key found = ok_or found (faults.Value key)

-- whether a number is from `least` to `most`
abbrev pub is_within : ℕ → ℕ → ℕ → Bool
is_within least most n = nat_le least n && nat_le n most

-- the list, if it has from `least` to `most` elements
abbrev pub counted : {A : Type 0} → ℕ → ℕ → List A → Option (List A)
counted least most xs = if is_within least most (length xs) then Some xs else None

-- the results of f for all elements, if it has one for each
abbrev pub whole : {A B : Type 0} → (A → Option B) → List A → Option (List B)
whole f xs = if list_all (λ x. is_some (f x)) xs then Some (filter_map f xs) else None

-- the answer is this reading, or out of memory
abbrev pub Reads : {A : Type 0} → Result A ConfigFault → Reading A → Type 0
Reads answer reading = MatchResult answer (λ x. reading ≡ Ok x) (λ fault. fault ≢ faults.Want → reading ≡ Err fault)
