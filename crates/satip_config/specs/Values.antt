-- The values of a table's keys: first whether a value has the right kind, then whether it is allowed.
use Rattle.std.specs.Prelude.{ℕ, ℤ, pos, negsuc, List, [], ◌∷◌, Option, Some, None, option_map, Ok, if◌then◌else◌}
use Rattle.toml.specs.Data.{Data, Items, no_items, item, Members, get_member, as_str, as_integer, as_array, as_table}
use Rattle.std.specs.Result.{result_ok}
use Rattle.satip_tune.specs.Frequency.{frequency_of}
use Rattle.satip_config.specs.declared.key.ConfigKey.{ConfigKey}
use Rattle.satip_config.specs.Keys.{name_text}
use Rattle.satip_config.specs.Steps.{Reading, ◌>>=◌, of_kind, allowed, is_within, counted, whole}

-- the value of a key
abbrev pub value_at : ConfigKey → Members → Option Data
value_at key table = get_member (name_text key.name) table

-- the value of a required key
abbrev pub required : ConfigKey → Members → Reading Data
required key table = of_kind key (value_at key table)

-- the integer, if it is from `least` to `most`
abbrev pub within : ℕ → ℕ → ℤ → Option ℕ
within least most (pos n) = if is_within least most n then Some n else None
within least most (negsuc n) = None

-- the integer of a value, from `least` to `most`
unfoldable pub number : ℕ → ℕ → ConfigKey → Data → Reading ℕ
number least most key value = do
  found ← of_kind key (as_integer value)
  allowed key (within least most found)

-- the integer of a required key
unfoldable pub number_at : ℕ → ℕ → ConfigKey → Members → Reading ℕ
number_at least most key table = required key table >>= number least most key

-- the integer of an optional value, or the default if there is none
abbrev pub number_unless_missing : ℕ → ℕ → ℕ → ConfigKey → Option Data → Reading ℕ
number_unless_missing default least most key None = Ok default
number_unless_missing default least most key (Some value) = number least most key value

-- the integer of a key, or the default if the key is missing
unfoldable pub number_or : ℕ → ℕ → ℕ → ConfigKey → Members → Reading ℕ
number_or default least most key table = number_unless_missing default least most key (value_at key table)

-- the string of a required key
unfoldable pub text_at : ConfigKey → Members → Reading (List ℕ)
text_at key table = do
  value ← required key table
  of_kind key (as_str value)

-- the value that the string of a required key is parsed as
unfoldable pub word_at : {A : Type 0} → (List ℕ → Option A) → ConfigKey → Members → Reading A
word_at read key table = do
  text ← text_at key table
  allowed key (read text)

-- the frequency of a text, in kHz
abbrev pub khz_of : List ℕ → Option ℕ
khz_of text = result_ok (frequency_of text)

-- the items of an array
abbrev pub listed : Items → List Data
listed no_items = []
listed (item value values) = value ∷ listed values

-- the items of a value that is an array
unfoldable pub array : ConfigKey → Data → Reading (List Data)
array key value = of_kind key (option_map listed (as_array value))

-- the items of the array of a required key
unfoldable pub array_at : ConfigKey → Members → Reading (List Data)
array_at key table = required key table >>= array key

-- the items by f, if it has a value for each
abbrev pub all_of : {A : Type 0} → (Data → Option A) → ConfigKey → List Data → Reading (List A)
all_of f key values = of_kind key (whole f values)

-- 1 to `most` items, all of one kind, and each of them allowed
unfoldable pub list_in : {A B : Type 0} → (Data → Option A) → ℕ → (A → Option B) → ConfigKey → List Data → Reading (List B)
list_in kind most read key values = do
  items ← all_of kind key values
  some ← allowed key (counted 1 most items)
  allowed key (whole read some)

-- the tables of values, from `least` to `most` of them
unfoldable pub tables_in : ℕ → ℕ → ConfigKey → List Data → Reading (List Members)
tables_in least most key values = do
  tables ← all_of as_table key values
  allowed key (counted least most tables)
