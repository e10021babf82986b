-- Once a text is a document, each fault is that of a key.
use Rattle.std.proofs.Common.{◌≡◌, ◌≢◌, ℕ, suc, ◌<◌, List, length, [], ◌∷◌, Option, Some, None, Result, Ok, Err, subst, arith}
use Rattle.std.proofs.lemmas.Bool.Decides.{nat_tests}
use Rattle.toml.specs.Data.{Data, Members, as_integer, as_str, as_table}
use Rattle.satip_tune.specs.Words.{pol_named, system_named}
use Rattle.satip_base.specs.Numbers.{ip_of}
use Rattle.satip_config.specs.declared.key.ConfigKey.{ConfigKey}
use Rattle.satip_config.specs.declared.key.ConfigName.TheVariants as names
use Rattle.satip_config.specs.declared.fault.ConfigFault.{ConfigFault}
use Rattle.satip_config.specs.declared.fault.ConfigFault.TheVariants.{Long, NotToml, Shape, Value, Want}
use Rattle.satip_config.specs.Keys.{top_key, front_key, mux_key}
use Rattle.satip_config.specs.Steps.{Reading, Reads, ◌>>=◌, of_kind, allowed, counted, whole}
use Rattle.satip_config.specs.Values.{value_at, required, within, number, number_at, number_unless_missing, number_or, text_at, word_at, khz_of, array, array_at, all_of, list_in, tables_in}
use Rattle.satip_tune.specs.Configuration.{Configuration}
use Rattle.satip_config.specs.Entries.{sources_in, systems_in, front_at, mux_at, entries, recordings}
use Rattle.satip_config.specs.Config.{fronts_in, fronts_of, recordings_in, recordings_unless_missing, recordings_of, configuration_of, document_of}

abbrev pub IsKeyFault : ConfigFault → Type 0
IsKeyFault Long = ⊥
IsKeyFault NotToml = ⊥
IsKeyFault (Shape key) = Unit {0}
IsKeyFault (Value key) = Unit {0}
IsKeyFault Want = ⊥

-- a reading that fails at a key, if it fails
abbrev pub FailsAtKey : {A : Type 0} → Reading A → Type 0
FailsAtKey (Ok x) = Unit {0}
FailsAtKey (Err fault) = IsKeyFault fault

then : {A B : Type 0} (first : Reading A) (next : A → Reading B) → FailsAtKey first → ((x : A) → FailsAtKey (next x)) → FailsAtKey (first >>= next)
then (Ok x) next here later = later x
then (Err fault) next here later = here

of_kind-key : {A : Type 0} (key : ConfigKey) (o : Option A) → FailsAtKey (of_kind key o)
of_kind-key key None = tt
of_kind-key key (Some x) = tt

allowed-key : {A : Type 0} (key : ConfigKey) (o : Option A) → FailsAtKey (allowed key o)
allowed-key key None = tt
allowed-key key (Some x) = tt

number-key : (least most : ℕ) (key : ConfigKey) (d : Data) → FailsAtKey (number least most key d)
unfolding number
number-key least most key d = then (of_kind key (as_integer d)) _ (of_kind-key key (as_integer d)) (λ z. allowed-key key (within least most z))

number_at-key : (least most : ℕ) (key : ConfigKey) (table : Members) → FailsAtKey (number_at least most key table)
unfolding number_at
number_at-key least most key table = then (required key table) _ (of_kind-key key (value_at key table)) (number-key least most key)

number_unless_missing-key : (default least most : ℕ) (key : ConfigKey) (o : Option Data) → FailsAtKey (number_unless_missing default least most key o)
number_unless_missing-key default least most key None = tt
number_unless_missing-key default least most key (Some d) = number-key least most key d

number_or-key : (default least most : ℕ) (key : ConfigKey) (table : Members) → FailsAtKey (number_or default least most key table)
unfolding number_or
number_or-key default least most key table = number_unless_missing-key default least most key (value_at key table)

text_at-key : (key : ConfigKey) (table : Members) → FailsAtKey (text_at key table)
unfolding text_at
text_at-key key table = then (required key table) _ (of_kind-key key (value_at key table)) (λ d. of_kind-key key (as_str d))

word_at-key : {A : Type 0} (read : List ℕ → Option A) (key : ConfigKey) (table : Members) → FailsAtKey (word_at read key table)
unfolding word_at
word_at-key read key table = then (text_at key table) _ (text_at-key key table) (λ text. allowed-key key (read text))

array-key : (key : ConfigKey) (d : Data) → FailsAtKey (array key d)
unfolding array
array-key key d = of_kind-key key _

array_at-key : (key : ConfigKey) (table : Members) → FailsAtKey (array_at key table)
unfolding array_at
array_at-key key table = then (required key table) _ (of_kind-key key (value_at key table)) (array-key key)

list_in-key : {A B : Type 0} (kind : Data → Option A) (most : ℕ) (read : A → Option B) (key : ConfigKey) (values : List Data)
    → FailsAtKey (list_in kind most read key values)
unfolding list_in
list_in-key kind most read key values =
    then (all_of kind key values) _ (of_kind-key key (whole kind values)) (λ items.
    then (allowed key (counted 1 most items)) _ (allowed-key key (counted 1 most items)) (λ some. allowed-key key (whole read some)))

tables_in-key : (least most : ℕ) (key : ConfigKey) (values : List Data) → FailsAtKey (tables_in least most key values)
unfolding tables_in
tables_in-key least most key values =
    then (all_of as_table key values) _ (of_kind-key key (whole as_table values)) (λ tables. allowed-key key (counted least most tables))

sources_in-key : (key : ConfigKey) (values : List Data) → FailsAtKey (sources_in key values)
unfolding sources_in
sources_in-key key values = then (list_in as_integer 255 (within 1 255) key values) _ (list_in-key as_integer 255 (within 1 255) key values) (λ numbers. tt)

systems_in-key : (key : ConfigKey) (values : List Data) → FailsAtKey (systems_in key values)
unfolding systems_in
systems_in-key key values = then (list_in as_str 2 system_named key values) _ (list_in-key as_str 2 system_named key values) (λ systems. tt)

front_at-key : (n : ℕ) (table : Members) → FailsAtKey (front_at n table)
unfolding front_at
front_at-key n table =
    then (array_at (front_key n names.Sources) table >>= sources_in (front_key n names.Sources)) _
    (then (array_at (front_key n names.Sources) table) _ (array_at-key _ table) (sources_in-key _)) (λ sources.
    then (array_at (front_key n names.Systems) table >>= systems_in (front_key n names.Systems)) _
    (then (array_at (front_key n names.Systems) table) _ (array_at-key _ table) (systems_in-key _)) (λ systems. tt))

mux_at-key : (n : ℕ) (table : Members) → FailsAtKey (mux_at n table)
unfolding mux_at
mux_at-key n table =
    then (number_at 1 255 (mux_key n names.Src) table) _ (number_at-key 1 255 _ table) (λ src.
    then (word_at khz_of (mux_key n names.Freq) table) _ (word_at-key khz_of _ table) (λ freq.
    then (word_at pol_named (mux_key n names.Pol) table) _ (word_at-key pol_named _ table) (λ pol.
    then (word_at system_named (mux_key n names.Msys) table) _ (word_at-key system_named _ table) (λ msys.
    then (number_at 1 99999 (mux_key n names.Sr) table) _ (number_at-key 1 99999 _ table) (λ sr.
    then (word_at (counted 1 255) (mux_key n names.File) table) _ (word_at-key (counted 1 255) _ table) (λ file. tt))))))

entries-key : {A : Type 0} (entry_at : ℕ → Members → Reading A) → ((n : ℕ) (table : Members) → FailsAtKey (entry_at n table)) → (n : ℕ) (tables : List Members)
    → FailsAtKey (entries entry_at n tables)
unfolding entries
entries-key entry_at each n [] = tt
entries-key entry_at each n (table ∷ tables) =
    then (entry_at n table) _ (each n table) (λ x. then (entries entry_at (suc n) tables) _ (entries-key entry_at each (suc n) tables) (λ xs. tt))

fronts_of-key : (table : Members) → FailsAtKey (fronts_of table)
unfolding fronts_of fronts_in
fronts_of-key table =
    then (array_at (top_key names.Frontend) table) _ (array_at-key _ table) (λ values.
    then (tables_in 1 16 (top_key names.Frontend) values) _ (tables_in-key 1 16 _ values) (entries-key front_at front_at-key 1))

recordings_unless_missing-key : (o : Option Data) → FailsAtKey (recordings_unless_missing o)
unfolding recordings_in recordings
recordings_unless_missing-key None = tt
recordings_unless_missing-key (Some d) =
    then (array (top_key names.Mux) d) _ (array-key _ d) (λ values.
    then (tables_in 0 256 (top_key names.Mux) values) _ (tables_in-key 0 256 _ values) (λ tables.
    then (entries mux_at 1 tables) _ (entries-key mux_at mux_at-key 1 tables) (λ found. tt)))

recordings_of-key : (table : Members) → FailsAtKey (recordings_of table)
unfolding recordings_of
recordings_of-key table = recordings_unless_missing-key (value_at (top_key names.Mux) table)

configuration_of-key : (table : Members) → FailsAtKey (configuration_of table)
unfolding configuration_of
configuration_of-key table =
    then (word_at ip_of (top_key names.Address) table) _ (word_at-key ip_of _ table) (λ address.
    then (number_or 554 1 65535 (top_key names.RtspPort) table) _ (number_or-key 554 1 65535 _ table) (λ rtsp_port.
    then (number_or 8875 1 65535 (top_key names.HttpPort) table) _ (number_or-key 8875 1 65535 _ table) (λ http_port.
    then (number_or 60 10 3600 (top_key names.Timeout) table) _ (number_or-key 60 10 3600 _ table) (λ timeout.
    then (number_or 8 1 64 (top_key names.Workers) table) _ (number_or-key 8 1 64 _ table) (λ workers.
    then (fronts_of table) _ (fronts_of-key table) (λ fronts.
    then (recordings_of table) _ (recordings_of-key table) (λ found. tt)))))))

same_fault : (reading : Reading Configuration) (e : ConfigFault) → FailsAtKey reading → reading ≡ Err e → IsKeyFault e
same_fault (Ok c) e here is = absurd cc
same_fault (Err fault) e here is = let same : fault ≡ e = cc in subst IsKeyFault same here

-- the faults of a document are of its keys, but for memory
pub configuration_of-Err : (table : Members) (e : ConfigFault) → configuration_of table ≡ Err e → IsKeyFault e
configuration_of-Err table e is = same_fault (configuration_of table) e (configuration_of-key table) is

-- an answer from a document is no fault but of its keys, or of memory
pub answer-key : (table : Members) (answer : Result Configuration ConfigFault) (e : ConfigFault) → Reads answer (configuration_of table) → answer ≡ Err e
    → e ≢ Want → IsKeyFault e
answer-key table (Ok c) e h is other = absurd cc
answer-key table (Err fault) e h is other =
    let same : fault ≡ e = cc in
    configuration_of-Err table e (rw (← same) (h (λ want. other (rw (← same) want))))

-- a text that is a document isn't too long
pub document_of-short : (bytes : List ℕ) (table : Members) → document_of bytes ≡ Ok table → 1048576 < length bytes → ⊥
document_of-short bytes table found long = grind (arith, nat_tests)
