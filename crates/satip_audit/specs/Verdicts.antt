-- The verdict on journals: whether their entries are one legal history with every place once, and otherwise the first place that shows they aren't.
use Rattle.std.specs.Prelude.{◌≡◌, ◌≢◌, ℕ, zero, suc, ◌-◌, ◌==◌, List, [], ◌∷◌, ◌++◌, length, map, filter, take, slice_get, Some}
use Rattle.satip_base.specs.declared.limits.TheConstants.{REPLY_BYTES, EVENT_BYTES, EVENT_DATAGRAMS}
use Rattle.satip_base.specs.Output.{Datagram, Output, datagram_bytes}
use Rattle.satip_base.specs.History.{entry}
use Rattle.satip_plain.specs.declared.setting.Setting.{Setting}
use Rattle.satip_plain.specs.Types.{Config}
use Rattle.satip_plain.specs.Steps.{step}
use Rattle.satip_plain.specs.Histories.{Fits, Item, LegalFrom, after, opening}
use Rattle.satip_audit.specs.declared.verdicts.Verdict.{Verdict}
use Rattle.satip_audit.specs.declared.verdicts.Verdict.TheVariants.{NoStart, Repeated, Missing, Differs, Yes}
use Rattle.satip_audit.specs.Places.{HasTwice, IsLeast, IsMissing}
use Rattle.satip_audit.specs.Journals.{Note, Start, Entered, Placed}

-- the moments of start lines
abbrev pub starts : List Note → List ℕ
starts [] = []
starts (Start now ∷ notes) = now ∷ starts notes
starts (Entered p ∷ notes) = starts notes

-- the entries of lines
abbrev pub entered : List Note → List Placed
entered [] = []
entered (Start now ∷ notes) = entered notes
entered (Entered p ∷ notes) = p ∷ entered notes

-- the places of entries
abbrev pub places_in : List Placed → List ℕ
places_in entries = map (λ p. p.place) entries

-- the output of an `Out` that was empty before: this reply, these datagrams, and the room that is left
abbrev pub output_of : List ℕ → List Datagram → Output
output_of reply datagrams = record {
  reply = reply;
  datagrams = datagrams;
  reply_spare = REPLY_BYTES - length reply;
  datagram_spare = EVENT_BYTES - datagram_bytes datagrams;
  count_spare = EVENT_DATAGRAMS - length datagrams;
}

-- an entry of a history
abbrev pub item : Placed → Item
item p = entry p.caller p.entry.event p.entry.answer (output_of p.entry.reply p.entry.datagrams)

-- the entries that have a place
abbrev pub at_place : ℕ → List Placed → List Item
at_place place entries = map item (filter (λ p. p.place == place) entries)

-- the entries of count places from one on, in order of their places
abbrev pub in_order : ℕ → ℕ → List Placed → List Item
in_order place zero entries = []
in_order place (suc count) entries = at_place place entries ++ in_order (suc place) count entries

-- the entries in order of their places, as many places as there are entries
abbrev pub history : List Placed → List Item
history entries = in_order 0 (length entries) entries

-- each place up to the highest is named once
pub record AreApart (entries : List Placed) : Type 0 where
  pub none_twice : (place : ℕ) → HasTwice (places_in entries) place → ⊥
  pub none_missing : (place : ℕ) → IsMissing (places_in entries) place → ⊥

-- the entries before a place are legal, and the entry there differs from the result of its event
pub record DiffersAt (c : Setting) (h : List Item) (place : ℕ) : Type 0 where
  pub before : LegalFrom c.config (opening c) (take place h)
  pub here : Item
  pub stands : slice_get h place ≡ Some here
  pub differs : Fits (step c.config (after c (take place h)) here.event) here → ⊥

-- the setting of a configuration and a start
abbrev pub setting : Config → ℕ → Setting
setting config start = record { config = config; start = start }

-- there is one start line, and this is the least place that two entries have
pub record IsRepeated (notes : List Note) (place : ℕ) : Type 0 where
  pub one_start : length (starts notes) ≡ 1
  pub least : IsLeast (λ q. HasTwice (places_in (entered notes)) q) place

-- there is one start line, no place twice, and this is the least missing place
pub record LacksPlace (notes : List Note) (place : ℕ) : Type 0 where
  pub one_start : length (starts notes) ≡ 1
  pub none_twice : (q : ℕ) → HasTwice (places_in (entered notes)) q → ⊥
  pub least : IsLeast (λ q. IsMissing (places_in (entered notes)) q) place

-- there is one start line, each place once, and the entry at this place is the first that differs
pub record IsOther (config : Config) (notes : List Note) (place : ℕ) : Type 0 where
  pub start : ℕ
  pub one_start : starts notes ≡ start ∷ []
  pub apart : AreApart (entered notes)
  pub differs : DiffersAt (setting config start) (history (entered notes)) place

-- there is one start line, each place once, and the entries are a legal history of this length
pub record IsOneHistory (config : Config) (notes : List Note) (count : ℕ) : Type 0 where
  pub start : ℕ
  pub one_start : starts notes ≡ start ∷ []
  pub apart : AreApart (entered notes)
  pub legal : LegalFrom config (opening (setting config start)) (history (entered notes))
  pub count_is : count ≡ length (entered notes)

-- the verdict on notes by a configuration: the first of these that applies
abbrev pub IsVerdict : Config → List Note → Verdict → Type 0
IsVerdict config notes NoStart = length (starts notes) ≢ 1
IsVerdict config notes (Repeated place) = IsRepeated notes place
IsVerdict config notes (Missing place) = LacksPlace notes place
IsVerdict config notes (Differs place) = IsOther config notes place
IsVerdict config notes (Yes count) = IsOneHistory config notes count
