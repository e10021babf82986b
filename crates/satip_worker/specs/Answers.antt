-- Readings of entries: their events, their datagrams, and whether a connection ends with the last of them.
use Rattle.std.specs.Prelude.{Bool, true, false, List, [], ◌∷◌, map}
use Rattle.std.specs.List.{flat_map}
use Rattle.satip_base.specs.Output.{Datagram}
use Rattle.satip_plain.specs.declared.answers.Answer.{Answer}
use Rattle.satip_plain.specs.declared.answers.Answer.TheVariants.{Replied, Get, Pulled}
use Rattle.satip_plain.specs.declared.answers.GetAnswer.TheVariants.{Refused}
use Rattle.satip_plain.specs.declared.answers.Pulled.TheVariants.{Gone}
use Rattle.satip_plain.specs.declared.events.Event.{Event}
use Rattle.satip_plain.specs.Histories.{Item}

-- the events of entries, in order
abbrev pub events_of : List Item → List Event
events_of entries = map (λ entry. entry.event) entries

-- the datagrams of entries, in order
abbrev pub datagrams_of : List Item → List Datagram
datagrams_of entries = flat_map (λ entry. entry.out.datagrams) entries

-- whether a connection ends with an answer: a closing reply, a refused GET, or a pull of a session that is gone
abbrev pub ends_with : Answer → Bool
ends_with (Replied replied) = replied.closing
ends_with (Get (Refused status)) = true
ends_with (Pulled Gone) = true
ends_with _ = false

-- whether a connection ends with the last of these entries
abbrev pub ends_with_last : List Item → Bool
ends_with_last [] = false
ends_with_last (entry ∷ []) = ends_with entry.answer
ends_with_last (entry ∷ next ∷ entries) = ends_with_last (next ∷ entries)
