-- The bytes that are written of a catcher's items, and the lines of its gaps.
use Rattle.std.specs.Prelude.{◌≡◌, ℕ, ◌-◌, zero, suc, Bool, true, false, List, [], ◌∷◌, ◌++◌, length, take, decimal, codes}
use Rattle.satip_base.specs.Streams.{Drain, PutAll, FailedToPut}
use Rattle.satip_base.specs.declared.streams.Put.{Put}
use Rattle.satip_base.specs.declared.streams.Put.TheVariants.{Whole, Failed}
use Rattle.satip_rtp_receiver.specs.declared.item.Item.{Item}
use Rattle.satip_rtp_receiver.specs.declared.item.Item.TheVariants.{Data, Gap}
use Rattle.satip_recorder.specs.declared.tape.Tape.{Tape}

-- the bytes of the packets of items
abbrev pub packets_in : List Item → List ℕ
packets_in [] = []
packets_in (Data number packets ∷ items) = packets ++ packets_in items
packets_in (Gap from count ∷ items) = packets_in items

-- the line of a gap: the first missing number, and how many are missing
unfoldable pub gap_line : (from count : ℕ) → List ℕ
gap_line from count = codes "gap " ++ decimal from ++ codes " " ++ decimal count ++ (10 ∷ [])

-- the lines of the gaps among items, up to the item that completes this number of bytes
abbrev pub gap_lines : ℕ → List Item → List ℕ
gap_lines zero items = []
gap_lines (suc left) [] = []
gap_lines (suc left) (Data number packets ∷ items) = gap_lines (suc left - length packets) items
gap_lines (suc left) (Gap from count ∷ items) = gap_line from count ++ gap_lines (suc left) items

-- lines were logged; after a line that couldn't be logged whole, none is
abbrev pub Tells : (tells : Type 0) (o n : Drain) (lines : List ℕ) (before now : Bool) → Type 0
Tells tells o n lines false false = PutAll tells o n lines
Tells tells o n lines false true = FailedToPut tells o n lines
Tells tells o n lines true false = ⊥
Tells tells o n lines true true = n ≡ o

-- whether a line couldn't be logged
abbrev pub is_muted : Put → Bool
is_muted Whole = false
is_muted Failed = true

-- bytes were written, up to the number still to be written
abbrev pub PutsPackets : (tells : Type 0) (o n : Drain) (before now : Tape) (bytes : List ℕ) → Put → Type 0
PutsPackets tells o n before now bytes Whole =
    PutAll tells o n (take before.left bytes) × (now.left ≡ before.left - length bytes) × (now.muted ≡ before.muted)
PutsPackets tells o n before now bytes Failed = FailedToPut tells o n (take before.left bytes) × (now.muted ≡ before.muted)

-- the bytes still to be written, the output and the error sink
pub record Deck : Type 0 where
  pub tape : Tape
  pub output : Drain
  pub errors : Drain

abbrev pub deck : Tape → Drain → Drain → Deck
deck tape output errors = record { tape = tape; output = output; errors = errors }

-- the packets of these items were written, up to the number of bytes still to be written, and their gaps were logged
pub record Taped (tells tells_lines : Type 0) (o n : Deck) (items : List Item) : Type 0 where
  pub written : PutAll tells o.output n.output (take o.tape.left (packets_in items))
  pub left : n.tape.left ≡ o.tape.left - length (packets_in items)
  pub told : Tells tells_lines o.errors n.errors (gap_lines o.tape.left items) o.tape.muted n.tape.muted

-- the output failed while a prefix of these items was written
pub record TapeFailed (tells tells_lines : Type 0) (o n : Deck) (items : List Item) : Type 0 where
  pub handed : List Item
  pub rest : List Item
  pub whole : items ≡ handed ++ rest
  pub written : FailedToPut tells o.output n.output (take o.tape.left (packets_in handed))
  pub told : Tells tells_lines o.errors n.errors (gap_lines o.tape.left handed) o.tape.muted n.tape.muted

-- the outcome of writing items
abbrev pub TapesAs : (tells tells_lines : Type 0) (o n : Deck) (items : List Item) → Put → Type 0
TapesAs tells tells_lines o n items Whole = Taped tells tells_lines o n items
TapesAs tells tells_lines o n items Failed = TapeFailed tells tells_lines o n items
