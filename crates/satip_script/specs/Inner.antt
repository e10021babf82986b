-- Contracts of private functions.
use Rattle.std.specs.Prelude.{◌≡◌, ℕ, Bool, false, List, [], ◌∷◌, ◌++◌, Option, None, Some, Result, Ok, Err, IsSomeAnd}
use Rattle.std.specs.Borrow.{Bor}
use Rattle.httparse.specs.Pieces.{is_newline}
use Rattle.satip_base.specs.declared.outcomes.Want.{Want}
use Rattle.satip_frame.specs.Held.{Held}
use Rattle.satip_frame.specs.Stream.{Broken, Begins, Messages}
use Rattle.satip_plain.specs.Types.{Draw, Peer}
use Rattle.satip_script.specs.declared.messages.Look.{Look}
use Rattle.satip_script.specs.declared.messages.Look.TheVariants.{Whole as LookWhole, NotWhole as LookNotWhole, Nothing}
use Rattle.satip_script.specs.Lines.{three_words_of}
use Rattle.satip_script.specs.Forms.{Call}
use Rattle.satip_script.specs.InParts.{call_in}
use Rattle.satip_script.specs.Texts.{Told, Tells, TellsNothing}
use Rattle.std.specs.List.{slice_split}
use Rattle.satip_tune.specs.Pieces.{is_byte}

-- the words that were found
abbrev pub pair_now : Option (Bor (List ℕ) × Bor (List ℕ)) → Option (List ℕ × List ℕ)
pair_now None = None
pair_now (Some (a, b)) = Some (a.now, b.now)

-- the first two words and the rest after them, or None if there aren't three words
abbrev pub AreTwoAndRest : List (List ℕ) → Option (Bor (List ℕ) × Bor (List ℕ) × Bor (List ℕ)) → Type 0
AreTwoAndRest words None = three_words_of words ≡ None
AreTwoAndRest words (Some (first, second, rest)) = words ≡ first.now ∷ second.now ∷ slice_split (is_byte 32) rest.now

-- the call of a sender, a draw and digits
abbrev pub call_told : Option (Peer × Draw × Bor (List ℕ)) → Option Call
call_told None = None
call_told (Some (peer, draw, digits)) = call_in peer draw digits.now

-- whether a text begins with CR or LF
abbrev pub newline_first : List ℕ → Bool
newline_first [] = false
newline_first (b ∷ text) = is_newline b

-- the result of a look at a text; the framer holds a whole message
abbrev pub Sees : List ℕ → Held → Look → Type 0
Sees text held LookWhole = IsSomeAnd held.found (λ m. Begins text m [])
Sees text held (LookNotWhole cause) = Messages text [] (Broken cause)
Sees text held Nothing = TellsNothing text

-- the same for digits, if they are any
abbrev pub SeesIn : Option (List ℕ) → Held → Look → Type 0
SeesIn None held LookWhole = ⊥
SeesIn None held (LookNotWhole cause) = ⊥
SeesIn None held Nothing = Unit {0}
SeesIn (Some text) held look = Sees text held look

-- the digits are those of a text that is one message or broken
abbrev pub Says : Option (List ℕ) → Type 0
Says None = ⊥
Says (Some text) = (told : Told) × Tells text told

-- bytes were appended; out of memory, the text has only grown
abbrev pub Appended : Result Unit Want → List ℕ → List ℕ → List ℕ → Type 0
Appended (Ok done) o bs n = n ≡ o ++ bs
Appended (Err want) o bs n = (part : List ℕ) × (n ≡ o ++ part)
