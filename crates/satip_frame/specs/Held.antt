-- A framer: the bytes that it holds, the message that it found last, and the break of the text.
use Rattle.std.specs.Prelude.{◌-◌, ℕ, ◌++◌, List, [], ◌∷◌, length, min, Option, Some, None, IsSomeAnd}
use Rattle.satip_frame.specs.declared.framing.Break.{Break}
use Rattle.satip_frame.specs.declared.framing.Break.TheVariants.{Bad as cause_bad, TooLong as cause_too_long}
use Rattle.satip_frame.specs.declared.framing.Step.{Step}
use Rattle.satip_frame.specs.declared.framing.Step.TheVariants.{Message, More, Bad, TooLong}
use Rattle.satip_frame.specs.Said.{Said}
use Rattle.satip_frame.specs.Stream.{Tail, Unfinished, Broken, Messages, Leads}

-- the most bytes that a framer holds
abbrev pub capacity : ℕ
capacity = 12288

-- the bytes after the messages that were returned, the message that the last step found, and the break if the text is broken
pub record Held : Type 0 where
  pub bytes : List ℕ
  pub found : Option Said
  pub ended : Option Break

-- a framer to which nothing was fed
abbrev pub new_framer : Held
new_framer = record { bytes = []; found = None; ended = None }

-- the number of bytes of a piece of n that a framer takes: those that there is room for, and none after a break
abbrev pub bytes_taken : Held → ℕ → ℕ
bytes_taken held n = by_end held.ended
  where
    by_end : Option Break → ℕ
    by_end None = min n (capacity - length held.bytes)
    by_end (Some cause) = 0

-- the step that returns this tail of the text
abbrev pub step_of : Tail → Step
step_of Unfinished = More
step_of (Broken cause_bad) = Bad
step_of (Broken cause_too_long) = TooLong

-- the break that a step returns, if it is one
abbrev pub cause_of : Step → Option Break
cause_of Message = None
cause_of More = None
cause_of Bad = Some cause_bad
cause_of TooLong = Some cause_too_long

-- the step is right for a text of which the messages ms were returned before
abbrev pub Tells : List ℕ → List Said → Held → Step → Type 0
Tells text ms held Message = IsSomeAnd held.found (λ m. Leads text (ms ++ m ∷ []) held.bytes)
Tells text ms held More = Messages text ms Unfinished × Leads text ms held.bytes
Tells text ms held Bad = Messages text ms (Broken cause_bad) × Leads text ms held.bytes
Tells text ms held TooLong = Messages text ms (Broken cause_too_long) × Leads text ms held.bytes
