-- A parter: the bytes that it holds, the frame that it is in, the message that it found last, and the break of the text.
use Rattle.std.specs.Prelude.{ℕ, ◌++◌, List, [], ◌∷◌, Option, None, IsSomeAnd}
use Rattle.satip_frame.specs.declared.framing.Break.{Break}
use Rattle.satip_frame.specs.declared.framing.Break.TheVariants.{Bad as cause_bad, TooLong as cause_too_long}
use Rattle.satip_frame.specs.declared.framing.Step.{Step}
use Rattle.satip_frame.specs.declared.framing.Step.TheVariants.{Message, More, Bad, TooLong}
use Rattle.satip_frame.specs.Said.{Said}
use Rattle.satip_frame.specs.Held.{bytes_taken as taken_by}
use Rattle.satip_frame.specs.Stream.{Unfinished, Broken}
use Rattle.satip_rtsp_interleaved.specs.Frames.{inside}
use Rattle.satip_rtsp_interleaved.specs.Parts.{Parts, Leads}

-- the number of bytes of a frame that are to follow, from the held bytes on; the bytes after the messages that were returned; the message that the last step
-- found; and the break if the text is broken
pub record Held : Type 0 where
  pub to_come : ℕ
  pub bytes : List ℕ
  pub found : Option Said
  pub ended : Option Break

-- a parter to which nothing was fed
abbrev pub new_parter : Held
new_parter = record { to_come = 0; bytes = []; found = None; ended = None }

-- the number of bytes of a piece of n that a parter takes: the same as a framer that holds the same bytes
abbrev pub bytes_taken : Held → ℕ → ℕ
bytes_taken held n = taken_by (record { bytes = held.bytes; found = held.found; ended = held.ended }) n

-- the text was read, with these messages, up to the held bytes
abbrev pub IsReadUpTo : List ℕ → List Said → Held → Type 0
IsReadUpTo text ms held = Leads text ms (inside held.to_come) held.bytes

-- the step is right for a text of which the messages ms were returned before
abbrev pub Tells : List ℕ → List Said → Held → Step → Type 0
Tells text ms held Message = IsSomeAnd held.found (λ m. IsReadUpTo text (ms ++ m ∷ []) held)
Tells text ms held More = Parts text ms Unfinished × IsReadUpTo text ms held
Tells text ms held Bad = Parts text ms (Broken cause_bad) × IsReadUpTo text ms held
Tells text ms held TooLong = Parts text ms (Broken cause_too_long) × IsReadUpTo text ms held
