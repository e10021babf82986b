-- Lists of calls of a parter, and their effect.
use Rattle.std.specs.Prelude.{◌≡◌, ℕ, List, [], ◌∷◌, ◌++◌, Some}
use Rattle.satip_frame.specs.declared.framing.Step.TheVariants.{Message}
use Rattle.satip_frame.specs.Said.{Said}
use Rattle.satip_frame.specs.Stream.{Tail}
use Rattle.satip_frame.specs.Held.{step_of}
use Rattle.satip_frame.specs.Calls.{Call, Took, Found, Told, DoEach, fed, handed}
use Rattle.satip_rtsp_interleaved.specs.Parts.{Parts, AreFirst}
use Rattle.satip_rtsp_interleaved.specs.Held.{Held, new_parter, IsReadUpTo, Tells}

-- a parter before and after a call, by the clauses `bytes` and `to_come` of `feed`, and `told` of `next`
abbrev pub Does : Held → Call → Held → Type 0
Does old (Took bytes) new = (new.bytes ≡ old.bytes ++ bytes) × (new.to_come ≡ old.to_come)
Does old (Found m) new =
    (new.found ≡ Some m) × ((text : List ℕ) (ms : List Said) → IsReadUpTo text ms old → Tells text ms new Message)
Does old (Told tail) new = (text : List ℕ) (ms : List Said) → IsReadUpTo text ms old → Tells text ms new (step_of tail)

-- a parter before and after a list of calls
abbrev pub DoAll : Held → List Call → Held → Type 0
DoAll = DoEach Does

-- however the text is cut into pieces, the messages found are the first ones of the text fed; after a step that returned a tail, they are all messages of the
-- text fed, and that is its tail
pub record PartsLaw : Type 0 where
  pub first : (calls : List Call) (held : Held) → DoAll new_parter calls held → AreFirst (handed calls) (fed calls)
  pub complete : (calls : List Call) (tail : Tail) (held : Held) → DoAll new_parter (calls ++ Told tail ∷ []) held
      → Parts (fed calls) (handed calls) tail
