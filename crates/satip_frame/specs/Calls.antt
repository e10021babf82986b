-- Lists of calls of a framer, and their effect.
use Rattle.std.specs.Prelude.{◌≡◌, ℕ, List, [], ◌∷◌, ◌++◌, Some}
use Rattle.satip_frame.specs.declared.framing.Step.TheVariants.{Message}
use Rattle.satip_frame.specs.Said.{Said}
use Rattle.satip_frame.specs.Stream.{Tail, Messages, Leads, AreFirst}
use Rattle.satip_frame.specs.Held.{Held, new_framer, step_of, Tells}

-- a feed that took these bytes, or a step that found this message or returned this tail
pub data Call : Type 0 where
  Took : List ℕ → Call
  Found : Said → Call
  Told : Tail → Call

-- a framer before and after a call, by the clauses `bytes` of `feed` and `told` of `next`
abbrev pub Does : Held → Call → Held → Type 0
Does old (Took bytes) new = new.bytes ≡ old.bytes ++ bytes
Does old (Found m) new =
    (new.found ≡ Some m) × ((text : List ℕ) (ms : List Said) → Leads text ms old.bytes → Tells text ms new Message)
Does old (Told tail) new = (text : List ℕ) (ms : List Said) → Leads text ms old.bytes → Tells text ms new (step_of tail)

-- a holder of bytes before and after a list of calls, if this relation is the effect of each call
abbrev pub DoEach : {Holder : Type 0} → (Holder → Call → Holder → Type 0) → Holder → List Call → Holder → Type 0
DoEach does old [] new = old ≡ new
DoEach {Holder} does old (call ∷ calls) new = (next : Holder) × does old call next × DoEach does next calls new

-- a framer before and after a list of calls
abbrev pub DoAll : Held → List Call → Held → Type 0
DoAll = DoEach Does

-- the bytes that a list of calls took
abbrev pub fed : List Call → List ℕ
fed [] = []
fed (Took bytes ∷ calls) = bytes ++ fed calls
fed (Found _ ∷ calls) = fed calls
fed (Told _ ∷ calls) = fed calls

-- the messages that a list of calls found
abbrev pub handed : List Call → List Said
handed [] = []
handed (Took _ ∷ calls) = handed calls
handed (Found m ∷ calls) = m ∷ handed calls
handed (Told _ ∷ calls) = handed calls

-- however the text is cut into pieces, the messages found are the first ones of the text fed
abbrev pub HandsOutFirst : Type 0
HandsOutFirst = (calls : List Call) (held : Held) → DoAll new_framer calls held → AreFirst (handed calls) (fed calls)

-- after a step that returned a tail, they are all messages of the text fed, and that is its tail
abbrev pub MissesNothing : Type 0
MissesNothing =
    (calls : List Call) (tail : Tail) (held : Held) → DoAll new_framer (calls ++ Told tail ∷ []) held
    → Messages (fed calls) (handed calls) tail
