-- Lists of calls of a cutter, and their effect.
use Rattle.std.specs.Prelude.{ℕ, ◌≡◌, ◌<◌, List, [], ◌∷◌, ◌++◌, Option, Some, None, length}
use Rattle.std.specs.Option.{option_to_list}
use Rattle.satip_ts.specs.Recording.{from_sync, cut_packets}

-- a call that took these bytes, or that returned this packet or None
pub data Call : Type 0 where
  Took : List ℕ → Call
  Answered : Option (List ℕ) → Call

-- the bytes that a cutter holds before and after a call
abbrev pub Does : List ℕ → Call → List ℕ → Type 0
Does old (Took bytes) new = new ≡ old ++ bytes
Does old (Answered None) new = (new ≡ from_sync old) × (length new < 188)
Does old (Answered (Some packet)) new = (packet ++ new ≡ from_sync old) × (length packet ≡ 188)

-- the bytes that it holds before and after a list of calls
abbrev pub DoAll : List ℕ → List Call → List ℕ → Type 0
DoAll old [] new = new ≡ old
DoAll old (call ∷ calls) new = (held : List ℕ) × Does old call held × DoAll held calls new

-- the bytes that a list of calls took
abbrev pub fed : List Call → List ℕ
fed [] = []
fed (Took bytes ∷ calls) = bytes ++ fed calls
fed (Answered _ ∷ calls) = fed calls

-- the packets that a list of calls returned
abbrev pub handed : List Call → List (List ℕ)
handed [] = []
handed (Took _ ∷ calls) = handed calls
handed (Answered packet ∷ calls) = option_to_list packet ++ handed calls

-- the packets returned are the first ones of the text fed, whatever bytes follow it; the others are cut from the held bytes and those that follow
abbrev pub HandsOutFirst : Type 0
HandsOutFirst =
    (calls : List Call) (held more : List ℕ) → DoAll [] calls held
    → cut_packets (fed calls ++ more) ≡ handed calls ++ cut_packets (held ++ more)

-- after a None the packets returned are all packets of the text fed
abbrev pub MissesNothing : Type 0
MissesNothing =
    (calls : List Call) (held : List ℕ) → DoAll [] (calls ++ Answered None ∷ []) held
    → cut_packets (fed calls) ≡ handed calls
