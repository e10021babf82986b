-- The reasons why the service of a connection of a tunnel ends, and the state at each end.
use Rattle.std.specs.Prelude.{◌≡◌, ◌≢◌, ◌⊎◌, ℕ, ◌+◌, Bool, List, [], ◌∷◌}
use Rattle.satip_rtsp.specs.declared.requests.Request.{Request}
use Rattle.satip_interleave.specs.declared.events.TunnelEvent.TheVariants.{Leave}
use Rattle.satip_interleave.specs.declared.events.TunnelAnswer.{TunnelAnswer}
use Rattle.satip_interleave.specs.declared.events.TunnelAnswer.TheVariants.{Gone, Left}
use Rattle.satip_interleave.specs.Histories.{TunnelItem}
use Rattle.satip_world.specs.Lines.{Line}
use Rattle.satip_worker.specs.Ends.{EndedWell, ReadFailed, WriteFailed}
use Rattle.satip_tunnel.specs.declared.ends.TunnelEnd.{TunnelEnd}
use Rattle.satip_tunnel.specs.declared.ends.TunnelEnd.TheVariants.{Full, Broken, Done, ReadFault, WriteFault, Spent}
use Rattle.satip_tunnel.specs.Walk.{Stance, Free, Draining, Over, MayDrain}
use Rattle.satip_tunnel.specs.Wire.{wire, SentInPart}

-- the stance of the connection before its Leave, by each end: after a failed send it was still to drain
abbrev pub StopsAt : TunnelEnd → Stance → Type 0
StopsAt Full stance = ⊥
StopsAt Broken stance = stance ≡ Over
StopsAt Done stance = stance ≡ Free
StopsAt ReadFault stance = stance ≡ Free
StopsAt WriteFault stance = stance ≡ Draining
StopsAt Spent stance = MayDrain stance

-- the lane was given up, or wasn't held any more
abbrev pub IsGivenUp : TunnelAnswer → Type 0
IsGivenUp Left = Unit {0}
IsGivenUp Gone = Unit {0}
IsGivenUp _ = ⊥

-- exactly one Leave of the lane
abbrev pub IsLeave : ℕ → List TunnelItem → Type 0
IsLeave lane [] = ⊥
IsLeave lane (t ∷ []) = (t.event ≡ Leave lane) × IsGivenUp t.answer
IsLeave lane (t ∷ u ∷ ts) = ⊥

-- no Leave, since the history is full: `full` says that
abbrev pub IsUnleft : (full : Type 0) → List TunnelItem → Type 0
IsUnleft full last = (last ≡ []) × full

-- the last entry is a Leave, unless the history is full
abbrev pub Leaves : ℕ → (full : Type 0) → TunnelEnd → List TunnelItem → Type 0
Leaves lane full Full last = ⊥
Leaves lane full Broken last = IsLeave lane last ⊎ IsUnleft full last
Leaves lane full Done last = IsLeave lane last
Leaves lane full ReadFault last = IsLeave lane last
Leaves lane full WriteFault last = IsLeave lane last ⊎ IsUnleft full last
Leaves lane full Spent last = IsUnleft full last

-- the requests that have no entry: none after `Done` or a failed receive
abbrev pub LeftOver : TunnelEnd → List Request → Type 0
LeftOver Full left = Unit {0}
LeftOver Broken left = Unit {0}
LeftOver Done left = left ≡ []
LeftOver ReadFault left = left ≡ []
LeftOver WriteFault left = Unit {0}
LeftOver Spent left = Unit {0}

-- the number of draws taken: one for each executed request, and possibly one for a request that met a full history
abbrev pub DrawsTaken : TunnelEnd → (taken made : ℕ) → List Request → Type 0
DrawsTaken Full taken made left = taken ≡ made
DrawsTaken Broken taken made left = taken ≡ made
DrawsTaken Done taken made left = taken ≡ made
DrawsTaken ReadFault taken made left = taken ≡ made
DrawsTaken WriteFault taken made left = taken ≡ made
DrawsTaken Spent taken made left = (taken ≡ made) ⊎ ((taken ≡ made + 1) × (left ≢ []))

-- the bytes sent: the wire of the entries, or a prefix of it after a failed send
abbrev pub WireSent : TunnelEnd → List TunnelItem → List ℕ → Type 0
WireSent Full entries sent = sent ≡ wire entries
WireSent Broken entries sent = sent ≡ wire entries
WireSent Done entries sent = sent ≡ wire entries
WireSent ReadFault entries sent = sent ≡ wire entries
WireSent WriteFault entries sent = SentInPart entries sent
WireSent Spent entries sent = sent ≡ wire entries

-- the connection's state at each end; `over` says whether the last reply was a closing one
abbrev pub LineEnds : TunnelEnd → (o n : Line) (over : Bool) → Type 0
LineEnds Full o n over = Unit {0}
LineEnds Broken o n over = Unit {0}
LineEnds Done o n over = EndedWell o n over
LineEnds ReadFault o n over = ReadFailed o n over
LineEnds WriteFault o n over = WriteFailed o n
LineEnds Spent o n over = Unit {0}

-- the end of a connection whose lane can't be given up, since the history is full
abbrev pub unleft_end : TunnelEnd → TunnelEnd
unleft_end Full = Full
unleft_end Broken = Broken
unleft_end Done = Spent
unleft_end ReadFault = Spent
unleft_end WriteFault = WriteFault
unleft_end Spent = Spent
