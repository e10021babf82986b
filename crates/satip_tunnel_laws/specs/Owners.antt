-- The owner of a lane: the caller that drains it and gives it up.
use Rattle.std.specs.Prelude.{◌≡◌, ℕ, ◌==◌, Bool, true, false, List, [], ◌∷◌, ◌++◌}
use Rattle.std.specs.List.{concat, flat_map}
use Rattle.satip_base.specs.History.{own_of}
use Rattle.satip_base.specs.Lists.{Begins, Each, Has}
use Rattle.satip_plain.specs.declared.setting.Setting.{Setting}
use Rattle.satip_interleave.specs.declared.events.TunnelEvent.{TunnelEvent}
use Rattle.satip_interleave.specs.declared.events.TunnelEvent.TheVariants.{Enter, Drain, Leave}
use Rattle.satip_interleave.specs.declared.events.TunnelAnswer.{TunnelAnswer}
use Rattle.satip_interleave.specs.declared.events.TunnelAnswer.TheVariants.{Lane, Empty}
use Rattle.satip_interleave.specs.Histories.{TunnelItem, TunnelLegal}
use Rattle.satip_tunnel_laws.specs.LaneFrames.{EndsEmpty, drained, drains, enters, lane}

-- whether an event drains the lane or gives it up
abbrev pub touches : ℕ → TunnelEvent → Bool
touches x (Drain number) = number == x
touches x (Leave number) = number == x
touches x event = false

-- the lane that an entry gives its caller, if it gives one
abbrev pub given_by : TunnelEvent → TunnelAnswer → List ℕ
given_by Enter (Lane number) = number ∷ []
given_by event answer = []

-- the lane that an event drains or gives up is one of those given
abbrev pub IsOfGiven : List ℕ → TunnelEvent → Type 0
IsOfGiven given (Drain number) = Has number given
IsOfGiven given (Leave number) = Has number given
IsOfGiven given event = Unit {0}

-- a caller that was given these lanes drains and gives up no others, but for those that these entries give it
abbrev pub DrainsGiven : List ℕ → List TunnelItem → Type 0
DrainsGiven given [] = Unit {0}
DrainsGiven given (t ∷ ts) = IsOfGiven given t.event × DrainsGiven (given_by t.event t.answer ++ given) ts

-- each lane that these entries drain or give up was given by an earlier one of them
abbrev pub DrainsOwn : List TunnelItem → Type 0
DrainsOwn entries = DrainsGiven [] entries

-- each entry has a caller with one of these numbers, and each such caller drains and gives up only lanes that it was given
pub record CallersDrainOwn (numbers : List ℕ) (h : List TunnelItem) : Type 0 where
  pub covered : Each (λ t. Has t.caller numbers) h
  pub own : Each (λ n. DrainsOwn (own_of n h)) numbers

-- an entry of this caller was given the lane
pub record IsGivenTo (caller x : ℕ) (h : List TunnelItem) : Type 0 where
  pub item : TunnelItem
  pub has : Has item h
  pub given : enters x item.event item.answer ≡ true
  pub is_of : item.caller ≡ caller

-- the entry after these is the last drain of the lane in the caller's entries, and was answered that no frame waits
pub record OwnEndsEmpty (h before : List TunnelItem) (caller x : ℕ) : Type 0 where
  pub last : TunnelItem
  pub later : List TunnelItem
  pub whole : h ≡ before ++ last ∷ later
  pub drained : drains x last.event ≡ true
  pub empty : last.answer ≡ Empty
  pub no_more : Each (λ t. drains x t.event ≡ false) (own_of caller later)

-- each entry that drains the lane or gives it up is of this caller. The caller's drains took a prefix of the lane's frames, each of them whole. If the last of
-- these drains was answered that no frame waits, they took all frames that the lane had before it
pub record IsLaneOf (h : List TunnelItem) (caller x : ℕ) : Type 0 where
  pub only : Each (λ t. touches x t.event ≡ true → t.caller ≡ caller) h
  pub taken : List (List ℕ)
  pub joined : concat taken ≡ drained (own_of caller h) x
  pub first : Begins taken (lane h x)
  pub all : (before : List TunnelItem) → OwnEndsEmpty h before caller x → taken ≡ lane before x

-- the same for each legal history in which callers drain only lanes that they were given
abbrev pub LanesAreOwn : Type 0
LanesAreOwn =
    (c : Setting) (h : List TunnelItem) (numbers : List ℕ) (caller x : ℕ) → TunnelLegal c h → CallersDrainOwn numbers h → IsGivenTo caller x h
    → IsLaneOf h caller x

-- the entries of one connection of a caller, after those of earlier connections and before those of later ones. Each of the three parts drains only lanes that
-- are given in that part
pub record IsConnectionOf (h before entries : List TunnelItem) (caller : ℕ) : Type 0 where
  pub after : List TunnelItem
  pub whole : own_of caller h ≡ before ++ (entries ++ after)
  pub before_own : DrainsOwn before
  pub own : DrainsOwn entries
  pub after_own : DrainsOwn after

-- these frames are all that the lane had directly before this entry of the history. It is the caller's next entry after these
pub record AreAllBefore (h own : List TunnelItem) (entry : TunnelItem) (caller x : ℕ) (taken : List (List ℕ)) : Type 0 where
  pub earlier : List TunnelItem
  pub later : List TunnelItem
  pub whole : h ≡ earlier ++ entry ∷ later
  pub is_of : entry.caller ≡ caller
  pub is_own : own_of caller earlier ≡ own
  pub all : taken ≡ lane earlier x

-- a connection's drains of its lane took a prefix of the lane's frames, each of them whole. If the last of these drains was answered that no frame waits, they
-- took all frames that the lane had before that drain
pub record IsLaneOfConnection (h before entries : List TunnelItem) (caller x : ℕ) : Type 0 where
  pub taken : List (List ℕ)
  pub joined : concat taken ≡ drained entries x
  pub first : Begins taken (lane h x)
  pub all : (part : List TunnelItem) → (ends : EndsEmpty entries part x) → AreAllBefore h (before ++ part) ends.last caller x taken

-- the same for each connection that is given a lane, if callers drain only lanes that they were given
abbrev pub ConnectionsTakeFirst : Type 0
ConnectionsTakeFirst =
    (c : Setting) (h before entries : List TunnelItem) (numbers : List ℕ) (caller x : ℕ) → TunnelLegal c h → CallersDrainOwn numbers h
    → IsConnectionOf h before entries caller → IsGivenTo caller x entries → IsLaneOfConnection h before entries caller x

-- if each part of a caller's entries drains only lanes given in that part, then all entries drain only lanes that the caller was given
abbrev pub PartsDrainOwn : Type 0
PartsDrainOwn = (parts : List (List TunnelItem)) → Each DrainsOwn parts → DrainsOwn (flat_map (λ part. part) parts)

-- an Enter, and entries that drain and give up only the lane that it gives, drain only lanes that they were given
abbrev pub EntersDrainOwn : Type 0
EntersDrainOwn =
    (t : TunnelItem) (ts : List TunnelItem) → t.event ≡ Enter → Each (λ u. IsOfGiven (given_by t.event t.answer) u.event) ts → DrainsOwn (t ∷ ts)
