-- The laws of one history that is legal in its setting.
use Rattle.std.specs.Prelude.{◌≡◌, ◌⊎◌, ℕ, ◌+◌, false, true, List, [], ◌∷◌, ◌++◌, Option, None, is_some}
use Rattle.satip_base.specs.History.{own_of}
use Rattle.satip_base.specs.Lists.{Has}
use Rattle.satip_plain.specs.declared.setting.Setting.{Setting}
use Rattle.satip_plain.specs.Types.{SessionId}
use Rattle.satip_plain.specs.Histories.{Item, after}
use Rattle.satip_plain.specs.Pumping.{Due, Asking, Pumps}
use Rattle.satip_plain.specs.Readings.{Made, owner, readings}
use Rattle.satip_laws.specs.Busy.{IsBlockedHere, IsToldBusy}
use Rattle.satip_laws.specs.Ownership.{StaysAs, is_asked_by_owner}
use Rattle.satip_laws.specs.OverReadings.{SentAndHeld}
use Rattle.satip_laws.specs.Recorded.{PacketsAreOf}
use Rattle.satip_laws.specs.ReadRecording.{IsRecording}
use Rattle.satip_desk.specs.Views.{PumpView}

-- the payload of each RTSP session that was created, with at most six packets still held, is the packets selected for it
abbrev pub SendsSelected : Setting → List Item → Type 0
SendsSelected c h = (m : Made) → Has m (readings c h).made → m.http ≡ false → SentAndHeld c h m

-- only an accepted SETUP or PLAY that names the owner of a living stream changes the stream's tuning or PIDs
abbrev pub ObeysOwners : Setting → List Item → Type 0
ObeysOwners c h = (g k : List Item) (e : Item) (home : SessionId) → h ≡ (g ++ e ∷ []) ++ k → is_some (owner (readings c g) home) ≡ true
    → (is_asked_by_owner (readings c g) e home ≡ true) ⊎ StaysAs (readings c g) (readings c (g ++ e ∷ [])) home

-- a reply says `No-More:frontends` exactly if no front end is available for a request that nothing else refuses
abbrev pub TellsBusy : Setting → List Item → Type 0
TellsBusy c h = (g k : List Item) (e : Item) → h ≡ (g ++ e ∷ []) ++ k
    → (IsToldBusy e.event e.out.reply → IsBlockedHere c.config (after c g) (readings c g) e.event)
    × (IsBlockedHere c.config (after c g) (readings c g) e.event → IsToldBusy e.event e.out.reply)

-- if all packets of a front end are of one caller that does a pump's work, those of one tune number that weren't stale are a prefix of a recording. It is that
-- of the multiplex to which the front end's streams are tuned
abbrev pub GivesRecordings : Setting → List Item → Type 0
GivesRecordings c h = (caller front tune : ℕ) (recording : ℕ → Option (List ℕ)) (due : Due) (early : ℕ) → PacketsAreOf caller front h
    → Pumps front recording (Asking None) (own_of caller h) due early → IsRecording c h front tune recording

-- P holds of each element and of its place's number, counted from n
abbrev pub EachAt : {T : Type 0} → (ℕ → T → Type 0) → ℕ → List T → Type 0
EachAt P n [] = Unit {0}
EachAt P n (x ∷ xs) = P n x × EachAt P (n + 1) xs

-- for each tune number, the packets of this front end that weren't stale are a prefix of a recording that the pump's store exposes. It is that of the multiplex
-- to which the front end's streams are tuned
abbrev pub PlaysAt : Setting → List Item → ℕ → PumpView → Type 0
PlaysAt c h front pump = (tune : ℕ) → IsRecording c h front tune pump.recording

-- the same for each front end, with the pump of its number
abbrev pub PlaysRecordings : Setting → List Item → List PumpView → Type 0
PlaysRecordings c h pumps = EachAt (PlaysAt c h) 1 pumps
