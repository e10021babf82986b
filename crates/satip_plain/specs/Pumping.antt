-- The events of a pump: it asks, and feeds the packets of recordings.
use Rattle.std.specs.Prelude.{◌≡◌, ◌==◌, ℕ, ◌+◌, ◌⊎◌, if◌then◌else◌, List, [], ◌∷◌, Option, Some, None, option_map}
use Rattle.satip_plain.specs.declared.answers.Answer.{Answer}
use Rattle.satip_plain.specs.declared.answers.Answer.TheVariants.{Work as WorkIs}
use Rattle.satip_plain.specs.declared.answers.Work.{Work}
use Rattle.satip_plain.specs.declared.answers.Work.TheVariants.{Tune, Nothing, Stopping}
use Rattle.satip_plain.specs.declared.events.Event.{Event}
use Rattle.satip_plain.specs.declared.events.Event.TheVariants.{Packet, Ended, Ask}
use Rattle.satip_plain.specs.Histories.{Item}
use Rattle.satip_ts.specs.Recording.{cut_packets}

-- the recording that is read: its tune number, and its packets that are still to come, if its content is exposed
pub record Reel : Type 0 where
  pub tune : ℕ
  pub left : Option (List (List ℕ))

-- the next event of a pump: it asks, or gives a packet of a recording or its end; or it has none
pub data Due : Type 0 where
  Asking : Option Reel → Due
  Feeding : Reel → Due
  Finished : Due

-- a recording from its beginning
abbrev pub fresh : (ℕ → Option (List ℕ)) → ℕ → ℕ → Reel
fresh recording mux tune = record { tune = tune; left = option_map cut_packets (recording mux) }

-- the recording that is read for a tuning: the current one from where it is, if it has this tune number; else the multiplex's from its beginning
abbrev pub tuned : (ℕ → Option (List ℕ)) → Option Reel → ℕ → ℕ → Reel
tuned recording None mux tune = fresh recording mux tune
tuned recording (Some reel) mux tune = if reel.tune == tune then reel else fresh recording mux tune

-- the next event, from the work in an answer
abbrev pub after_work : (ℕ → Option (List ℕ)) → Option Reel → Work → Due
after_work recording reel (Tune mux tune) = Feeding (tuned recording reel mux tune)
after_work recording reel Nothing = Asking reel
after_work recording reel Stopping = Finished

-- the work in an answer; Stopping for an answer of another kind
abbrev pub work_told : Answer → Work
work_told (WorkIs work) = work
work_told _ = Stopping

-- the packets without the first
abbrev pub rest_of : List (List ℕ) → List (List ℕ)
rest_of [] = []
rest_of (packet ∷ packets) = packets

-- no packet left, if the content is exposed
abbrev pub none_of : Option (List (List ℕ)) → Option (List (List ℕ))
none_of None = None
none_of (Some packets) = Some []

-- the recording after an event: one packet less, or none left after its end
abbrev pub moved : Event → Reel → Reel
moved (Packet front tune packet) reel = record reel { left = option_map rest_of reel.left }
moved (Ended front tune) reel = record reel { left = none_of reel.left }
moved _ reel = reel

-- the next event after an entry of the pump
abbrev pub after_entry : (ℕ → Option (List ℕ)) → Due → Item → Due
after_entry recording (Asking reel) e = after_work recording reel (work_told e.answer)
after_entry recording (Feeding reel) e = after_work recording (Some (moved e.event reel)) (work_told e.answer)
after_entry recording Finished e = Finished

-- the packet is the first of those left, if the content is exposed
abbrev pub IsFirst : List ℕ → Option (List (List ℕ)) → Type 0
IsFirst packet None = Unit {0}
IsFirst packet (Some []) = ⊥
IsFirst packet (Some (first ∷ packets)) = packet ≡ first

-- the event is the one that is due
abbrev pub IsDue : ℕ → Due → Event → Type 0
IsDue front (Asking reel) event = event ≡ Ask front
IsDue front (Feeding reel) event =
    ((packet : List ℕ) × (event ≡ Packet front reel.tune packet) × IsFirst packet reel.left) ⊎ (event ≡ Ended front reel.tune)
IsDue front Finished event = ⊥

-- 1 if packets are left
abbrev pub one_if_left : Option (List (List ℕ)) → ℕ
one_if_left None = 0
one_if_left (Some []) = 0
one_if_left (Some (packet ∷ packets)) = 1

-- 1 for the end of a recording that has packets left
abbrev pub early_by : Event → Reel → ℕ
early_by (Ended front tune) reel = one_if_left reel.left
early_by _ reel = 0

-- 1 if the entry ends a recording that has packets left
abbrev pub early_end : Due → Item → ℕ
early_end (Feeding reel) e = early_by e.event reel
early_end _ e = 0

-- the entries are those of a front end's pump, from the event due before them to the event due after them;
-- `early` of them end recordings that have packets left
abbrev pub Pumps : ℕ → (ℕ → Option (List ℕ)) → Due → List Item → Due → ℕ → Type 0
Pumps front recording due [] next early = (next ≡ due) × (early ≡ 0)
Pumps front recording due (e ∷ es) next early =
    IsDue front due e.event
    × ((n : ℕ) × Pumps front recording (after_entry recording due e) es next n × (early ≡ early_end due e + n))
