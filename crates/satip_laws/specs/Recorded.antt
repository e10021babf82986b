-- The packets of a front end, compared with the recording that its pump reads.
use Rattle.std.specs.Prelude.{ℕ, ◌≡◌, ◌==◌, ◌&&◌, ◌<◌, ◌^◌, Bool, true, false, List, [], ◌∷◌, ◌++◌, length, Option, Some, None, option_map, option_and_then, if◌then◌else◌}
use Rattle.satip_base.specs.History.{own_of}
use Rattle.satip_base.specs.Lists.{Each, Begins}
use Rattle.satip_tune.specs.Frontends.{mux_for}
use Rattle.satip_ts.specs.Recording.{cut_packets}
use Rattle.satip_plain.specs.declared.events.Event.{Event}
use Rattle.satip_plain.specs.declared.events.Event.TheVariants.{Packet}
use Rattle.satip_plain.specs.declared.setting.Setting.{Setting}
use Rattle.satip_plain.specs.Types.{Config}
use Rattle.satip_plain.specs.State.{State, Stream, served_by}
use Rattle.satip_plain.specs.Steps.{step, is_current}
use Rattle.satip_plain.specs.Histories.{Item, Legal, opening, after}
use Rattle.satip_plain.specs.Pumping.{Due, Asking, Pumps}

-- the packet of this front end and this tune number if it isn't stale, or nothing
abbrev pub current_in : State → Event → ℕ → ℕ → List (List ℕ)
current_in st (Packet f n packet) front tune = if f == front && n == tune && is_current st f n then packet ∷ [] else []
current_in st _ front tune = []

abbrev pub current_from : Config → State → List Item → ℕ → ℕ → List (List ℕ)
current_from c st [] front tune = []
current_from c st (e ∷ es) front tune = current_in st e.event front tune ++ current_from c (step c st e.event).state es front tune

-- the packets of a front end and a tune number that weren't stale, in order
abbrev pub current : Setting → List Item → ℕ → ℕ → List (List ℕ)
current c h front tune = current_from c.config (opening c) h front tune

-- whether the event is a packet of this front end
abbrev pub is_packet_on : ℕ → Event → Bool
is_packet_on front (Packet f n packet) = f == front
is_packet_on front _ = false

-- the packets of the front end are all of this caller
abbrev pub PacketsAreOf : ℕ → ℕ → List Item → Type 0
PacketsAreOf caller front h = Each (λ e. is_packet_on front e.event ≡ true → e.caller ≡ caller) h

-- the packets are a prefix of a recording's packets, if the recording is exposed
abbrev pub BeginsTold : List (List ℕ) → Option (List (List ℕ)) → Type 0
BeginsTold packets None = Unit {0}
BeginsTold packets (Some all) = Begins packets all

-- each stream is tuned to this multiplex
abbrev pub AreTunedTo : Config → ℕ → List Stream → Type 0
AreTunedTo c mux streams = Each (λ t. option_and_then (mux_for c.muxes) t.tuning ≡ Some mux) streams

-- the packets of one tune number that weren't stale are a prefix of the recording of one multiplex, if it is exposed;
-- at each of them all streams of the front end are tuned to that multiplex
pub record IsRecorded (c : Setting) (h : List Item) (front tune : ℕ) (recording : ℕ → Option (List ℕ)) : Type 0 where
  pub mux : ℕ
  pub packets : BeginsTold (current c h front tune) (option_map cut_packets (recording mux))
  pub streams : (g k : List Item) (e : Item) (packet : List ℕ) → h ≡ g ++ e ∷ k → e.event ≡ Packet front tune packet → is_current (after c g) front tune ≡ true
      → AreTunedTo c.config mux (served_by (after c g) front)

-- this holds if the packets of a front end are all of one caller that does what its pump does
abbrev pub PacketsAreRecorded : Type 0
PacketsAreRecorded = (c : Setting) (h : List Item) (caller front tune : ℕ) (recording : ℕ → Option (List ℕ)) (due : Due) (early : ℕ) → Legal c h → length h < 2 ^ 64
    → PacketsAreOf caller front h → Pumps front recording (Asking None) (own_of caller h) due early → IsRecorded c h front tune recording
