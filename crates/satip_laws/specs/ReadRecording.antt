-- The packets of a front end, compared with the recording that its pump reads, over the readings of the history.
use Rattle.std.specs.Prelude.{ℕ, ◌≡◌, ◌==◌, ◌&&◌, ◌<◌, ◌^◌, Bool, true, List, [], ◌∷◌, ◌++◌, length, Option, Some, None, option_map, option_and_then, if◌then◌else◌}
use Rattle.std.specs.List.{list_any}
use Rattle.satip_base.specs.History.{own_of}
use Rattle.satip_base.specs.Lists.{Each}
use Rattle.satip_tune.specs.Frontends.{mux_for}
use Rattle.satip_ts.specs.Recording.{cut_packets}
use Rattle.satip_plain.specs.declared.events.Event.{Event}
use Rattle.satip_plain.specs.declared.events.Event.TheVariants.{Packet}
use Rattle.satip_plain.specs.declared.setting.Setting.{Setting}
use Rattle.satip_plain.specs.Types.{Config}
use Rattle.satip_plain.specs.State.{is_at}
use Rattle.satip_plain.specs.Histories.{Item, Legal}
use Rattle.satip_plain.specs.Readings.{Readings, living, nothing_read, read_one, readings}
use Rattle.satip_plain.specs.Pumping.{Due, Asking, Pumps}
use Rattle.satip_laws.specs.Recorded.{PacketsAreOf, BeginsTold}

-- whether a living stream is on the front end
abbrev pub is_taken : Readings → ℕ → Bool
is_taken g front = list_any (λ m. is_at (g.front m.home) front) (living g)

-- whether a packet of this front end and this tune number is not stale
abbrev pub is_fresh : Readings → ℕ → ℕ → Bool
is_fresh g front tune = g.tune front == tune && is_taken g front

-- the packet of this front end and this tune number if it isn't stale, or nothing
abbrev pub fresh_in : Readings → Event → ℕ → ℕ → List (List ℕ)
fresh_in g (Packet f n packet) front tune = if f == front && n == tune && is_fresh g f n then packet ∷ [] else []
fresh_in g _ front tune = []

abbrev pub fresh_from : Config → Readings → List Item → ℕ → ℕ → List (List ℕ)
fresh_from c g [] front tune = []
fresh_from c g (e ∷ es) front tune = fresh_in g e.event front tune ++ fresh_from c (read_one c g e) es front tune

-- the packets of a front end and a tune number that weren't stale, in order
abbrev pub fresh_packets : Setting → List Item → ℕ → ℕ → List (List ℕ)
fresh_packets c h front tune = fresh_from c.config (nothing_read c) h front tune

-- each living stream on the front end is tuned to this multiplex
abbrev pub AreReadAt : Config → Readings → ℕ → ℕ → Type 0
AreReadAt c g front mux = Each (λ m. is_at (g.front m.home) front ≡ true → option_and_then (mux_for c.muxes) (g.tuned m.home) ≡ Some mux) (living g)

-- the packets of one tune number that weren't stale are a prefix of the recording of one multiplex, if it is exposed;
-- before each of them the streams on the front end are tuned to that multiplex
pub record IsRecording (c : Setting) (h : List Item) (front tune : ℕ) (recording : ℕ → Option (List ℕ)) : Type 0 where
  pub mux : ℕ
  pub packets : BeginsTold (fresh_packets c h front tune) (option_map cut_packets (recording mux))
  pub streams : (g k : List Item) (e : Item) (packet : List ℕ) → h ≡ g ++ e ∷ k → e.event ≡ Packet front tune packet → is_fresh (readings c g) front tune ≡ true
      → AreReadAt c.config (readings c g) front mux

-- the recording law: this holds if the packets of the front end are all of one caller that does what its pump does
abbrev pub PacketsAreOfRecordings : Type 0
PacketsAreOfRecordings = (c : Setting) (h : List Item) (caller front tune : ℕ) (recording : ℕ → Option (List ℕ)) (due : Due) (early : ℕ) → Legal c h → length h < 2 ^ 64
    → PacketsAreOf caller front h → Pumps front recording (Asking None) (own_of caller h) due early → IsRecording c h front tune recording
