-- When no packet is held: after a tick, and after an entry that gives the session's stream another tuning.
use Rattle.std.specs.Prelude.{ℕ, ◌≡◌, true, false, List, [], ◌∷◌, ◌++◌, Some}
use Rattle.satip_base.specs.Lists.{Has}
use Rattle.satip_plain.specs.declared.events.Event.TheVariants.{Tick}
use Rattle.satip_plain.specs.declared.setting.Setting.{Setting}
use Rattle.satip_plain.specs.Types.{SessionId}
use Rattle.satip_plain.specs.State.{Session, held}
use Rattle.satip_plain.specs.Histories.{Item, Legal, after}
use Rattle.satip_plain.specs.Readings.{Made, readings}
use Rattle.satip_laws.specs.Makings.{living}
use Rattle.satip_laws.specs.OverReadings.{gives_tuning}

-- no living RTSP session holds a packet after a tick
abbrev pub TickFlushes : Type 0
TickFlushes = (c : Setting) (h : List Item) (e : Item) (now : ℕ) (s : SessionId) (y : Session) → e.event ≡ Tick now
    → living (after c (h ++ e ∷ [])) s ≡ Some y → y.http ≡ false → held y ≡ []

-- no living RTSP session holds a packet after an entry that gives its stream another tuning
abbrev pub RetuningFlushes : Type 0
RetuningFlushes = (c : Setting) (h : List Item) (e : Item) (m : Made) (y : Session) → Legal c (h ++ e ∷ []) → Has m (readings c (h ++ e ∷ [])).made → m.http ≡ false
    → gives_tuning (readings c h) e m.home ≡ true → living (after c (h ++ e ∷ [])) m.id ≡ Some y → held y ≡ []
