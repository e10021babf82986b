-- Only its owner changes a stream.
use Rattle.std.specs.Prelude.{◌≡◌, ◌⊎◌, ◌&&◌, Bool, true, false, List, [], ◌∷◌, ◌++◌, is_some}
use Rattle.satip_plain.specs.Types.{SessionId}
use Rattle.satip_plain.specs.declared.setting.Setting.{Setting}
use Rattle.satip_plain.specs.declared.events.Event.{Event}
use Rattle.satip_plain.specs.declared.events.Event.TheVariants.{Request as Asked}
use Rattle.satip_rtsp.specs.Methods.{changes}
use Rattle.satip_plain.specs.Histories.{Item, Legal}
use Rattle.satip_plain.specs.Readings.{Readings, owner, names, is_accepted, any_where, readings}

-- whether the event is a SETUP or a PLAY that names this session
abbrev pub asks_in : Event → SessionId → Bool
asks_in (Asked peer draw r) s = changes r.method && names r.session s
asks_in _ s = false

-- whether the entry is an accepted SETUP or PLAY that names the owner of the stream
abbrev pub is_asked_by_owner : Readings → Item → SessionId → Bool
is_asked_by_owner g e home = is_accepted e.answer && any_where (λ m. asks_in e.event m.id) (owner g home)

-- the stream keeps its tuning and its PIDs
pub record StaysAs (g later : Readings) (home : SessionId) : Type 0 where
  pub tuned : later.tuned home ≡ g.tuned home
  pub pids : later.pids home ≡ g.pids home

-- the ownership law: after one more entry a living stream has the tuning and the PIDs that it had, unless the entry is an accepted SETUP or PLAY
-- that names its owner
abbrev pub OnlyOwnerChanges : Type 0
OnlyOwnerChanges =
    (c : Setting) (h : List Item) (e : Item) (home : SessionId) → Legal c (h ++ e ∷ []) → is_some (owner (readings c h) home) ≡ true
    → (is_asked_by_owner (readings c h) e home ≡ true) ⊎ StaysAs (readings c h) (readings c (h ++ e ∷ [])) home
