-- When a session ends.
use Rattle.std.specs.Prelude.{◌≡◌, not, Bool, true, List, [], ◌∷◌, ◌++◌}
use Rattle.std.specs.List.{list_any}
use Rattle.satip_plain.specs.Types.{SessionId, Config}
use Rattle.satip_plain.specs.declared.setting.Setting.{Setting}
use Rattle.satip_plain.specs.State.{State, same_id}
use Rattle.satip_plain.specs.Histories.{Item, Legal, after}
use Rattle.satip_plain.specs.Readings.{Readings, ends, living_session, any_where, readings}

-- whether a session of this id lives
abbrev pub lives_in : State → SessionId → Bool
lives_in st s = list_any (λ x. same_id x.id s) st.sessions

-- whether the entry ends the living session of this id: an accepted TEARDOWN that names it; a tick after its timeout; a close of the HTTP session;
-- or a packet that is selected for the HTTP session while its queue is full
abbrev pub is_ended_by : Config → Readings → Item → SessionId → Bool
is_ended_by c g e s = any_where (ends c g e) (living_session g s)

-- the ending law: a living session is gone after one more entry exactly if the entry ends it by one of these causes
abbrev pub EndsByItsCauses : Type 0
EndsByItsCauses =
    (c : Setting) (h : List Item) (e : Item) (s : SessionId) → Legal c (h ++ e ∷ []) → lives_in (after c h) s ≡ true
    → lives_in (after c (h ++ e ∷ [])) s ≡ not (is_ended_by c.config (readings c h) e s)
