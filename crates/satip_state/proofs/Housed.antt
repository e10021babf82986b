-- Each session's stream lives.
use Rattle.std.proofs.Common.{◌≡◌, ◌∙◌, ◌&&◌, ℕ, zero, suc, not, Bool, true, false, cond, List, [], ◌∷◌, find, Option, None, Some, IfSome, is_some, option_map, refl, ap, sym, slice_get}
use Rattle.std.specs.List.{list_all}
use Rattle.std.proofs.lemmas.Bool.{and_from, and_parts}
use Rattle.std.proofs.lemmas.Option.{same_Some}
use Rattle.satip_base.specs.declared.identity.SessionId.{SessionId}
use Rattle.satip_table.specs.declared.session.Session.{Session as Row}
use Rattle.satip_table.specs.Living.{Sound}
use Rattle.satip_plain.specs.Types.{Config}
use Rattle.satip_plain.specs.State.{Session, State, rtsp_session, same_id, stream_of}
use Rattle.satip_state.specs.Kept.{Kept}
use Rattle.satip_state.specs.Seated.{Seated, row_of}
use Rattle.satip_state.specs.Standing.{StandsFor}
use Rattle.satip_state.proofs.Picking.{map_some}
use Rattle.satip_state.proofs.Mapped.{sessions_of, stream_lives}

-- a test that holds at each place holds of all
all_places : (p : Session → Bool) (xs : List Seated) → ((k : ℕ) (x : Seated) → slice_get xs k ≡ Some x → p x.session ≡ true)
    → list_all p (sessions_of xs) ≡ true
all_places p [] each = refl
all_places p (x ∷ xs) each = and_from _ _ (each zero x refl) (all_places p xs (λ k y got. each (suc k) y got))

pub all_housed : (c : Config) (v : Kept) (st : State) → StandsFor c v st → Sound v.table → list_all (λ s. is_some (stream_of st s.stream)) st.sessions ≡ true
all_housed c v st stands sound =
    ap (list_all (λ s. is_some (stream_of st s.stream))) stands.sessions
    ∙ all_places (λ s. is_some (stream_of st s.stream)) stands.seated (λ k x got. let lives = stream_lives c v st stands sound k x got in ap is_some lives.1)

-- a session that is found has what all have
all_found : (p q : Session → Bool) (ss : List Session) (s : Session) → list_all p ss ≡ true → find q ss ≡ Some s → p s ≡ true
all_found p q [] s all e = absurd (cc)
all_found p q (x ∷ xs) s all e =
    let parts = and_parts _ _ all in
    by (q x) e (all_found p q xs s parts.1)
  where
    by : (b : Bool) → cond b (Some x) (find q xs) ≡ Some s → (find q xs ≡ Some s → p s ≡ true) → p s ≡ true
    by true f rest = ap p (sym (same_Some x s f)) ∙ (and_parts _ _ all).0
    by false f rest = rest f

-- the stream of an RTSP session that is found lives
pub housed_row : (st : State) (id : SessionId) (o : Option Row) → list_all (λ s. is_some (stream_of st s.stream)) st.sessions ≡ true
    → o ≡ option_map row_of (rtsp_session st id) → IfSome o (λ row. is_some (stream_of st row.stream) ≡ true)
unfolding row_of
housed_row st id None all is = tt
housed_row st id (Some row) all is =
    let m = map_some row_of (rtsp_session st id) row (sym is) in
    ap (λ (x : Row). is_some (stream_of st x.stream)) (sym m.2)
    ∙ all_found (λ s. is_some (stream_of st s.stream)) (λ s. same_id s.id id && not s.http) st.sessions m.0 all m.1
