-- The parts of a tick, one after the other.
use Rattle.std.proofs.Common.{◌≡◌, ℕ, not, max, Bool, true, false, cond, List, [], ◌∷◌, ◌++◌, length, map, Some, refl, sym, ap, subst, ◌∙◌}
use Rattle.std.specs.List.{filter_map, flat_map, cons_option}
use Rattle.satip_base.specs.Output.{Output}
use Rattle.satip_rtp.specs.Cut.{cut}
use Rattle.satip_rtp.specs.Sending.{SendsAll}
use Rattle.satip_base.specs.Lists.{Each}
use Rattle.satip_plain.specs.Types.{Config}
use Rattle.satip_plain.specs.State.{Session, State, held}
use Rattle.satip_plain.specs.Sending.{Sent, Move, Turn, each_of, let_go, as_rtp}
use Rattle.satip_plain.specs.Steps.{part, end_where, is_expired, send_reports, tick, capped}
use Rattle.satip_plain.specs.Histories.{datagram}
use Rattle.satip_state.specs.Kept.{Kept}
use Rattle.satip_state.specs.Standing.{StandsFor, Moved, IsKept}
use Rattle.satip_state.proofs.Feeds.{cut_off, held_gone}
use Rattle.satip_state.proofs.Ended.{ending}
use Rattle.satip_state.proofs.Moving.{sent_then}

-- what was flushed sends nothing as it ends
quiet_part : (clock : ℕ) (s : Session) → held s ≡ [] → (part clock s).sends ≡ []
quiet_part clock s none = by s.http
  where
    by : (b : Bool) → ◌≡◌ {A = List Sent} (cond b [] (let_go true clock s).sends) []
    by true = refl
    by false = ap (λ xs. as_rtp clock s (length s.sizes) (cut true xs)) none

pub quiet_queue : (clock : ℕ) (s : Session) → s.http ≡ true → (part clock s).sends ≡ []
quiet_queue clock s http = ap (λ b. cond b [] (let_go true clock s).sends) http

quiet_ending : (p : Session → Bool) (clock : ℕ) (s : Session) → (part clock s).sends ≡ [] → (ending p clock s).sends ≡ []
quiet_ending p clock s quiet = by (p s)
  where
    by : (b : Bool) → (cond {A = Turn} b (part clock s) (record { sends = []; after = Some s })).sends ≡ []
    by true = quiet
    by false = refl

flushed_quiet : (p : Session → Bool) (clock : ℕ) (ss : List Session) → Each IsKept ss
    → flat_map (λ s. (ending p clock s).sends)
    (filter_map (λ s. (cond {A = Turn} (not s.http) (let_go true clock s) (record { sends = []; after = Some s })).after) ss) ≡ []
flushed_quiet p clock [] kept = refl
flushed_quiet p clock (s ∷ ss) kept = by s.http refl (flushed_quiet p clock ss kept.1)
  where
    rest : List Session
    rest = filter_map (λ x. (cond {A = Turn} (not x.http) (let_go true clock x) (record { sends = []; after = Some x })).after) ss

    by : (b : Bool) → s.http ≡ b → flat_map (λ x. (ending p clock x).sends) rest ≡ []
        → flat_map (λ x. (ending p clock x).sends)
        (cons_option (cond {A = Turn} (not b) (let_go true clock s) (record { sends = []; after = Some s })).after rest) ≡ []
    by true http quiet = ap (λ ds. ds ++ flat_map (λ x. (ending p clock x).sends) rest) (quiet_ending p clock s (quiet_queue clock s http)) ∙ quiet
    by false rtsp quiet =
        ap (λ ds. ds ++ flat_map (λ x. (ending p clock x).sends) rest)
        (quiet_ending p clock (cut_off true s) (quiet_part clock (cut_off true s) (held_gone s kept.0))) ∙ quiet

pub tick_moved : (c : Config) (v u w x : Kept) (o m n : Output) (st : State) (now : ℕ)
    → StandsFor c v (record st { clock = max st.clock (capped now) })
    → Moved c u o m (each_of (λ s. not s.http) (let_go true (max st.clock (capped now))) (record st { clock = max st.clock (capped now) }))
    → StandsFor c w (end_where (is_expired c (max st.clock (capped now)))
    (each_of (λ s. not s.http) (let_go true (max st.clock (capped now))) (record st { clock = max st.clock (capped now) })).state).state
    → Moved c x m n (send_reports c (end_where (is_expired c (max st.clock (capped now)))
    (each_of (λ s. not s.http) (let_go true (max st.clock (capped now))) (record st { clock = max st.clock (capped now) })).state).state)
    → Moved c x o n (tick c now st)
tick_moved c v u w x o m n st now on flushed ended reports =
    let clock : ℕ = max st.clock (capped now) in
    let first : Move = each_of (λ s. not s.http) (let_go true clock) (record st { clock = clock }) in
    let second : Move = end_where (is_expired c clock) first.state in
    let third : Move = send_reports c second.state in
    let quiet : second.sent ≡ [] = flushed_quiet (is_expired c clock) clock st.sessions on.each_session in
    let all : SendsAll o (map datagram (first.sent ++ third.sent)) n = sent_then o m n first.sent third.sent flushed.sent reports.sent in
    record {
      stands = reports.stands;
      sent = subst (λ (ds : List Sent). SendsAll o (map datagram (first.sent ++ (ds ++ third.sent))) n) (sym quiet) all;
    }
