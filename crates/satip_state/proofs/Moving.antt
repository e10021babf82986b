-- Moves one after another, and rounds of turns.
use Rattle.std.proofs.Common.{◌≡◌, ℕ, suc, ◌+◌, ◌≤◌, Bool, true, false, cond, List, [], ◌++◌, length, map, Option, Some, refl, sym, ap, subst, ◌∙◌, arith}
use Rattle.std.proofs.lemmas.List.{map-append, length-map}
use Rattle.satip_base.specs.Output.{Output}
use Rattle.satip_rtp.specs.Sending.{SendsAll}
use Rattle.satip_flow.proofs.Sends.{◌then_sends◌}
use Rattle.satip_plain.specs.Types.{Config}
use Rattle.satip_plain.specs.State.{Session, State}
use Rattle.satip_plain.specs.Sending.{Sent, Move, Turn, each, let_go}
use Rattle.satip_plain.specs.Histories.{datagram}
use Rattle.satip_state.specs.Kept.{Kept}
use Rattle.satip_state.specs.Seated.{Seated, seat_of}
use Rattle.satip_state.specs.Standing.{StandsFor, Moved}
use Rattle.satip_state.specs.Turns.{Round, turn_of, first_turns, after_round, is_flushed, flush_turn}
use Rattle.satip_state.proofs.Feeds.{cut_off}
use Rattle.satip_state.proofs.Rounds.{Stays, one_more_turn, all_turns}

-- what moves sent, one after the other
pub sent_then : (o m n : Output) (a b : List Sent) → SendsAll o (map datagram a) m → SendsAll m (map datagram b) n → SendsAll o (map datagram (a ++ b)) n
sent_then o m n a b first second = subst (λ ds. SendsAll o ds n) (sym (map-append datagram a b)) (first then_sends second)

pub moved_then : (c : Config) (v w : Kept) (o m n : Output) (a b : Move) → Moved c v o m a → Moved c w m n b
    → Moved c w o n (record { state = b.state; sent = a.sent ++ b.sent })
moved_then c v w o m n a b first second = record { stands = second.stands; sent = sent_then o m n a.sent b.sent first.sent second.sent }

round_is : (r : Round) (ss : List Session) (ds : List Sent) → r.sessions ≡ ss → r.sent ≡ ds → r ≡ record { sessions = ss; sent = ds }
round_is r ss ds sessions sent = ap (λ (x : List Session). record { sessions = x; sent = r.sent }) sessions
    ∙ ap (λ (y : List Sent). record { sessions = ss; sent = y }) sent

-- a flush ends no session
flush_stays : (only : Option ℕ) (clock : ℕ) → Stays (flush_turn only clock) (λ s. cond (is_flushed only s.stream s.http) (cut_off true s) s)
flush_stays only clock s = by (is_flushed only s.stream s.http)
  where
    by : (b : Bool) → (cond b (let_go true clock s) (record { sends = []; after = Some s })).after ≡ Some (cond b (cut_off true s) s)
    by true = refl
    by false = refl

-- one more session had its turn
pub turned_more : (c : Config) (v w : Kept) (o m n : Output) (st : State) (turn : Session → Turn) (f : Session → Session) → Stays turn f → (k : ℕ)
    → Moved c v o m (after_round st (first_turns k turn st.sessions))
    → Moved c w m n (after_round (record st { sessions = (first_turns k turn st.sessions).sessions })
    (turn_of k turn (first_turns k turn st.sessions).sessions))
    → Moved c w o n (after_round st (first_turns (k + 1) turn st.sessions))
turned_more c v w o m n st turn f stays k first second =
    let old : Round = first_turns k turn st.sessions in
    let next : Round = turn_of k turn old.sessions in
    let more = one_more_turn turn f stays k st.sessions in
    let count : k + 1 ≡ suc k = omega arith in
    let is : first_turns (k + 1) turn st.sessions ≡ record { sessions = next.sessions; sent = old.sent ++ next.sent } =
    ap (λ j. first_turns j turn st.sessions) count ∙ round_is (first_turns (suc k) turn st.sessions) next.sessions (old.sent ++ next.sent) more.0 more.1 in
    subst (λ r. Moved c w o n (after_round st r)) (sym is)
    (moved_then c v w o m n (after_round st old) (after_round (record st { sessions = old.sessions }) next) first second)

pub turned_all : (c : Config) (w : Kept) (o n : Output) (st : State) (turn : Session → Turn) (k : ℕ) → length st.sessions ≤ k
    → Moved c w o n (after_round st (first_turns k turn st.sessions)) → Moved c w o n (each turn st)
turned_all c w o n st turn k few moved =
    let all = all_turns turn k st.sessions few in
    subst (λ r. Moved c w o n (after_round st r)) (round_is (first_turns k turn st.sessions) _ _ all.0 all.1) moved

pub flushed_more : (c : Config) (v w : Kept) (o m n : Output) (st : State) (only : Option ℕ) (k : ℕ)
    → Moved c v o m (after_round st (first_turns k (flush_turn only st.clock) st.sessions))
    → Moved c w m n (after_round (record st { sessions = (first_turns k (flush_turn only st.clock) st.sessions).sessions })
    (turn_of k (flush_turn only st.clock) (first_turns k (flush_turn only st.clock) st.sessions).sessions))
    → Moved c w o n (after_round st (first_turns (k + 1) (flush_turn only st.clock) st.sessions))
flushed_more c v w o m n st only k =
    turned_more c v w o m n st (flush_turn only st.clock) (λ s. cond (is_flushed only s.stream s.http) (cut_off true s) s) (flush_stays only st.clock) k

-- there are as many sessions as seats
pub as_many : (c : Config) (v : Kept) (st : State) → StandsFor c v st → length st.sessions ≡ length v.table.seats
as_many c v st stands =
    let sessions : length st.sessions ≡ length stands.seated = ap length stands.sessions ∙ length-map stands.seated (λ (x : Seated). x.session) in
    let seats : length v.table.seats ≡ length stands.seated = ap length stands.seats ∙ length-map stands.seated seat_of in
    sessions ∙ sym seats
