-- Rounds of turns, one session after another.
use Rattle.std.proofs.Common.{◌≡◌, ℕ, zero, suc, ◌≤◌, List, [], ◌∷◌, ◌++◌, length, Some, None, refl, sym, ap, ◌∙◌, arith, append-nil, append_assoc}
use Rattle.std.specs.List.{slice_get, filter_map, flat_map, cons_option}
use Rattle.std.proofs.lemmas.Option.{same_Some}
use Rattle.satip_plain.specs.State.{Session}
use Rattle.satip_plain.specs.Sending.{Turn}
use Rattle.satip_state.specs.Turns.{Round, turn_of, first_turns}

-- turns in which no session ends
abbrev pub Stays : (Session → Turn) → (Session → Session) → Type 0
Stays turn f = (s : Session) → (turn s).after ≡ Some (f s)

-- one more turn, after those before it
pub one_more_turn : (turn : Session → Turn) (f : Session → Session) → Stays turn f → (k : ℕ) (ss : List Session)
    → ((first_turns (suc k) turn ss).sessions ≡ (turn_of k turn (first_turns k turn ss).sessions).sessions)
    × ((first_turns (suc k) turn ss).sent ≡ (first_turns k turn ss).sent ++ (turn_of k turn (first_turns k turn ss).sessions).sent)
one_more_turn turn f stays zero [] = (refl, refl)
one_more_turn turn f stays (suc k) [] = (refl, refl)
one_more_turn turn f stays zero (s ∷ ss) = (refl, append-nil (turn s).sends)
one_more_turn turn f stays (suc k) (s ∷ ss) =
    let rest = one_more_turn turn f stays k ss in
    let cons_is : (ys : List Session) → cons_option (turn s).after ys ≡ f s ∷ ys = λ ys. ap (λ o. cons_option o ys) (stays s) in
    let old : List Session = (first_turns k turn ss).sessions in
    let next = cons_is old in (
      cons_is (first_turns (suc k) turn ss).sessions
          ∙ ap (λ ys. f s ∷ ys) rest.0
          ∙ sym (ap (λ ys. (turn_of (suc k) turn ys).sessions) next),
      ap (λ ds. (turn s).sends ++ ds) rest.1
          ∙ sym (append_assoc (turn s).sends (first_turns k turn ss).sent (turn_of k turn old).sent)
          ∙ sym (ap (λ ys. ((turn s).sends ++ (first_turns k turn ss).sent) ++ (turn_of (suc k) turn ys).sent) next),
    )

-- all sessions had their turns
pub all_turns : (turn : Session → Turn) (k : ℕ) (ss : List Session) → length ss ≤ k
    → ((first_turns k turn ss).sessions ≡ filter_map (λ s. (turn s).after) ss) × ((first_turns k turn ss).sent ≡ flat_map (λ s. (turn s).sends) ss)
all_turns turn zero [] few = (refl, refl)
all_turns turn (suc k) [] few = (refl, refl)
all_turns turn zero (s ∷ ss) few = absurd (omega (arith, few))
all_turns turn (suc k) (s ∷ ss) few =
    let rest = all_turns turn k ss (omega (arith, few)) in
    (ap (cons_option (turn s).after) rest.0, ap (λ ds. (turn s).sends ++ ds) rest.1)

-- the turn of who stands between others
pub turn_here : (turn : Session → Turn) (a : List Session) (s : Session) (b : List Session)
    → turn_of (length a) turn (a ++ s ∷ b) ≡ record { sessions = a ++ cons_option (turn s).after b; sent = (turn s).sends }
turn_here turn [] s b = refl
turn_here turn (x ∷ a) s b = ap (λ (r : Round). record { sessions = x ∷ r.sessions; sent = r.sent }) (turn_here turn a s b)

-- nobody is there
pub turn_nowhere : (turn : Session → Turn) (k : ℕ) (ss : List Session) → slice_get ss k ≡ None → turn_of k turn ss ≡ record { sessions = ss; sent = [] }
turn_nowhere turn k [] none = refl
turn_nowhere turn zero (s ∷ ss) none = absurd (cc)
turn_nowhere turn (suc k) (s ∷ ss) none = ap (λ (r : Round). record { sessions = s ∷ r.sessions; sent = r.sent }) (turn_nowhere turn k ss none)

-- whoever is there stays as it is
pub turn_idle : (turn : Session → Turn) (k : ℕ) (ss : List Session) (s : Session) → slice_get ss k ≡ Some s → turn s ≡ record { sends = []; after = Some s }
    → turn_of k turn ss ≡ record { sessions = ss; sent = [] }
turn_idle turn k [] s got idle = absurd (cc)
turn_idle turn zero (x ∷ xs) s got idle =
    let same : turn x ≡ record { sends = []; after = Some s } = ap turn (same_Some x s got) ∙ idle in
    ap (λ (t : Turn). record { sessions = cons_option t.after xs; sent = t.sends }) same
    ∙ ap (λ (y : Session). record { sessions = y ∷ xs; sent = [] }) (sym (same_Some x s got))
turn_idle turn (suc k) (x ∷ xs) s got idle = ap (λ (r : Round). record { sessions = x ∷ r.sessions; sent = r.sent }) (turn_idle turn k xs s got idle)
