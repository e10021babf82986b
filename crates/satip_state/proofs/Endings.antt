-- Ends of several sessions, one after the other.
use Rattle.std.proofs.Common.{◌≡◌, ◌||◌, ◌==◌, ℕ, not, Bool, true, false, cond, List, [], ◌∷◌, ◌++◌, filter, Some, refl, sym, ap, ◌∙◌, inl, inr}
use Rattle.std.specs.List.{list_any, flat_map}
use Rattle.std.proofs.lemmas.Bool.{true≢false}
use Rattle.satip_base.specs.Lists.{Has}
use Rattle.satip_plain.specs.State.{Session, Stream, Row, State, is_at, change_where}
use Rattle.satip_plain.specs.Sending.{Sent}
use Rattle.satip_plain.specs.Streams.{sweep, freed}
use Rattle.satip_plain.specs.Steps.{end_where, part}
use Rattle.satip_state.proofs.Ended.{lasting, ending, ended_sessions}

-- the state without the sessions of which p holds
abbrev pub lose : (Session → Bool) → State → State
lose p st = sweep (record st { sessions = filter (λ s. not (p s)) st.sessions })

pub end_loses : (p : Session → Bool) (st : State) → (end_where p st).state ≡ lose p st
end_loses p st = ap (λ (ss : List Session). sweep (record st { sessions = ss })) (ended_sessions p st.clock st.sessions)

module _ {X : Type 0} where
  pub filter_members : (p q : X → Bool) (xs : List X) → ((x : X) → Has x xs → p x ≡ q x) → filter p xs ≡ filter q xs
  filter_members p q [] same = refl
  filter_members p q (x ∷ xs) same =
      ap (λ b. cond b (x ∷ filter p xs) (filter p xs)) (same x (inl refl))
      ∙ ap (λ ys. cond (q x) (x ∷ ys) ys) (filter_members p q xs (λ y has. same y (inr has)))

  filter_or : (p r : X → Bool) (xs : List X) → filter (λ x. not (r x)) (filter (λ x. not (p x)) xs) ≡ filter (λ x. not (p x || r x)) xs
  filter_or p r [] = refl
  filter_or p r (x ∷ xs) = by (p x) (filter_or p r xs)
    where
      by : (b : Bool) → filter (λ y. not (r y)) (filter (λ y. not (p y)) xs) ≡ filter (λ y. not (p y || r y)) xs
          → filter (λ y. not (r y)) (cond (not b) (x ∷ filter (λ y. not (p y)) xs) (filter (λ y. not (p y)) xs))
          ≡ cond (not (b || r x)) (x ∷ filter (λ y. not (p y || r y)) xs) (filter (λ y. not (p y || r y)) xs)
      by true rest = rest
      by false rest = ap (λ ys. cond (not (r x)) (x ∷ ys) ys) rest

  pub any_fewer : (p q : X → Bool) (xs : List X) → list_any q (filter p xs) ≡ true → list_any q xs ≡ true
  any_fewer p q [] any = any
  any_fewer p q (x ∷ xs) any = by (p x) any (λ e. any_fewer p q xs e)
    where
      more : (a b c : Bool) → (b ≡ true → c ≡ true) → (a || b) ≡ true → (a || c) ≡ true
      more true b c keeps e = refl
      more false b c keeps e = keeps e

      by : (b : Bool) → list_any q (cond b (x ∷ filter p xs) (filter p xs)) ≡ true → (list_any q (filter p xs) ≡ true → list_any q xs ≡ true)
          → (q x || list_any q xs) ≡ true
      by true e rest = more (q x) (list_any q (filter p xs)) (list_any q xs) rest e
      by false e rest = more (q x) true (list_any q xs) (λ _. rest e) (or_true (q x))
        where
          or_true : (c : Bool) → (c || true) ≡ true
          or_true true = refl
          or_true false = refl

  -- a stronger test after a weaker one
  filter_twice : (weak strong : X → Bool) (xs : List X) → ((x : X) → strong x ≡ true → weak x ≡ true) → filter strong (filter weak xs) ≡ filter strong xs
  filter_twice weak strong [] less = refl
  filter_twice weak strong (x ∷ xs) less = by (weak x) (strong x) refl refl (filter_twice weak strong xs less)
    where
      by : (a b : Bool) → weak x ≡ a → strong x ≡ b → filter strong (filter weak xs) ≡ filter strong xs
          → filter strong (cond a (x ∷ filter weak xs) (filter weak xs)) ≡ cond b (x ∷ filter strong xs) (filter strong xs)
      by true b e f rest = ap (λ c. cond c (x ∷ filter strong (filter weak xs)) (filter strong (filter weak xs))) f ∙ ap (λ ys. cond b (x ∷ ys) ys) rest
      by false true e f rest = absurd (true≢false (sym (less x f) ∙ e))
      by false false e f rest = rest

abbrev pub serves : List Stream → ℕ → Bool
serves ts number = list_any (λ (t : Stream). is_at t.front number) ts

abbrev pub free_rows : List Stream → List Row → List Row
free_rows ts rows = change_where (λ r. not (serves ts r.number)) freed rows

-- fewer streams free the same front ends and more
freed_twice : (ts us : List Stream) → ((number : ℕ) → serves us number ≡ true → serves ts number ≡ true) → (rows : List Row)
    → free_rows us (free_rows ts rows) ≡ free_rows us rows
freed_twice ts us fewer [] = refl
freed_twice ts us fewer (r ∷ rows) =
    ap (λ (x : Row). x ∷ free_rows us (free_rows ts rows)) (by (serves ts r.number) (serves us r.number) refl refl)
    ∙ ap (λ xs. cond (not (serves us r.number)) (freed r) r ∷ xs) (freed_twice ts us fewer rows)
  where
    by : (a b : Bool) → serves ts r.number ≡ a → serves us r.number ≡ b
        → cond (not (serves us (cond (not a) (freed r) r).number)) (freed (cond (not a) (freed r) r)) (cond (not a) (freed r) r) ≡ cond
        (not (serves us r.number)) (freed r) r
    by true b e f = refl
    by false true e f = absurd (true≢false (sym (fewer r.number f) ∙ e))
    by false false e f = ap (λ c. cond (not c) (freed r) (freed r)) f ∙ sym (ap (λ c. cond (not c) (freed r) r) f)

abbrev pub state_of : State → List Session → List Stream → List Row → State
state_of st ss ts rows = record st { sessions = ss; streams = ts; rows = rows }

-- one end after another
pub lose_then : (p r : Session → Bool) (st : State) → lose r (lose p st) ≡ lose (λ s. p s || r s) st
lose_then p r st =
    let first : List Session = filter (λ s. not (p s)) st.sessions in
    let last : List Session = filter (λ s. not (r s)) first in
    let both : List Session = filter (λ s. not (p s || r s)) st.sessions in
    let sessions : last ≡ both = filter_or p r st.sessions in
    let kept : List Stream = filter (lasting first) st.streams in
    let streams : filter (lasting last) kept ≡ filter (lasting last) st.streams =
    filter_twice (lasting first) (lasting last) st.streams (λ t e. any_fewer (λ s. not (r s)) (λ s. s.stream == t.number) first e) in
    let rows : free_rows (filter (lasting last) kept) (free_rows kept st.rows) ≡ free_rows (filter (lasting last) kept) st.rows =
    freed_twice kept (filter (lasting last) kept) (λ number e. any_fewer (lasting last) (λ (t : Stream). is_at t.front number) kept e) st.rows in
    ap (state_of st last (filter (lasting last) kept)) rows
    ∙ ap (λ ts. state_of st last ts (free_rows ts st.rows)) streams
    ∙ ap (λ ss. state_of st ss (filter (lasting ss) st.streams) (free_rows (filter (lasting ss) st.streams) st.rows)) sessions

pub lose_same : (p q : Session → Bool) (st : State) → ((s : Session) → Has s st.sessions → p s ≡ q s) → lose p st ≡ lose q st
lose_same p q st same =
    ap (λ (ss : List Session). sweep (record st { sessions = ss }))
    (filter_members (λ s. not (p s)) (λ s. not (q s)) st.sessions (λ s has. ap not (same s has)))

-- ends that send nothing
pub quiet_ends : (p : Session → Bool) (clock : ℕ) (ss : List Session) → ((s : Session) → Has s ss → p s ≡ true → (part clock s).sends ≡ [])
    → flat_map (λ s. (ending p clock s).sends) ss ≡ []
quiet_ends p clock [] quiet = refl
quiet_ends p clock (s ∷ ss) quiet =
    ap (λ (ds : List Sent). ds ++ flat_map (λ x. (ending p clock x).sends) ss) (by (p s) refl) ∙ quiet_ends p clock ss (λ x has. quiet x (inr has))
  where
    by : (b : Bool) → p s ≡ b → (cond b (part clock s) (record { sends = []; after = Some s })).sends ≡ []
    by true e = quiet s (inl refl) e
    by false e = refl
