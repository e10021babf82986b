-- A packet is delivered: whom it is given to.
use Rattle.std.proofs.Common.{arith, ◌≡◌, ℕ, ◌≤◌, ◌==◌, ◌&&◌, ◌||◌, Bool, true, false, cond, List, [], ◌∷◌, ◌++◌, length, filter, Option, Some, None, refl, ap, sym, ◌∙◌, if◌then◌else◌, option_and_then, append-nil, append_assoc}
use Rattle.std.specs.List.{list_any}
use Rattle.std.proofs.lemmas.Bool.{and_parts, eqb-true, eqb-false, ne_eqb, or_right, or_left}
use Rattle.std.proofs.lemmas.List.Folds.{list_any-append}
use Rattle.satip_pids.specs.Pids.{has_pid}
use Rattle.satip_ts.specs.Packet.{pid_of}
use Rattle.satip_plain.specs.Types.{SessionId}
use Rattle.satip_plain.specs.State.{Session, State, Stream, same_id, held, served_by}
use Rattle.satip_plain.specs.Sending.{Turn, Move, let_go}
use Rattle.satip_plain.specs.Steps.{part, given, picks, is_overrun, give, give_all, overrun, deliver, end_where}
use Rattle.satip_laws.proofs.Ids.{look, Apart, id_same, found_id}
use Rattle.satip_laws.proofs.Told.{Told, told, all_of}
use Rattle.satip_laws.proofs.Evolving.{Evolves, Runs}
use Rattle.satip_laws.proofs.Rounds.{round, after_of}
use Rattle.satip_laws.proofs.Turns.{Takes, still, some_turn, part_takes, given_takes, got_unless, more_of}
use Rattle.satip_laws.proofs.Single.{Single, has_number, many, single_filter}
use Rattle.satip_laws.proofs.Moves.{IsSound, Goes, goes_then, goes_same, goes_got, goes_each, goes_end, nothing}

-- the turn at one stream
abbrev give_turn : ℕ → List ℕ → Stream → Session → Turn
give_turn clock packet t x = if picks t packet x then given clock packet x else record { sends = []; after = Some x }

-- what a session gets at these streams, where its queue has room
abbrev got_at : List ℕ → List Stream → Option Session → List (List ℕ)
got_at packet ts None = []
got_at packet ts (Some x) = if list_any (λ t. picks t packet x) ts then got_unless (is_overrun x) packet else []

give_takes : (clock : ℕ) (packet : List ℕ) (t : Stream) (x : Session) → Takes x (give_turn clock packet t x) (got_at packet (t ∷ []) (Some x))
give_takes clock packet t x = by (picks t packet x)
  where
    by : (b : Bool) → Takes x (if b then given clock packet x else record { sends = []; after = Some x })
        (if (b || false) then got_unless (is_overrun x) packet else [])
    by true = given_takes clock packet x
    by false = still x

goes_give : (packet : List ℕ) (t : Stream) (st : State) → IsSound st → Goes st (give packet t st) (λ s. got_at packet (t ∷ []) (look s st.sessions)) nothing
goes_give packet t st sound = goes_each st (give_turn st.clock packet t) (got_at packet (t ∷ [])) refl (give_takes st.clock packet t) sound

-- streams of other numbers don't pick the session

none_numbered : (n : ℕ) (ts : List Stream) → many n ts ≡ 0 → (packet : List ℕ) (y : Session) → y.stream ≡ n → list_any (λ t. picks t packet y) ts ≡ false
none_numbered n [] none packet y e = refl
none_numbered n (t ∷ ts) none packet y e = by (t.number == n) refl none (λ f. none_numbered n ts f packet y e)
  where
    by : (b : Bool) → (t.number == n) ≡ b → length (cond b (t ∷ filter (has_number n) ts) (filter (has_number n) ts)) ≡ 0
        → (many n ts ≡ 0 → list_any (λ t. picks t packet y) ts ≡ false)
        → ((y.stream == t.number && y.playing && has_pid t.pids (pid_of packet)) || list_any (λ t. picks t packet y) ts) ≡ false
    by true f none rest = cc
    by false f none rest =
        let other : (y.stream == t.number) ≡ false = ne_eqb y.stream t.number (λ g. eqb-false t.number n f (sym g ∙ e)) in
        rw other (rest none)

single_rest : (t : Stream) (ts : List Stream) → Single (t ∷ ts) → many t.number ts ≡ 0
single_rest t ts s = by (t.number == t.number) refl (s.few t.number)
  where
    by : (b : Bool) → (t.number == t.number) ≡ b → length (cond b (t ∷ filter (has_number t.number) ts) (filter (has_number t.number) ts)) ≤ 1
        → many t.number ts ≡ 0
    by true e le = omega (arith, le)
    by false e le = absurd (eqb-false t.number t.number e refl)

single_tail : (t : Stream) (ts : List Stream) → Single (t ∷ ts) → Single ts
single_tail t ts s = record { few = λ n. by n (t.number == n) (s.few n) }
  where
    by : (n : ℕ) (b : Bool) → length (cond b (t ∷ filter (has_number n) ts) (filter (has_number n) ts)) ≤ 1 → many n ts ≤ 1
    by n true le = omega (arith, le)
    by n false le = le

-- who was picked at one stream is at no later one
given_stream : (clock : ℕ) (packet : List ℕ) (x y : Session) → (given clock packet x).after ≡ Some y → y.stream ≡ x.stream
given_stream clock packet x y e = by x.http (is_overrun x) e
  where
    by : (a b : Bool) → (if a then record { sends = []; after = Some (if b then x else more_of packet x) } else let_go false clock (more_of packet x)).after
        ≡ Some y → y.stream ≡ x.stream
    by true true e = cc
    by true false e = cc
    by false b e = cc

picked_number : (packet : List ℕ) (t : Stream) (x : Session) → picks t packet x ≡ true → x.stream ≡ t.number
picked_number packet t x e = eqb-true x.stream t.number
    (and_parts (x.stream == t.number) x.playing (and_parts (x.stream == t.number && x.playing) (has_pid t.pids (pid_of packet)) e).0).0

none_later : (clock : ℕ) (packet : List ℕ) (t : Stream) (ts : List Stream) (x : Session) → Single (t ∷ ts) → picks t packet x ≡ true → (o : Option Session)
    → (given clock packet x).after ≡ o → got_at packet ts o ≡ []
none_later clock packet t ts x s e None f = refl
none_later clock packet t ts x s e (Some y) f =
    let same : y.stream ≡ t.number = given_stream clock packet x y f ∙ picked_number packet t x e in
    rw (none_numbered t.number ts (single_rest t ts s) packet y same) refl

got_more : (clock : ℕ) (packet : List ℕ) (t : Stream) (ts : List Stream) (o : Option Session) → Single (t ∷ ts)
    → got_at packet (t ∷ []) o ++ got_at packet ts (option_and_then (λ x. (give_turn clock packet t x).after) o) ≡ got_at packet (t ∷ ts) o
got_more clock packet t ts None s = refl
got_more clock packet t ts (Some x) s = by (picks t packet x) refl
  where
    by : (b : Bool) → picks t packet x ≡ b
        → (if (b || false) then got_unless (is_overrun x) packet else [])
        ++ got_at packet ts (if b then given clock packet x else record { sends = []; after = Some x }).after
        ≡ (if (b || list_any (λ t. picks t packet x) ts) then got_unless (is_overrun x) packet else [])
    by true e = rw (none_later clock packet t ts x s e (given clock packet x).after refl) (append-nil (got_unless (is_overrun x) packet))
    by false e = refl

goes_none : (packet : List ℕ) (o : Option Session) → [] ≡ got_at packet [] o
goes_none packet None = refl
goes_none packet (Some x) = refl

pub goes_give_all : (packet : List ℕ) (ts : List Stream) (st : State) → Single ts → IsSound st
    → Goes st (give_all packet ts st) (λ s. got_at packet ts (look s st.sessions)) nothing
goes_give_all packet [] st single sound =
    goes_got st (give_all packet [] st) nothing (λ s. got_at packet [] (look s st.sessions)) nothing (λ s. goes_none packet (look s st.sessions))
    (goes_same st st sound refl refl sound.single)
goes_give_all packet (t ∷ ts) st single sound =
    let m : Move = give packet t st in
    let first : Goes st m (λ s. got_at packet (t ∷ []) (look s st.sessions)) nothing = goes_give packet t st sound in
    let second : Goes m.state (give_all packet ts m.state) (λ s. got_at packet ts (look s m.state.sessions)) nothing =
    goes_give_all packet ts m.state (single_tail t ts single) first.sound in
    let both = goes_then st m (give_all packet ts) (λ s. got_at packet (t ∷ []) (look s st.sessions)) nothing (λ s. got_at packet ts (look s m.state.sessions))
    nothing first second in
    let found : (s : SessionId) → look s m.state.sessions ≡ option_and_then (λ x. (give_turn st.clock packet t x).after) (look s st.sessions) = λ s.
    (round s (give_turn st.clock packet t) (λ x. (give_takes st.clock packet t x).own) st.sessions sound.apart).found in
    goes_got st (give_all packet (t ∷ ts) st) (λ s. got_at packet (t ∷ []) (look s st.sessions) ++ got_at packet ts (look s m.state.sessions))
    (λ s. got_at packet (t ∷ ts) (look s st.sessions)) nothing
    (λ s. rw (found s) (got_more st.clock packet t ts (look s st.sessions) single)) both

-- whoever finds its queue full is among those that end

any_where : (s : SessionId) (p q : Session → Bool) (xs : List Session) (x : Session) → look s xs ≡ Some x → p x ≡ true → q x ≡ true
    → list_any q (filter p xs) ≡ true
any_where s p q [] x e f g = cc
any_where s p q (y ∷ ys) x e f g = by (same_id y.id s) e (λ h. any_where s p q ys x h f g)
  where
    by : (b : Bool) → (if b then Some y else look s ys) ≡ Some x → (look s ys ≡ Some x → list_any q (filter p ys) ≡ true)
        → list_any q (filter p (y ∷ ys)) ≡ true
    by true h rest = let same : y ≡ x = cc in rw (same, f) (or_left (q x) (list_any q (filter p ys)) g)
    by false h rest = at (p y) (rest h)
      where
        at : (b : Bool) → list_any q (filter p ys) ≡ true → list_any q (cond b (y ∷ filter p ys) (filter p ys)) ≡ true
        at true r = or_right (q y) (list_any q (filter p ys)) r
        at false r = r

any_full : (packet : List ℕ) (st : State) (s : SessionId) (x : Session) → look s st.sessions ≡ Some x → is_overrun x ≡ true → (ts : List Stream)
    → list_any (λ t. picks t packet x) ts ≡ true → list_any (λ z. same_id z.id x.id) (overrun packet st ts) ≡ true
any_full packet st s x e full [] any = cc
any_full packet st s x e full (t ∷ ts) any =
    list_any-append (λ z. same_id z.id x.id) (filter (λ z. picks t packet z && is_overrun z) st.sessions) (overrun packet st ts)
    ∙ by (picks t packet x) refl any (λ f. any_full packet st s x e full ts f)
  where
    by : (b : Bool) → picks t packet x ≡ b → (b || list_any (λ t. picks t packet x) ts) ≡ true
        → (list_any (λ t. picks t packet x) ts ≡ true → list_any (λ z. same_id z.id x.id) (overrun packet st ts) ≡ true)
        → (list_any (λ z. same_id z.id x.id) (filter (λ z. picks t packet z && is_overrun z) st.sessions)
        || list_any (λ z. same_id z.id x.id) (overrun packet st ts)) ≡ true
    by true f any rest = or_left _ _
        (any_where s (λ z. picks t packet z && is_overrun z) (λ z. same_id z.id x.id) st.sessions x e (rw (f, full) refl) (id_same x.id))
    by false f any rest = or_right (list_any (λ z. same_id z.id x.id) (filter (λ z. picks t packet z && is_overrun z) st.sessions)) _ (rest any)

-- whom the packet is meant for, as it stands in what is given
abbrev pub meant_at : List ℕ → List Stream → Option Session → List (List ℕ)
meant_at packet ts None = []
meant_at packet ts (Some x) = if list_any (λ t. picks t packet x) ts then packet ∷ [] else []

abbrev ending : List ℕ → State → List Stream → Session → Bool
ending packet st ts y = list_any (λ z. same_id z.id y.id) (overrun packet st ts)

part_none : (clock : ℕ) (p : Session → Bool) (y : Session) → p y ≡ true → (if p y then part clock y else record { sends = []; after = Some y }).after ≡ None
part_none clock p y e = rw e refl

ended_none : (clock : ℕ) (p : Session → Bool) (s : SessionId) (x : Session) (xs : List Session) → Apart xs → x.id ≡ s
    → ((y : Session) → y.id ≡ x.id → p y ≡ true)
    → look s (after_of (λ y. if p y then part clock y else record { sends = []; after = Some y }) xs) ≡ None
ended_none clock p s x xs apart id ends = (round s turn (λ y. (some_turn p (part clock) y (λ e. part_takes clock y)).own) xs apart).found ∙ by (look s xs) refl
  where
    turn : Session → Turn
    turn y = if p y then part clock y else record { sends = []; after = Some y }

    by : (o : Option Session) → look s xs ≡ o → option_and_then (λ y. (if p y then part clock y else record { sends = []; after = Some y }).after) o ≡ None
    by None e = refl
    by (Some y) e = part_none clock p y (ends y (found_id s xs y e ∙ sym id))

-- a full HTTP session ends, and so the packet may count as given to it
ended_got : (x : Session) (ts : List Told) (got took more : List (List ℕ)) → x.http ≡ true → Evolves x ts got took None → Evolves x ts (got ++ more) took None
ended_got x ts got took more http e = record {
  groups = e.groups;
  tells = e.tells;
  takes = e.takes;
  follows = record {
    rest = e.follows.rest ++ more;
    whole = λ f. sym (append_assoc (held x) got more) ∙ ap (λ l. l ++ more) (e.follows.whole f) ∙ append_assoc (all_of e.groups) e.follows.rest more;
    none = λ f. cc;
  };
}

deliver_runs : (x : Session) (ts : List Told) (packet : List ℕ) (any full : Bool) (o : Option Session) → is_overrun x ≡ full
    → (full ≡ true → any ≡ true → o ≡ None) → Evolves x ts (if any then got_unless full packet else []) [] o
    → Evolves x ts (if any then packet ∷ [] else []) [] o
deliver_runs x ts packet false full o e over run = run
deliver_runs x ts packet true false o e over run = run
deliver_runs x ts packet true true o e over run =
    let none : o ≡ None = over refl refl in
    let http : x.http ≡ true = (and_parts x.http (length (held x) == 4096) e).0 in
    rw none (ended_got x ts [] [] (packet ∷ []) http (rw none at run))

pub goes_deliver : (front : ℕ) (packet : List ℕ) (st : State) → IsSound st
    → Goes st (deliver front packet st) (λ s. meant_at packet (served_by st front) (look s st.sessions)) nothing
goes_deliver front packet st sound =
    record { runs = λ s. by s (look s st.sessions) refl (both.runs s); sound = both.sound; made = both.made }
  where
    ts : List Stream
    ts = served_by st front

    m : Move
    m = give_all packet ts st

    first : Goes st m (λ s. got_at packet ts (look s st.sessions)) nothing
    first = goes_give_all packet ts st (single_filter _ st.streams sound.single) sound

    second : Goes m.state (end_where (ending packet st ts) m.state) nothing nothing
    second = goes_end m.state (ending packet st ts) first.sound

    both : Goes st (deliver front packet st) (λ s. got_at packet ts (look s st.sessions) ++ []) nothing
    both = goes_then st m (end_where (ending packet st ts)) (λ s. got_at packet ts (look s st.sessions)) nothing nothing nothing first second

    over : (s : SessionId) (x : Session) → look s st.sessions ≡ Some x → is_overrun x ≡ true → list_any (λ t. picks t packet x) ts ≡ true
        → look s (deliver front packet st).state.sessions ≡ None
    over s x e full any = ended_none m.state.clock (ending packet st ts) s x m.state.sessions first.sound.apart (found_id s st.sessions x e)
        (λ y same. rw same (any_full packet st s x e full ts any))

    by : (s : SessionId) (o : Option Session) → look s st.sessions ≡ o
        → Runs o (told s (deliver front packet st).sent) (got_at packet ts o ++ []) [] (look s (deliver front packet st).state.sessions)
        → Runs o (told s (deliver front packet st).sent) (meant_at packet ts o) [] (look s (deliver front packet st).state.sessions)
    by s None e run = run
    by s (Some x) e run = deliver_runs x (told s (deliver front packet st).sent) packet (list_any (λ t. picks t packet x) ts) (is_overrun x)
        (look s (deliver front packet st).state.sessions) refl
        (λ full any. over s x e full any) (rw append-nil at run)
