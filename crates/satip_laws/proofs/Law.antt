-- The readings law, and that what is selected is given.
use Rattle.std.proofs.Common.{arith, inl, inr, ◌≡◌, ℕ, ◌==◌, Bool, true, false, cond, List, [], ◌∷◌, ◌++◌, map, find, Option, Some, None, refl, ap, sym, ◌∙◌, append-nil, append_assoc, take}
use Rattle.std.specs.Option.{option_map, option_and_then, option_map_or}
use Rattle.std.proofs.lemmas.Bool.{eqb-true}
use Rattle.satip_base.specs.Lists.{Has, Each}
use Rattle.satip_tune.specs.declared.frontends.Front.{Front}
use Rattle.satip_plain.specs.declared.setting.Setting.{Setting}
use Rattle.satip_plain.specs.declared.events.Event.{Event}
use Rattle.satip_plain.specs.declared.events.Event.TheVariants.{Request as Asked, Get as Got, Tick, Packet, Ended, Ask, Pull, Close, Stop}
use Rattle.satip_plain.specs.Types.{SessionId, Config}
use Rattle.satip_plain.specs.State.{Session, Row, State, owner as owner_of, same_id}
use Rattle.satip_plain.specs.Steps.{step}
use Rattle.satip_plain.specs.Values.{IsEvent}
use Rattle.satip_plain.specs.Histories.{Item, Legal, LegalFrom, opening, untuned, after, after_from}
use Rattle.satip_plain.specs.Readings.{Made, Readings, living, living_session, owner, any_where, is_selected, packet_in, nothing_read, read_one, read_from, readings}
use Rattle.satip_laws.specs.Given.{given_in, given_from}
use Rattle.satip_laws.specs.Agreement.{told_by_state, told_by_history, owner_told, IsAsRead, IsServed, StateIsRead, PickedIsSelected, SelectedIsGiven}
use Rattle.satip_laws.proofs.Finding.{either_way, find_has, find_agree}
use Rattle.satip_laws.proofs.Agree.{Same, Alike, Agrees, Matched, alike_find, alike_has, stream_found, number_home}
use Rattle.satip_laws.proofs.Delivering.{plays_living, gives_is_selected}
use Rattle.satip_laws.proofs.Steps.{agrees_step}

-- before the first entry

numbers_untuned : (fronts : List Front) → map (λ (r : Row). r.number) (map untuned fronts) ≡ map (λ (f : Front). f.number) fronts
numbers_untuned [] = refl
numbers_untuned (f ∷ fronts) = ap (λ ns. f.number ∷ ns) (numbers_untuned fronts)

untuned_tune : (f : ℕ) (fronts : List Front) → option_map_or (λ (r : Row). r.tune) (find (λ (r : Row). r.number == f) (map untuned fronts)) 0 ≡ 0
untuned_tune f [] = refl
untuned_tune f (x ∷ fronts) = by (x.number == f) (untuned_tune f fronts)
  where
    by : (b : Bool) → option_map_or (λ (r : Row). r.tune) (find (λ (r : Row). r.number == f) (map untuned fronts)) 0 ≡ 0
        → option_map_or (λ (r : Row). r.tune) (cond b (Some (untuned x)) (find (λ (r : Row). r.number == f) (map untuned fronts))) 0 ≡ 0
    by true rest = refl
    by false rest = rest

untuned_mux : (f : ℕ) (fronts : List Front) → option_and_then (λ (r : Row). r.mux) (find (λ (r : Row). r.number == f) (map untuned fronts)) ≡ None
untuned_mux f [] = refl
untuned_mux f (x ∷ fronts) = by (x.number == f) (untuned_mux f fronts)
  where
    by : (b : Bool) → option_and_then (λ (r : Row). r.mux) (find (λ (r : Row). r.number == f) (map untuned fronts)) ≡ None
        → option_and_then (λ (r : Row). r.mux) (cond b (Some (untuned x)) (find (λ (r : Row). r.number == f) (map untuned fronts))) ≡ None
    by true rest = refl
    by false rest = rest

pub agrees_opening : (c : Setting) → Agrees c.config (opening c) (nothing_read c)
agrees_opening c = record {
  loosely = record {
    clock = refl;
    made = refl;
    sessions = tt;
    living_streams = λ m h. absurd h;
    tunes = λ f. untuned_tune f c.config.fronts;
    muxes = λ f. untuned_mux f c.config.fronts;
    told = record {
      ids = λ m n h k e. absurd h;
      numbers = λ m n h k e. absurd h;
      few = λ m h. absurd h;
      homes = λ m h. absurd h;
      unmade = λ s above. record { over = refl; played = refl; tuned = refl; pids = refl; front = refl; selected = refl; pulled = refl };
      packets = λ s. tt;
    };
    kept = record {
      apart = tt;
      once = λ t u h k e. absurd h;
      positive = λ t h. absurd h;
      few = omega arith;
      rows = numbers_untuned c.config.fronts;
      placed = λ t f h e. absurd h;
    };
  };
  streams = λ n. refl;
  free = λ f e. refl;
}

-- over all entries

pub agrees_from : (c : Config) (h : List Item) (st : State) (g : Readings) → Each (λ e. IsEvent e.event) h → LegalFrom c st h → Agrees c st g
    → Agrees c (after_from c st h) (read_from c g h)
agrees_from c [] st g events legal a = a
agrees_from c (e ∷ h) st g events legal a = agrees_from c h (step c st e.event).state (read_one c g e) events.1 legal.1
    (agrees_step c st g e events.0 legal.0 a)

-- what agrees is as read

told_same : (g : Readings) (ms : List Made) (ss : List Session) → ((m : Made) → Has m ms → Has m (living g)) → Alike g ms ss
    → map told_by_state ss ≡ map (told_by_history g) ms
told_same g [] [] lives alike = refl
told_same g [] (s ∷ ss) lives alike = absurd alike
told_same g (m ∷ ms) [] lives alike = absurd alike
told_same g (m ∷ ms) (s ∷ ss) lives alike = λ i. one i ∷ told_same g ms ss (λ n h. lives n (inr h)) alike.1 i
  where
    e : Same g m s
    e = alike.0

    one : told_by_state s ≡ told_by_history g m
    one = λ i. record {
      id = e.id i;
      http = e.http i;
      stream = e.stream i;
      playing = (e.playing ∙ sym (plays_living g m (lives m (inl refl)))) i;
      heard = e.heard i;
      ssrc = e.ssrc i;
      first = e.first i;
    }

pub owners_same : (c : Config) (st : State) (g : Readings) → Agrees c st g → (n : ℕ) → option_map (λ s. s.id) (owner_of st n) ≡ owner_told g n
owners_same c st g a n = by (find (λ m. g.number m.home == n) (living g)) (owner_of st n) refl
    (alike_find g (λ m. g.number m.home == n) (λ s. s.stream == n) (living g) st.sessions (λ m s h e. ap (λ k. k == n) (sym e.stream)) a.loosely.sessions)
  where
    by : (o : Option Made) (q : Option Session) → find (λ m. g.number m.home == n) (living g) ≡ o → Matched g o q
        → option_map (λ s. s.id) q ≡ option_map (λ m. m.id) (option_and_then (owner g) (option_map (λ m. m.home) o))
    by None None e same = refl
    by None (Some s) e same = absurd same
    by (Some m) None e same = absurd same
    by (Some m) (Some s) e same =
        let there = find_has (λ x. g.number x.home == n) (living g) m e in
        let number : g.number m.home ≡ n = eqb-true (g.number m.home) n there.1 in
        let owns : owner g m.home ≡ Some m =
        find_agree (λ x. same_id x.home m.home) (λ x. g.number x.home == n) (living g)
        (λ x h. sym (number_home g a.loosely.told x m h there.0) ∙ ap (λ k. g.number x.home == k) number) ∙ e in
        ap Some same.id ∙ ap (option_map (λ x. x.id)) (sym owns)

pub as_read : (c : Config) (st : State) (g : Readings) → Agrees c st g → IsAsRead c st g
as_read c st g a = record {
  clock = a.loosely.clock;
  made = a.loosely.made;
  sessions = told_same g (living g) st.sessions (λ m h. h) a.loosely.sessions;
  streams = a.streams;
  each = stream_found c st g a;
  numbers = a.loosely.told.numbers;
  owners = owners_same c st g a;
  fronts = a.loosely.kept.rows;
  tunes = a.loosely.tunes;
  muxes = a.loosely.muxes;
}

pub agrees_after : (c : Setting) (h : List Item) → Legal c h → Agrees c.config (after c h) (readings c h)
agrees_after c h legal = agrees_from c.config h (opening c) (nothing_read c) legal.events legal.entries (agrees_opening c)

pub state_is_read : StateIsRead
state_is_read c h legal = as_read c.config (after c h) (readings c h) (agrees_after c h legal)

-- what living sessions were given

served : (c : Config) (st : State) (g : Readings) → Agrees c st g → (s : Session) → Has s st.sessions → IsServed g s
served c st g a s h =
    let m = alike_has g s (living g) st.sessions a.loosely.sessions h in
    record {
      picked = m.2.picked ∙ ap g.selected (sym m.2.id);
      pulled = λ http. let q = m.2.queue http in ap (λ n. take n s.picked) q.sizes ∙ q.begins ∙ ap g.pulled (sym m.2.id);
    }

pub picked_is_selected : PickedIsSelected
picked_is_selected c h s legal lives = served c.config (after c h) (readings c h) (agrees_after c h legal) s lives

-- what is selected

selected_given : (c : Config) (st : State) (g : Readings) (e : Event) (s : SessionId) → Agrees c st g
    → cond (any_where (is_selected g e) (living_session g s)) (packet_in e) [] ≡ given_in st e s
selected_given c st g (Asked peer draw r) s a = sym (either_way [] (any_where (is_selected g (Asked peer draw r)) (living_session g s)))
selected_given c st g (Got peer draw r) s a = sym (either_way [] (any_where (is_selected g (Got peer draw r)) (living_session g s)))
selected_given c st g (Tick now) s a = sym (either_way [] (any_where (is_selected g (Tick now)) (living_session g s)))
selected_given c st g (Packet front tune packet) s a = ap (λ b. cond {A = List (List ℕ)} b (packet ∷ []) []) (gives_is_selected c st g front tune packet s a)
selected_given c st g (Ended front tune) s a = sym (either_way [] (any_where (is_selected g (Ended front tune)) (living_session g s)))
selected_given c st g (Ask front) s a = sym (either_way [] (any_where (is_selected g (Ask front)) (living_session g s)))
selected_given c st g (Pull id) s a = sym (either_way [] (any_where (is_selected g (Pull id)) (living_session g s)))
selected_given c st g (Close id) s a = sym (either_way [] (any_where (is_selected g (Close id)) (living_session g s)))
selected_given c st g Stop s a = sym (either_way [] (any_where (is_selected g Stop) (living_session g s)))

selected_from : (c : Config) (h : List Item) (st : State) (g : Readings) (s : SessionId) → Each (λ e. IsEvent e.event) h → LegalFrom c st h → Agrees c st g
    → (read_from c g h).selected s ≡ g.selected s ++ given_from c st h s
selected_from c [] st g s events legal a = sym (append-nil (g.selected s))
selected_from c (e ∷ h) st g s events legal a =
    selected_from c h (step c st e.event).state (read_one c g e) s events.1 legal.1 (agrees_step c st g e events.0 legal.0 a)
    ∙ ap (λ xs. (g.selected s ++ xs) ++ given_from c (step c st e.event).state h s) (selected_given c st g e.event s a)
    ∙ append_assoc (g.selected s) (given_in st e.event s) (given_from c (step c st e.event).state h s)

pub selected_is_given : SelectedIsGiven
selected_is_given c h s legal = selected_from c.config h (opening c) (nothing_read c) s legal.events legal.entries (agrees_opening c)
