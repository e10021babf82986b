-- Ticks, ends of recordings, questions of pumps, the stop, and HTTP sessions that are closed.
use Rattle.std.proofs.Common.{◌≡◌, ℕ, ◌+◌, ◌*◌, ◌&&◌, not, Bool, true, false, cond, [], map, max, Option, Some, None, is_some, refl, ap, sym, subst, ◌∙◌}
use Rattle.std.specs.Prelude.{nat_le}
use Rattle.std.specs.Option.{option_and_then, option_map, option_map_or}
use Rattle.std.proofs.lemmas.Bool.{and_parts, and_from, not-true}
use Rattle.satip_plain.proofs.SameIds.{same_id_is}
use Rattle.satip_base.specs.Lists.{Has}
use Rattle.satip_base.specs.Output.{Output}
use Rattle.satip_plain.specs.Types.{SessionId, Config}
use Rattle.satip_plain.specs.declared.answers.Answer.{Answer}
use Rattle.satip_plain.specs.declared.events.Event.TheVariants.{Tick}
use Rattle.satip_plain.specs.State.{Session, Row, State, same_id, row_of, http_session}
use Rattle.satip_plain.specs.Sending.{each_of, let_go}
use Rattle.satip_plain.specs.Steps.{tick, capped, is_expired}
use Rattle.satip_plain.specs.Readings.{Made, Readings, living, living_session, any_where, is_accepted, frees, ends, keeps_alive, is_selected, pulled_by, read_one, living_http}
use Rattle.satip_laws.proofs.SameTests.{same_bool, id_same, id_turned}
use Rattle.satip_laws.proofs.Finding.{either_way, find_has, find_fails}
use Rattle.satip_laws.proofs.Agree.{Same, IsTold, Agrees, Matched, serves, alike_find, alike_read}
use Rattle.satip_laws.proofs.Quiet.{same_again, agrees_flush, agrees_reports}
use Rattle.satip_laws.proofs.Sweeping.{agrees_ended, over_read, freed_same, row_map, rows_map, is_some_map}
use Rattle.satip_laws.proofs.Reading.{item, read_simply, read_other, simply_same, simply_ends, simply_still, never, nothing}

-- another moment
pub agrees_clock : (c : Config) (st : State) (g : Readings) (k n : ℕ) → k ≡ n → Agrees c st g → Agrees c (record st { clock = k }) (record g { clock = n })
agrees_clock c st g k n same a = record {
  loosely = record {
    clock = same;
    made = a.loosely.made;
    sessions = alike_read g (record g { clock = n }) (living g) st.sessions (λ m s h e. same_again g (record g { clock = n }) m s e refl refl refl refl refl)
        a.loosely.sessions;
    living_streams = a.loosely.living_streams;
    tunes = a.loosely.tunes;
    muxes = a.loosely.muxes;
    told = let told = a.loosely.told in
        record {
          ids = told.ids;
          numbers = told.numbers;
          few = told.few;
          homes = told.homes;
          unmade = λ s above. let u = told.unmade s above in
              record { over = u.over; played = u.played; tuned = u.tuned; pids = u.pids; front = u.front; selected = u.selected; pulled = u.pulled };
          packets = told.packets;
        };
    kept = record {
      apart = a.loosely.kept.apart;
      once = a.loosely.kept.once;
      positive = a.loosely.kept.positive;
      few = a.loosely.kept.few;
      rows = a.loosely.kept.rows;
      placed = a.loosely.kept.placed;
    };
  };
  streams = a.streams;
  free = a.free;
}

-- the readings of an entry that makes no session, changes no stream and starts no play

tick_read : (c : Config) (g : Readings) (caller now : ℕ) (answer : Answer) (out : Output)
    → read_one c g (item caller (Tick now) answer out)
    ≡ over_read (λ m. nat_le (g.heard m.id + c.timeout * 1000) (max g.clock (capped now))) (record g { clock = max g.clock (capped now) })
tick_read c g caller now answer out =
    let e = item caller (Tick now) answer out in
    read_other c g e (sym (either_way None (is_accepted answer))) (sym (either_way None (is_accepted answer))) (λ s. sym (either_false (is_accepted answer)))
    ∙ ap frees (simply_same g (max g.clock (capped now)) (ends c g e) (keeps_alive (Tick now))
    (λ m. nat_le (g.heard m.id + c.timeout * 1000) (max g.clock (capped now))) never
    (λ s. cond (any_where (is_selected g (Tick now)) (living_session g s)) [] []) (pulled_by e) nothing nothing
    (λ m h. refl) (λ m h. refl) (λ s. sym (either_way [] (any_where (is_selected g (Tick now)) (living_session g s)))) (λ s. refl)
    ∙ simply_ends g (max g.clock (capped now)) (λ m. nat_le (g.heard m.id + c.timeout * 1000) (max g.clock (capped now))))
  where
    either_false : (b : Bool) → false ≡ (b && false)
    either_false true = refl
    either_false false = refl

pub agrees_tick : (c : Config) (st : State) (g : Readings) (caller now : ℕ) (answer : Answer) (out : Output) → Agrees c st g
    → Agrees c (tick c now st).state (read_one c g (item caller (Tick now) answer out))
agrees_tick c st g caller now answer out a = subst (Agrees c (tick c now st).state) (sym (tick_read c g caller now answer out))
    (agrees_reports c _ _ (agrees_ended c flushed (record g { clock = later_read }) (λ m. nat_le (g.heard m.id + c.timeout * 1000) later_read)
    (is_expired c later)
    (λ m s h e. ap (λ n. nat_le (n + c.timeout * 1000) later_read) (sym e.heard) ∙ ap (nat_le (s.heard + c.timeout * 1000)) (sym clocks))
    (agrees_flush c (record st { clock = later }) (record g { clock = later_read }) (λ s. not s.http) true later (λ x e. not-true x.http e)
    (agrees_clock c st g later later_read clocks a))))
  where
    later : ℕ
    later = max st.clock (capped now)

    later_read : ℕ
    later_read = max g.clock (capped now)

    clocks : later ≡ later_read
    clocks = ap (λ n. max n (capped now)) a.loosely.clock

    flushed : State
    flushed = (each_of (λ s. not s.http) (let_go true later) (record st { clock = later })).state

-- the end of a recording

pub agrees_ended_row : (c : Config) (st : State) (g : Readings) (p : Row → Bool) → Agrees c st g
    → Agrees c (record st { rows = map (λ r. cond (p r) (record r { ended = true }) r) st.rows }) g
agrees_ended_row c st g p a = record {
  loosely = record {
    clock = a.loosely.clock;
    made = a.loosely.made;
    sessions = a.loosely.sessions;
    living_streams = a.loosely.living_streams;
    tunes = λ f. ap (λ o. option_map_or (λ (r : Row). r.tune) o 0) (row_map ending ending_number st.rows f) ∙ tune_by (row_of st f) ∙ a.loosely.tunes f;
    muxes = λ f. ap (option_and_then (λ (r : Row). r.mux)) (row_map ending ending_number st.rows f) ∙ mux_by (row_of st f) ∙ a.loosely.muxes f;
    told = a.loosely.told;
    kept = record {
      apart = a.loosely.kept.apart;
      once = a.loosely.kept.once;
      positive = a.loosely.kept.positive;
      few = a.loosely.kept.few;
      rows = rows_map ending ending_number st.rows ∙ a.loosely.kept.rows;
      placed = λ t f h e. ap is_some (row_map ending ending_number st.rows f) ∙ is_some_map ending (row_of st f) ∙ a.loosely.kept.placed t f h e;
    };
  };
  streams = a.streams;
  free = a.free;
}
  where
    ending : Row → Row
    ending = λ r. cond (p r) (record r { ended = true }) r

    number_by : (r : Row) (b : Bool) → (cond b (record r { ended = true }) r).number ≡ r.number
    number_by r true = refl
    number_by r false = refl

    ending_number : (r : Row) → (ending r).number ≡ r.number
    ending_number r = number_by r (p r)

    tune_one : (r : Row) (b : Bool) → (cond b (record r { ended = true }) r).tune ≡ r.tune
    tune_one r true = refl
    tune_one r false = refl

    tune_by : (o : Option Row) → option_map_or (λ (r : Row). r.tune) (option_map ending o) 0 ≡ option_map_or (λ (r : Row). r.tune) o 0
    tune_by None = refl
    tune_by (Some r) = tune_one r (p r)

    mux_one : (r : Row) (b : Bool) → (cond b (record r { ended = true }) r).mux ≡ r.mux
    mux_one r true = refl
    mux_one r false = refl

    mux_by : (o : Option Row) → option_and_then (λ (r : Row). r.mux) (option_map ending o) ≡ option_and_then (λ (r : Row). r.mux) o
    mux_by None = refl
    mux_by (Some r) = mux_one r (p r)

-- an HTTP session that is named

pub http_match : (c : Config) (st : State) (g : Readings) (id : SessionId) → Agrees c st g → Matched g (living_http g id) (http_session st id)
http_match c st g id a = alike_find g (λ m. same_id m.id id && m.http) (λ s. same_id s.id id && s.http) (living g) st.sessions
    (λ m s h e. ap (λ x. same_id x id && m.http) (sym e.id) ∙ ap (λ b. same_id s.id id && b) (sym e.http)) a.loosely.sessions

-- what an event that names an HTTP session says of it
abbrev pub is_this_http : SessionId → Made → Bool
is_this_http id m = m.http && same_id id m.id

pub http_none : (g : Readings) (id : SessionId) → living_http g id ≡ None → (m : Made) → Has m (living g) → is_this_http id m ≡ false
http_none g id none m h = by m.http (same_id id m.id)
    (ap (λ b. b && m.http) (sym (id_turned m.id id)) ∙ find_fails (λ n. same_id n.id id && n.http) (living g) m none h)
  where
    by : (x y : Bool) → (y && x) ≡ false → (x && y) ≡ false
    by true true e = e
    by true false e = refl
    by false y e = refl

pub http_some : (g : Readings) (told : IsTold g) (id : SessionId) (m : Made) → living_http g id ≡ Some m → Has m (living g) × (m.id ≡ id) × (m.http ≡ true)
http_some g told id m e =
    let there = find_has (λ n. same_id n.id id && n.http) (living g) m e in
    let parts = and_parts (same_id m.id id) m.http there.1 in (there.0, same_id_is m.id id parts.0, parts.1)

-- the named one is the only one of its id
pub http_only : (g : Readings) (told : IsTold g) (id : SessionId) (m : Made) (other : SessionId) → living_http g id ≡ Some m → other ≡ m.id
    → (n : Made) (s : Session) → Has n (living g) → Same g n s → is_this_http id n ≡ same_id s.id other
http_only g told id m other e is n s h same =
    let found = http_some g told id m e in
    same_bool (is_this_http id n) (same_id s.id other)
    (λ f. let parts = and_parts n.http (same_id id n.id) f in id_same s.id other (same.id ∙ sym (same_id_is id n.id parts.1) ∙ sym found.1 ∙ sym is))
    (λ f. let ids : n.id ≡ m.id = sym same.id ∙ same_id_is s.id other f ∙ is in
    let one : n ≡ m = told.ids n m h found.0 ids in
    and_from n.http (same_id id n.id) (ap (λ x. x.http) one ∙ found.2) (id_same id n.id (sym found.1 ∙ sym ids)))

-- entries of events by which nothing is read

still_read : (c : Config) (g : Readings) → ((f : ℕ) → serves g f ≡ false → g.mux f ≡ None) → frees (read_simply g g.clock never never nothing nothing) ≡ g
still_read c g free = ap frees (simply_still g) ∙ freed_same g free
