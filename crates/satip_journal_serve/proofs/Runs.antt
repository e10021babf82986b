-- What the sinks of a run were sent.
use Rattle.std.proofs.Common.{◌≡◌, ◌∙◌, ℕ, ◌+◌, ◌≤◌, ◌^◌, List, [], ◌∷◌, ◌++◌, map, length, refl, sym, ap, subst, arith, append_assoc, false}
use Rattle.std.proofs.lemmas.List.{length-map, map-append}
use Rattle.satip_base.specs.Streams.{Drain}
use Rattle.satip_base.specs.History.{own_of}
use Rattle.satip_base.specs.Lists.{Begins, Each, Has}
use Rattle.satip_base.proofs.Elements.{Each-append, each_follows}
use Rattle.satip_plain.specs.declared.answers.Answer.{Answer}
use Rattle.satip_plain.specs.declared.events.Event.{Event}
use Rattle.satip_plain.specs.declared.setting.Setting.{Setting}
use Rattle.satip_plain.specs.Histories.{Item}
use Rattle.satip_entry_writer.specs.Lines.{start_line}
use Rattle.satip_turn.specs.Faithful.{AreApart}
use Rattle.satip_turn.specs.Shown.{Cell, Knows}
use Rattle.satip_turn.specs.Views.{numbers_of, row}
use Rattle.satip_jobs.specs.Pairs.{Both}
use Rattle.satip_jobs.specs.declared.end.ServeEnd.{ServeEnd}
use Rattle.satip_jobs.specs.declared.posts.Posts.{Posts}
use Rattle.satip_jobs.specs.declared.seat.Seat.{Seat}
use Rattle.satip_jobs.specs.Crewed.{RunDid}
use Rattle.satip_jobs.specs.Passes.{CallerOf, callers_of}
use Rattle.satip_jobs.specs.Works.{IsSameSeat}
use Rattle.satip_jobs.proofs.Beside.{both_length}
use Rattle.satip_jobs.proofs.WholeRuns.{all_covered, from_stop, pumps_begin, ticker_begins, workers_begin}
use Rattle.satip_shared.specs.Calling.{ServerPass}
use Rattle.satip_serve.specs.Services.{IsFirst}
use Rattle.satip_journal.specs.declared.crew.JournalGear.{JournalGear}
use Rattle.satip_journal.specs.Continuing.{logs_then, sink_state}
use Rattle.satip_journal_serve.specs.Journals.{AreCallersOf, journal_of, journals_from}
use Rattle.satip_journal.specs.Keeping.{SameJournal}
use Rattle.satip_journal.specs.Logs.{Logs}
use Rattle.satip_journal.specs.Owning.{KnowsOwn}
use Rattle.satip_entry_writer.specs.Entries.{IsTyped}
use Rattle.satip_journal_serve.specs.SinkGears.{AreOpen, AreLogged, WentOn, jobs_of}
use Rattle.satip_journal_serve.proofs.Jobs.{all_typed, jobs_logged, jobs_same, jobs_typed, kept_of}
use Rattle.satip_journal_serve.proofs.OwnAtLast.{at_last}

-- ---- callers at their seats

abbrev callers_at : {X K M : Type 0} → List (Seat X K M) → List X
callers_at {X} {K} {M} seats = map (λ (s : Seat X K M). s.caller) seats

map_at : {X K M T : Type 0} (f : X → T) (seats : List (Seat X K M)) → map f (callers_at seats) ≡ map (λ s. f s.caller) seats
map_at f [] = refl
map_at {X} {K} {M} {T} f (s ∷ seats) = ap (λ (ts : List T). f s.caller ∷ ts) (map_at f seats)

each_at_seats : {X K M : Type 0} (P : X → Type 0) (seats : List (Seat X K M)) → Each (λ s. P s.caller) seats → Each P (callers_at seats)
each_at_seats P [] each = tt
each_at_seats P (s ∷ seats) each = (each.0, each_at_seats P seats each.1)

both_at : {X K M : Type 0} (Q : X → X → Type 0) (did : Seat X K M → Seat X K M → Type 0) → ((s t : Seat X K M) → did s t → Q s.caller t.caller)
    → (ss ts : List (Seat X K M)) → Both did ss ts → Both Q (callers_at ss) (callers_at ts)
both_at Q did says [] [] both = tt
both_at Q did says [] (t ∷ ts) both = absurd both
both_at Q did says (s ∷ ss) [] both = absurd both
both_at Q did says (s ∷ ss) (t ∷ ts) both = (says s t both.0, both_at Q did says ss ts both.1)

both_append : {S T : Type 0} (P : S → T → Type 0) (us vs : List S) (xs ys : List T) → Both P us xs → Both P vs ys → Both P (us ++ vs) (xs ++ ys)
both_append P [] vs [] ys p q = q
both_append P [] vs (x ∷ xs) ys p q = absurd p
both_append P (u ∷ us) vs [] ys p q = absurd p
both_append P (u ∷ us) vs (x ∷ xs) ys p q = (p.0, both_append P us vs xs ys p.1 q)

each_of : {S T : Type 0} (P : T → Type 0) (f : S → T) (xs : List S) → Each P (map f xs) → Each (λ x. P (f x)) xs
each_of P f [] each = tt
each_of P f (x ∷ xs) each = (each.0, each_of P f xs each.1)

module _ {X K W L P M T N : Type 0} {cell : X → Cell Setting} {pass : X → ServerPass} {gear : X → JournalGear K} {legal : Setting → List Item → Type 0}
    {is_stop : Item → Type 0} {goes_on : X → X → Type 0} {worked : Seat X W L → Seat X W L → Type 0} {pumped : Seat X P M → Seat X P M → Type 0}
    {ticked : Seat X T N → Seat X T N → Type 0} {o : X} {before : Posts W P T (JournalGear K)} {n : X} {after : Posts W P T (JournalGear K)} {end : ServeEnd}
    (run : RunDid cell pass gear legal is_stop goes_on worked pumped ticked o before n after end) (tells : Type 0) (job : K → ℕ) (drain : K → Drain)
    (own : (x : X) → KnowsOwn (pass x)) where
  abbrev Same : X → X → Type 0
  Same x y = SameJournal tells (kept_of job drain cell pass gear x) (kept_of job drain cell pass gear y)

  -- the same journal at its seat
  abbrev Still : {KK MM : Type 0} → Seat X KK MM → Seat X KK MM → Type 0
  Still s t = Same s.caller t.caller × (t.number ≡ s.number)

  seat_is : {KK MM : Type 0} (s t : Seat X KK MM) → Still s t → IsSameSeat cell pass s t
  seat_is s t still = record { cell_is = still.0.caller.server; keeps = still.0.caller.pass; number = still.1 }

  -- callers before their jobs and after
  module _ (went_on : (x y : X) → goes_on x y → Same x y) (works : (s t : Seat X W L) → worked s t → Still s t)
      (pumps : (s t : Seat X P M) → pumped s t → Still s t) (ticks : (s t : Seat X T N) → ticked s t → Still s t)
      (knows : Knows (legal (cell o).setting) (pass n)) (first : IsFirst (pass o)) where
    abbrev h : List Item
    h = (pass n).seen

    abbrev began : List X
    began = callers_at run.first ++ (callers_at run.second ++ run.third.caller ∷ [])

    abbrev ended : List X
    ended = callers_at run.front.ended ++ (callers_at run.second_ended ++ run.third_ended.caller ∷ [])

    abbrev given : List (JournalGear K)
    given = before.worker_gears.items ++ (before.pump_gears.items ++ before.ticker_gear ∷ [])

    abbrev came_back : List (JournalGear K)
    came_back = after.worker_gears.items ++ (after.pump_gears.items ++ after.ticker_gear ∷ [])

    same_jobs : Both Same began ended
    same_jobs =
        both_append Same (callers_at run.first) (callers_at run.second ++ run.third.caller ∷ []) (callers_at run.front.ended)
        (callers_at run.second_ended ++ run.third_ended.caller ∷ [])
        (both_at Same worked (λ s t did. (works s t did).0) run.first run.front.ended run.front.done)
        (both_append Same (callers_at run.second) (run.third.caller ∷ []) (callers_at run.second_ended) (run.third_ended.caller ∷ [])
        (both_at Same pumped (λ s t did. (pumps s t did).0) run.second run.second_ended run.second_done)
        ((ticks run.third run.third_ended run.third_done).0, tt))

    -- what f gives of three lists of callers
    parts : {V : Type 0} (f : X → V) (xs ys zs : List X) (us vs ws : List V) → map f xs ≡ us → map f ys ≡ vs → map f zs ≡ ws
        → map f (xs ++ (ys ++ zs)) ≡ us ++ (vs ++ ws)
    parts f xs ys zs us vs ws a b c =
        map-append f xs (ys ++ zs) ∙ (λ i. a i ++ map-append f ys zs i) ∙ (λ i. us ++ (b i ++ c i))

    given_is : map gear began ≡ given
    given_is =
        parts gear (callers_at run.first) (callers_at run.second) (run.third.caller ∷ []) before.worker_gears.items before.pump_gears.items
        (before.ticker_gear ∷ []) (map_at gear run.first ∙ run.first_begun.gears_are) (map_at gear run.second ∙ run.second_begun.gears_are)
        run.third_begun.gears_are

    back_is : map gear ended ≡ came_back
    back_is =
        parts gear (callers_at run.front.ended) (callers_at run.second_ended) (run.third_ended.caller ∷ []) after.worker_gears.items
        after.pump_gears.items (after.ticker_gear ∷ []) (map_at gear run.front.ended ∙ sym run.front.gears_are)
        (map_at gear run.second_ended ∙ sym run.pump_gears_are) (ap (λ (g : JournalGear K). g ∷ []) (sym run.ticker_gear_is))

    new_jobs : Each (λ x. (pass x).own ≡ []) began
    new_jobs =
        Each-append (λ (x : X). (pass x).own ≡ []) (callers_at run.first) (callers_at run.second ++ run.third.caller ∷ [])
        (each_at_seats (λ (x : X). (pass x).own ≡ []) run.first
        (each_follows _ (λ (s : Seat X W L). (pass s.caller).own ≡ []) (λ s new. new.1.own) run.first run.first_begun.new))
        (Each-append (λ (x : X). (pass x).own ≡ []) (callers_at run.second) (run.third.caller ∷ [])
        (each_at_seats (λ (x : X). (pass x).own ≡ []) run.second
        (each_follows _ (λ (s : Seat X P M). (pass s.caller).own ≡ []) (λ s new. new.1.own) run.second run.second_begun.new))
        (run.third_begun.new.0.1.own, tt))

    all_begin : Each (λ y. Begins (pass y).seen h) ended
    all_begin =
        Each-append (λ (y : X). Begins (pass y).seen h) (callers_at run.front.ended) (callers_at run.second_ended ++ run.third_ended.caller ∷ [])
        (each_at_seats (λ (y : X). Begins (pass y).seen h) run.front.ended
        (workers_begin cell pass gear legal is_stop goes_on worked pumped ticked o before n after end run))
        (Each-append (λ (y : X). Begins (pass y).seen h) (callers_at run.second_ended) (run.third_ended.caller ∷ [])
        (each_at_seats (λ (y : X). Begins (pass y).seen h) run.second_ended
        (pumps_begin cell pass gear legal is_stop goes_on worked pumped ticked o before n after end run))
        (ticker_begins cell pass gear legal is_stop goes_on worked pumped ticked o before n after end run, tt))

    abbrev caller_of : X → CallerOf Event Answer
    caller_of y = row (pass y).number (pass y).own

    rows_at : {KK MM : Type 0} (seats : List (Seat X KK MM)) → callers_of (map (λ s. pass s.caller) seats) ≡ map caller_of (callers_at seats)
    rows_at [] = refl
    rows_at {KK} {MM} (s ∷ seats) = ap (λ (rs : List (CallerOf Event Answer)). caller_of s.caller ∷ rs) (rows_at seats)

    kept_is : (pass n).kept ≡ map caller_of ended
    kept_is =
        let of_workers = callers_of (map (λ (s : Seat X W L). pass s.caller) run.front.ended) in
        let of_pumps = callers_of (map (λ (s : Seat X P M). pass s.caller) run.second_ended) in
        let of_ticker = caller_of run.third_ended.caller in
        run.third_joins.kept
        ∙ ap (λ (rs : List (CallerOf Event Answer)). rs ++ of_ticker ∷ [])
        (run.second_joins.kept ∙ ap (λ (rs : List (CallerOf Event Answer)). rs ++ of_pumps)
        (run.front.keeps.kept ∙ run.front.joins.kept ∙ ap (λ (rs : List (CallerOf Event Answer)). rs ++ of_workers) (run.kept ∙ first.kept)))
        ∙ append_assoc of_workers of_pumps (of_ticker ∷ [])
        ∙ sym (parts caller_of (callers_at run.front.ended) (callers_at run.second_ended) (run.third_ended.caller ∷ []) of_workers of_pumps
        (of_ticker ∷ []) (sym (rows_at run.front.ended)) (sym (rows_at run.second_ended)) refl)

    numbers_are : (ys : List X) → numbers_of (map caller_of ys) ≡ map (λ y. (pass y).number) ys
    numbers_are [] = refl
    numbers_are (y ∷ ys) = ap (λ (ms : List ℕ). (pass y).number ∷ ms) (numbers_are ys)

    numbers : map (λ y. (pass y).number) ended ≡ numbers_of (pass n).kept
    numbers = sym (numbers_are ended) ∙ ap (λ (rs : List (CallerOf Event Answer)). numbers_of rs) (sym kept_is)

    all_own : Each (λ y. own_of (pass y).number h ≡ (pass y).own) ended
    all_own =
        let Own : CallerOf Event Answer → Type 0 = λ r. own_of r.number h ≡ r.own in
        each_of Own caller_of ended (subst (λ (rs : List (CallerOf Event Answer)). Each Own rs) kept_is knows.kept_are)

    -- ---- caller 0, which makes the stop
    zero_is : (pass n).number ≡ 0
    zero_is = run.third_joins.number ∙ run.second_joins.number ∙ run.front.keeps.number ∙ run.front.joins.number ∙ run.number ∙ first.number

    stopped_is : (pass run.stopped).number ≡ 0
    stopped_is = run.front.keeps.number ∙ run.front.joins.number ∙ run.number ∙ first.number

    stopped_own : own_of (pass run.stopped).number h ≡ (pass run.stopped).own
    stopped_own =
        let same : (pass n).number ≡ (pass run.stopped).number = run.third_joins.number ∙ run.second_joins.number in
        subst (λ (i : ℕ). own_of i h ≡ (pass n).own) same knows.own_is ∙ run.third_joins.own ∙ run.second_joins.own

    root : Logs tells (drain (gear o).sink) (drain (gear n).sink) (gear o).failed (gear n).failed (journal_of (gear o).number 0 h)
        × Each IsTyped (own_of 0 h)
    root =
        let went = went_on run.front.joined run.stopped run.front.went_on in
        let one = at_last tells (kept_of job drain cell pass gear run.front.joined) (kept_of job drain cell pass gear run.stopped) h went
        (own run.front.joined) (own run.stopped) (run.front.joins.own ∙ run.own ∙ first.own)
        (from_stop cell pass gear legal is_stop goes_on worked pumped ticked o before n after end run) stopped_own in
        let from : gear run.front.joined ≡ gear o = run.front.joined_gear ∙ run.begun_gear in
        let Q : JournalGear K → JournalGear K → ℕ → Type 0 =
        λ x y i. Logs tells (drain x.sink) (drain y.sink) x.failed y.failed (journal_of x.number i h) × Each IsTyped (own_of i h) in
        let first_gear : Q (gear o) (gear run.stopped) (pass run.stopped).number =
        subst (λ (x : JournalGear K). Q x (gear run.stopped) (pass run.stopped).number) from one in
        let last_gear : Q (gear o) (gear n) (pass run.stopped).number =
        subst (λ (y : JournalGear K). Q (gear o) y (pass run.stopped).number) (sym run.gear_is) first_gear in
        subst (λ (i : ℕ). Q (gear o) (gear n) i) stopped_is last_gear

    -- ---- all together
    covered : Each (λ e. Has e.caller (0 ∷ numbers_of (pass n).kept)) h
    covered =
        all_covered cell pass gear legal is_stop goes_on worked pumped ticked o before n after end run (λ s t did. seat_is s t (works s t did))
        (λ s t did. seat_is s t (pumps s t did)) (λ s t did. seat_is s t (ticks s t did)) first.number first.kept first.made knows

    pub worker_gears : length after.worker_gears.items ≡ length before.worker_gears.items
    worker_gears =
        ap (λ (gs : List (JournalGear K)). length gs) run.front.gears_are ∙ length-map run.front.ended (λ (s : Seat X W L). gear s.caller)
        ∙ both_length worked run.first run.front.ended run.front.done ∙ sym (length-map run.first (λ (s : Seat X W L). gear s.caller))
        ∙ ap (λ (gs : List (JournalGear K)). length gs) run.first_begun.gears_are

    pub pump_gears : length after.pump_gears.items ≡ length before.pump_gears.items
    pump_gears =
        ap (λ (gs : List (JournalGear K)). length gs) run.pump_gears_are ∙ length-map run.second_ended (λ (s : Seat X P M). gear s.caller)
        ∙ both_length pumped run.second run.second_ended run.second_done ∙ sym (length-map run.second (λ (s : Seat X P M). gear s.caller))
        ∙ ap (λ (gs : List (JournalGear K)). length gs) run.second_begun.gears_are

    pub all_are_typed : Each IsTyped h
    all_are_typed =
        let jobs = jobs_typed tells job drain cell pass gear own h began ended same_jobs new_jobs all_begin all_own in
        all_typed (0 ∷ numbers_of (pass n).kept) h
        (root.1, subst (λ (ms : List ℕ). Each (λ (m : ℕ). Each IsTyped (own_of m h)) ms) numbers jobs) covered

    jobs_at : (xs : List X) → map (λ x. job (gear x).sink) xs ≡ jobs_of job (map gear xs)
    jobs_at [] = refl
    jobs_at (x ∷ xs) = ap (λ (js : List ℕ). job (gear x).sink ∷ js) (jobs_at xs)

    root_job : job (gear n).sink ≡ job (gear o).sink
    root_job =
        let went = went_on run.front.joined run.stopped run.front.went_on in
        let from : gear run.front.joined ≡ gear o = run.front.joined_gear ∙ run.begun_gear in
        ap (λ (g : JournalGear K). job g.sink) run.gear_is ∙ went.job ∙ ap (λ (g : JournalGear K). job g.sink) from

    -- the sinks come back in the order of their jobs
    pub jobs_kept : jobs_of job (gear n ∷ came_back) ≡ jobs_of job (gear o ∷ given)
    jobs_kept =
        let others : jobs_of job came_back ≡ jobs_of job given =
        ap (λ (gs : List (JournalGear K)). jobs_of job gs) (sym back_is) ∙ sym (jobs_at ended)
        ∙ jobs_same tells job drain cell pass gear own h began ended same_jobs ∙ jobs_at began
        ∙ ap (λ (gs : List (JournalGear K)). jobs_of job gs) given_is in
        λ i. root_job i ∷ others i

    pub callers_are : 1 + length given ≤ 2 ^ 64 → AreCallersOf (0 ∷ numbers_of (pass n).kept) h
    callers_are few =
        let as_many = both_length Same began ended same_jobs in
        let a = length-map began gear in
        let b : length (map gear began) ≡ length given = ap (λ (gs : List (JournalGear K)). length gs) given_is in
        let c = length-map ended (λ (y : X). (pass y).number) in
        let d : length (map (λ (y : X). (pass y).number) ended) ≡ length (numbers_of (pass n).kept) = ap (λ (ms : List ℕ). length ms) numbers in
        record {
          apart = subst (λ (i : ℕ). AreApart (i ∷ numbers_of (pass n).kept)) zero_is knows.apart;
          all = covered;
          few = omega (arith, few, as_many, a, b, c, d);
          short = knows.short;
        }

    pub all_logged : WentOn tells drain (gear o) given (gear n) came_back (numbers_of (pass n).kept) h
    all_logged start bare unfailed number begun =
        let jobs = jobs_logged tells job drain cell pass gear own h 1 began ended same_jobs
        (subst (λ (gs : List (JournalGear K)). AreOpen 1 gs) (sym given_is) unfailed) new_jobs all_begin all_own in
        let drains_are : map (λ x. drain (gear x).sink) began ≡ map (λ (g : JournalGear K). drain g.sink) given =
        map_map began ∙ ap (λ (gs : List (JournalGear K)). map (λ (g : JournalGear K). drain g.sink) gs) given_is in
        let Q : List Drain → List (JournalGear K) → List ℕ → Type 0 = λ os gs ms. AreLogged tells drain os gs (journals_from 1 ms h) in
        let one : Q (map (λ (g : JournalGear K). drain g.sink) given) (map gear ended) (map (λ y. (pass y).number) ended) =
        subst (λ (os : List Drain). Q os (map gear ended) (map (λ y. (pass y).number) ended)) drains_are jobs in
        let two : Q (map (λ (g : JournalGear K). drain g.sink) given) came_back (map (λ y. (pass y).number) ended) =
        subst (λ (gs : List (JournalGear K)). Q (map (λ (g : JournalGear K). drain g.sink) given) gs (map (λ y. (pass y).number) ended)) back_is one in
        let three = subst (λ (ms : List ℕ). Q (map (λ (g : JournalGear K). drain g.sink) given) came_back ms) numbers two in
        let mine = subst (λ (i : ℕ). Logs tells (drain (gear o).sink) (drain (gear n).sink) (gear o).failed (gear n).failed (journal_of i 0 h))
        number root.0 in
        let both = logs_then tells (sink_state bare false) (sink_state (drain (gear o).sink) (gear o).failed)
        (sink_state (drain (gear n).sink) (gear n).failed) (start_line start) (journal_of 0 0 h) begun mine in
        (both, three)
      where
        map_map : (xs : List X) → map (λ x. drain (gear x).sink) xs ≡ map (λ (g : JournalGear K). drain g.sink) (map gear xs)
        map_map [] = refl
        map_map (x ∷ xs) = ap (λ (os : List Drain). drain (gear x).sink ∷ os) (map_map xs)
