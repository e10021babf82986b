-- What all jobs did is a run.
use Rattle.std.proofs.Common.{◌≡◌, ℕ, ◌+◌, ◌⊎◌, inl, inr, List, [], ◌∷◌, ◌++◌, map, length, arith, refl, sym, ap, ◌∙◌, subst, append_assoc, length-append}
use Rattle.std.proofs.lemmas.List.{length-map}
use Rattle.satip_base.specs.Lists.{Each, Has, Begins}
use Rattle.satip_base.specs.History.{own_of}
use Rattle.satip_base.proofs.Elements.{Each-append_left, each_follows, each_has}
use Rattle.satip_base.proofs.Owned.{own_of-append}
use Rattle.satip_base.proofs.Prefixes.{begins_trans, begins_length}
use Rattle.satip_plain.specs.declared.setting.Setting.{Setting}
use Rattle.satip_turn.specs.Shown.{Cell, Knows}
use Rattle.satip_turn.specs.Views.{row, numbers_of}
use Rattle.satip_jobs.specs.Pairs.{Both}
use Rattle.satip_jobs.specs.declared.end.ServeEnd.{ServeEnd}
use Rattle.satip_jobs.specs.declared.end.ServeEnd.TheVariants.{Served, DoorsFault, HistoryFull}
use Rattle.satip_jobs.specs.declared.posts.Posts.{Posts}
use Rattle.satip_jobs.specs.declared.seat.Seat.{Seat}
use Rattle.satip_jobs.specs.Crewed.{RunDid}
use Rattle.satip_jobs.specs.Crews.{AreNumbered, AreNew, pass_numbers}
use Rattle.satip_jobs.specs.Ends.{worse, worst}
use Rattle.satip_jobs.specs.Passes.{ItemOf, CallerOf, PassOf, callers_of, IsFull, Stops}
use Rattle.satip_jobs.specs.Runs.{Along, StopsOnce, HasNoStop, Terms, Run}
use Rattle.satip_jobs.specs.Works.{IsSameSeat}
use Rattle.satip_jobs.proofs.Beside.{both_length}

-- the caller of a seat
abbrev caller_at : {X E A K M : Type 0} → (X → PassOf E A) → Seat X K M → CallerOf E A
caller_at pass s = row (pass s.caller).number (pass s.caller).own

-- a full history is the worst end
worse_full : (x : ServeEnd) → worse x HistoryFull ≡ HistoryFull
worse_full Served = refl
worse_full DoorsFault = refl
worse_full HistoryFull = refl

full_first : (x y : ServeEnd) → x ≡ HistoryFull → worse x y ≡ HistoryFull
full_first x y is = ap (λ (e : ServeEnd). worse e y) is

full_second : (x y : ServeEnd) → y ≡ HistoryFull → worse x y ≡ HistoryFull
full_second x y is = ap (λ (e : ServeEnd). worse x e) is ∙ worse_full x

-- where the worst of ends tells, each does
worst_tells : {X K M : Type 0} (end : ServeEnd) (ys : List (Seat X K M)) → (worst (map (λ s. s.end) ys) ≡ HistoryFull → end ≡ HistoryFull)
    → Each (λ s. s.end ≡ HistoryFull → end ≡ HistoryFull) ys
worst_tells end [] tells = tt
worst_tells {X} {K} {M} end (y ∷ ys) tells = (
  λ is. tells (full_first y.end (worst (map (λ (s : Seat X K M). s.end) ys)) is),
  worst_tells end ys (λ is. tells (full_second y.end (worst (map (λ (s : Seat X K M). s.end) ys)) is)),
)

-- what each job did to its fresh kit is what it has done
along_done : {X E A K M V : Type 0} (cell : X → Cell Setting) (pass : X → PassOf E A) (did : Seat X K M → Seat X K M → Type 0) (fresh : Seat X K M → Type 0)
    (full : Type 0)
    (seen : List (ItemOf E A)) (done : ℕ → V → CallerOf E A → Type 0) (view : Seat X K M → V)
    (last : ServeEnd)
    → ((x y : Seat X K M) → did x y → fresh x → (pass x.caller).own ≡ [] → (length (pass y.caller).seen ≡ 18446744073709551615 → full)
    → (y.end ≡ HistoryFull → last ≡ HistoryFull) → done x.number (view y) (caller_at pass y))
    → ((p : PassOf E A) → Begins p.seen seen → length p.seen ≡ 18446744073709551615 → full)
    → (from : ℕ) (k : Cell Setting) (xs ys : List (Seat X K M)) → Both did xs ys → AreNumbered from (map (λ s. s.number) xs) → AreNew cell pass k xs
    → Each fresh xs → Each (λ s. Begins (pass s.caller).seen seen) ys → Each (λ s. s.end ≡ HistoryFull → last ≡ HistoryFull) ys
    → Along done from (map view ys) (callers_of (map (λ s. pass s.caller) ys))
along_done cell pass did fresh full seen done view last finish fills from k [] [] both numbered new kits begins ends = tt
along_done cell pass did fresh full seen done view last finish fills from k [] (y ∷ ys) both numbered new kits begins ends = absurd both
along_done cell pass did fresh full seen done view last finish fills from k (x ∷ xs) [] both numbered new kits begins ends = absurd both
along_done cell pass did fresh full seen done view last finish fills from k (x ∷ xs) (y ∷ ys) both numbered new kits begins ends = (
  subst (λ (i : ℕ). done i (view y) (caller_at pass y)) numbered.0
      (finish x y both.0 kits.0 new.0.1.own (λ is. fills (pass y.caller) begins.0 is) ends.0),
  along_done cell pass did fresh full seen done view last finish fills (from + 1) k xs ys both.1 numbered.1 new.1 kits.1 begins.1 ends.1,
)

-- a job's caller has the same number after it
same_numbers : {X E A K M : Type 0} (cell : X → Cell Setting) (pass : X → PassOf E A) (did : Seat X K M → Seat X K M → Type 0)
    → ((x y : Seat X K M) → did x y → IsSameSeat cell pass x y) → (xs ys : List (Seat X K M)) → Both did xs ys
    → pass_numbers pass xs ≡ numbers_of (callers_of (map (λ s. pass s.caller) ys))
same_numbers cell pass did same [] [] both = refl
same_numbers cell pass did same [] (y ∷ ys) both = absurd both
same_numbers cell pass did same (x ∷ xs) [] both = absurd both
same_numbers cell pass did same (x ∷ xs) (y ∷ ys) both =
    let still = same x y both.0 in
    ap (λ (m : ℕ). m ∷ pass_numbers pass xs) (sym still.keeps.number)
    ∙ ap (λ (ms : List ℕ). (pass y.caller).number ∷ ms) (same_numbers cell pass did same xs ys both.1)

numbers_of-append : {E A : Type 0} (xs ys : List (CallerOf E A)) → numbers_of (xs ++ ys) ≡ numbers_of xs ++ numbers_of ys
numbers_of-append [] ys = refl
numbers_of-append (x ∷ xs) ys = ap (λ (ns : List ℕ). x.number ∷ ns) (numbers_of-append xs ys)

-- a list of no length, and what follows where nothing is added
no_items : {T : Type 0} (xs : List T) → length xs ≡ 0 → xs ≡ []
no_items [] is = refl
no_items (x ∷ xs) is = absurd (omega (arith, is))

adds_nothing : {T : Type 0} (xs ys : List T) → xs ≡ xs ++ ys → ys ≡ []
adds_nothing xs ys is = no_items ys (omega (arith, ap length is, length-append xs ys))

last_nothing : {T : Type 0} (xs ys : List T) → [] ≡ xs ++ ys → ys ≡ []
last_nothing xs ys is = no_items ys (omega (arith, ap length is, length-append xs ys))

-- a caller that had made all its entries before made none behind
none_behind : {E A : Type 0} (n : ℕ) (before between after : List (ItemOf E A)) (stop : ItemOf E A)
    → own_of n (before ++ (between ++ stop ∷ after)) ≡ own_of n before → own_of n after ≡ []
none_behind n before between after stop all =
    let rest : own_of n (between ++ stop ∷ after) ≡ [] =
    adds_nothing (own_of n before) (own_of n (between ++ stop ∷ after)) (sym all ∙ own_of-append n before (between ++ stop ∷ after)) in
    let behind : own_of n (stop ∷ after) ≡ [] =
    last_nothing (own_of n between) (own_of n (stop ∷ after)) (sym rest ∙ own_of-append n between (stop ∷ after)) in
    last_nothing (own_of n (stop ∷ [])) (own_of n after) (sym behind ∙ own_of-append n (stop ∷ []) after)

-- of callers whose entries are the same in both
each_behind : {E A : Type 0} (before between after h : List (ItemOf E A)) (stop : ItemOf E A) (callers : List (CallerOf E A))
    → h ≡ before ++ (between ++ stop ∷ after)
    → Each (λ r. own_of r.number before ≡ r.own) callers → Each (λ r. own_of r.number h ≡ r.own) callers → Each (λ r. own_of r.number after ≡ []) callers
each_behind before between after h stop [] are first last = tt
each_behind before between after h stop (r ∷ rs) are first last = (
  none_behind r.number before between after stop (ap (own_of r.number) (sym are) ∙ last.0 ∙ sym first.0),
  each_behind before between after h stop rs are first.1 last.1,
)

pub stop_begins : {E A : Type 0} (is_stop : ItemOf E A → Type 0) (end : ServeEnd) (p q : PassOf E A) → Stops is_stop end p q → Begins p.seen q.seen
stop_begins is_stop Served p q stops =
    record { rest = stops.between ++ stops.stop ∷ []; whole = stops.seen ∙ append_assoc p.seen stops.between (stops.stop ∷ []) }
stop_begins is_stop DoorsFault p q stops = absurd stops
stop_begins is_stop HistoryFull p q stops = stops.begins

-- the stop stands once in what was seen at the end, and no worker's entry behind it; or the history is full without one
stop_stands : {E A : Type 0} (is_stop stops_so : ItemOf E A → Type 0) (full : Type 0) (end : ServeEnd) (p q : PassOf E A) (h : List (ItemOf E A))
    (callers : List (CallerOf E A)) → Stops is_stop end p q → ((e : ItemOf E A) → is_stop e → stops_so e) → Begins q.seen h → p.own ≡ [] → own_of 0 h ≡ q.own
    → (end ≡ HistoryFull → IsFull q.seen → full)
    → Each (λ r. own_of r.number p.seen ≡ r.own) callers → Each (λ r. own_of r.number h ≡ r.own) callers → StopsOnce stops_so h callers ⊎ HasNoStop full h
stop_stands {E} {A} is_stop stops_so full Served p q h callers stops so begins none own cut first last =
    let front = p.seen ++ stops.between in
    let are : h ≡ front ++ stops.stop ∷ begins.rest =
    begins.whole ∙ ap (λ (s : List (ItemOf E A)). s ++ begins.rest) stops.seen ∙ append_assoc front (stops.stop ∷ []) begins.rest in
    inl (record {
      before = front;
      stop = stops.stop;
      after = begins.rest;
      are = are;
      is_stop = so stops.stop stops.is_stop;
      own = own ∙ stops.own ∙ ap (λ (es : List (ItemOf E A)). es ++ stops.stop ∷ []) none;
      last = each_behind p.seen stops.between begins.rest h stops.stop callers (are ∙ append_assoc p.seen stops.between (stops.stop ∷ begins.rest)) first last;
    })
stop_stands is_stop stops_so full DoorsFault p q h callers stops so begins none own cut first last = absurd stops
stop_stands is_stop stops_so full HistoryFull p q h callers stops so begins none own cut first last =
    inr (record { full_is = cut refl stops.full; own = own ∙ stops.own ∙ none })

each_own : (ns : List ℕ) → Each (λ n. Has n ns) ns
each_own ns = each_has (λ (n : ℕ). Has n ns) ns (λ n has. has)

-- as many as there were
ended_count : {X K M V : Type 0} (did : Seat X K M → Seat X K M → Type 0) (view : Seat X K M → V) (kits : List K) (xs ys : List (Seat X K M)) → Both did xs ys
    → map (λ s. s.kit) xs ≡ kits → length (map view ys) ≡ length kits
ended_count {X} {K} {M} did view kits xs ys both are =
    length-map ys view ∙ both_length did xs ys both ∙ sym (length-map xs (λ (s : Seat X K M). s.kit)) ∙ ap (λ (ks : List K). length ks) are

module _ {X E A G : Type 0} (cell : X → Cell Setting) (pass : X → PassOf E A) (gear : X → G) (legal : Setting → List (ItemOf E A) → Type 0)
    (is_stop : ItemOf E A → Type 0) (goes_on : X → X → Type 0) {W L P M T N : Type 0} (worked : Seat X W L → Seat X W L → Type 0)
    (pumped : Seat X P M → Seat X P M → Type 0) (ticked : Seat X T N → Seat X T N → Type 0) (o : X) (before : Posts W P T G) (n : X) (after : Posts W P T G)
    (end : ServeEnd) (run : RunDid cell pass gear legal is_stop goes_on worked pumped ticked o before n after end) where
  -- what was seen at the stop, and before it, is a beginning of what was seen at the end
  pub from_stop : Begins (pass run.stopped).seen (pass n).seen
  from_stop = begins_trans (pass run.stopped).seen (pass run.joined).seen (pass n).seen run.second_joins.mine run.third_joins.mine

  pub from_joined : Begins (pass run.front.joined).seen (pass n).seen
  from_joined = begins_trans (pass run.front.joined).seen (pass run.stopped).seen (pass n).seen
      (stop_begins is_stop run.front.stop (pass run.front.joined) (pass run.stopped) run.front.stops) from_stop

  -- so is what each job saw
  pub workers_begin : Each (λ s. Begins (pass s.caller).seen (pass n).seen) run.front.ended
  workers_begin = each_follows (λ (s : Seat X W L). Begins (pass s.caller).seen (pass run.front.joined).seen)
      (λ (s : Seat X W L). Begins (pass s.caller).seen (pass n).seen)
      (λ (s : Seat X W L) begins. begins_trans (pass s.caller).seen (pass run.front.joined).seen (pass n).seen begins from_joined) run.front.ended
      run.front.joins.theirs

  pub pumps_begin : Each (λ s. Begins (pass s.caller).seen (pass n).seen) run.second_ended
  pumps_begin = each_follows (λ (s : Seat X P M). Begins (pass s.caller).seen (pass run.joined).seen)
      (λ (s : Seat X P M). Begins (pass s.caller).seen (pass n).seen)
      (λ (s : Seat X P M) begins. begins_trans (pass s.caller).seen (pass run.joined).seen (pass n).seen begins run.third_joins.mine) run.second_ended
      run.second_joins.theirs

  pub ticker_begins : Begins (pass run.third_ended.caller).seen (pass n).seen
  ticker_begins = run.third_joins.theirs.0

  -- where a job saw a full history, it is full at the end
  pub fills : Knows (legal (cell o).setting) (pass n) → (s : PassOf E A) → Begins s.seen (pass n).seen → length s.seen ≡ 18446744073709551615
      → IsFull (pass n).seen
  fills knows s begins is = omega (arith, begins_length s.seen (pass n).seen begins, is, knows.short)

  -- where a job or the stop found the history full, the run ended so
  of_front : run.worst_front ≡ HistoryFull → end ≡ HistoryFull
  of_front is =
      let of_pumps : ServeEnd = worst (map (λ (s : Seat X P M). s.end) run.second_ended) in
      run.end_is ∙ full_first (worse run.worst_front of_pumps) run.third_ended.end (full_first run.worst_front of_pumps is)

  workers_tell : Each (λ s. s.end ≡ HistoryFull → end ≡ HistoryFull) run.front.ended
  workers_tell =
      let of_workers : ServeEnd = worst (map (λ (s : Seat X W L). s.end) run.front.ended) in
      worst_tells end run.front.ended (λ is. of_front (run.front.end_is ∙ full_first of_workers run.front.stop is))

  stop_tells : run.front.stop ≡ HistoryFull → end ≡ HistoryFull
  stop_tells is = of_front (run.front.end_is ∙ full_second (worst (map (λ (s : Seat X W L). s.end) run.front.ended)) run.front.stop is)

  pumps_tell : Each (λ s. s.end ≡ HistoryFull → end ≡ HistoryFull) run.second_ended
  pumps_tell =
      let of_pumps : ServeEnd = worst (map (λ (s : Seat X P M). s.end) run.second_ended) in
      worst_tells end run.second_ended (λ is. run.end_is ∙ full_first (worse run.worst_front of_pumps) run.third_ended.end (full_second run.worst_front of_pumps is))

  ticker_tells : run.third_ended.end ≡ HistoryFull → end ≡ HistoryFull
  ticker_tells is = run.end_is ∙ full_second (worse run.worst_front (worst (map (λ (s : Seat X P M). s.end) run.second_ended))) run.third_ended.end is

  -- the callers of jobs, in their order
  abbrev of_workers : List (CallerOf E A)
  of_workers = callers_of (map (λ (s : Seat X W L). pass s.caller) run.front.ended)

  abbrev of_pumps : List (CallerOf E A)
  of_pumps = callers_of (map (λ (s : Seat X P M). pass s.caller) run.second_ended)

  abbrev of_ticker : CallerOf E A
  of_ticker = caller_at pass run.third_ended

  first_kept : (pass o).kept ≡ [] → (pass run.front.joined).kept ≡ of_workers
  first_kept none = run.front.joins.kept ∙ ap (λ (rs : List (CallerOf E A)). rs ++ of_workers) (run.kept ∙ none)

  all_kept : (pass o).kept ≡ [] → (pass n).kept ≡ (of_workers ++ of_pumps) ++ of_ticker ∷ []
  all_kept none =
      run.third_joins.kept
      ∙ ap (λ (rs : List (CallerOf E A)). rs ++ of_ticker ∷ [])
      (run.second_joins.kept ∙ ap (λ (rs : List (CallerOf E A)). rs ++ of_pumps) (run.front.keeps.kept ∙ first_kept none))

  -- the passes that were split off are those that were joined
  pub made_is : ((x y : Seat X W L) → worked x y → IsSameSeat cell pass x y) → ((x y : Seat X P M) → pumped x y → IsSameSeat cell pass x y)
      → ((x y : Seat X T N) → ticked x y → IsSameSeat cell pass x y) → (pass o).kept ≡ [] → (pass o).made ≡ [] → (pass n).made ≡ numbers_of (pass n).kept
  made_is same_worker same_pump same_ticker none no_made =
      let firsts : List ℕ = pass_numbers pass run.first in
      let seconds : List ℕ = pass_numbers pass run.second in
      let third : ℕ = (pass run.third.caller).number in
      let third_still = same_ticker run.third run.third_ended run.third_done in
      let all_made : (pass n).made ≡ (firsts ++ seconds) ++ third ∷ [] =
      run.third_joins.made ∙ run.second_joins.made ∙ run.front.keeps.made ∙ run.front.joins.made ∙ run.made
      ∙ ap (λ (ns : List ℕ). ((ns ++ firsts) ++ seconds) ++ third ∷ []) no_made in
      let numbers : numbers_of (pass n).kept ≡ (numbers_of of_workers ++ numbers_of of_pumps) ++ of_ticker.number ∷ [] =
      ap (λ (rs : List (CallerOf E A)). numbers_of rs) (all_kept none) ∙ numbers_of-append (of_workers ++ of_pumps) (of_ticker ∷ [])
      ∙ ap (λ (ns : List ℕ). ns ++ of_ticker.number ∷ []) (numbers_of-append of_workers of_pumps) in
      let same : (firsts ++ seconds) ++ third ∷ [] ≡ (numbers_of of_workers ++ numbers_of of_pumps) ++ of_ticker.number ∷ [] =
      ap (λ (ns : List ℕ). (ns ++ seconds) ++ third ∷ []) (same_numbers cell pass worked same_worker run.first run.front.ended run.front.done)
      ∙ ap (λ (ns : List ℕ). (numbers_of of_workers ++ ns) ++ third ∷ []) (same_numbers cell pass pumped same_pump run.second run.second_ended run.second_done)
      ∙ ap (λ (n : ℕ). (numbers_of of_workers ++ numbers_of of_pumps) ++ n ∷ []) (sym third_still.keeps.number) in
      all_made ∙ same ∙ sym numbers

  pub number_is : (pass n).number ≡ (pass o).number
  number_is = run.third_joins.number ∙ run.second_joins.number ∙ run.front.keeps.number ∙ run.front.joins.number ∙ run.number

  -- each entry is of caller 0 or of one that was joined
  pub all_covered : ((x y : Seat X W L) → worked x y → IsSameSeat cell pass x y) → ((x y : Seat X P M) → pumped x y → IsSameSeat cell pass x y)
      → ((x y : Seat X T N) → ticked x y → IsSameSeat cell pass x y)
      → (pass o).number ≡ 0 → (pass o).kept ≡ [] → (pass o).made ≡ [] → Knows (legal (cell o).setting) (pass n)
      → Each (λ e. Has e.caller (0 ∷ numbers_of (pass n).kept)) (pass n).seen
  all_covered same_worker same_pump same_ticker number kept made knows =
      knows.covered (number_is ∙ number)
      (subst (λ (ns : List ℕ). Each (λ (i : ℕ). Has i (numbers_of (pass n).kept)) ns) (sym (made_is same_worker same_pump same_ticker kept made))
      (each_own (numbers_of (pass n).kept)))

  -- all jobs that caller 0 split off, ran and joined again made a run by these terms. What each kind of job has done follows from what it
  -- did to its fresh kit, where it had no entry before, and the run ended with a full history where the job did
  pub run_by : {W' P' T' : Type 0} (worker_of : Seat X W L → W') (pump_of : Seat X P M → P') (ticker_of : Seat X T N → T')
      (fresh_worker : Seat X W L → Type 0)
      (fresh_pump : Seat X P M → Type 0) (fresh_ticker : Seat X T N → Type 0) (terms : Terms E A W' P' T')
      → ((c : Setting) (h : List (ItemOf E A)) → legal c h → terms.legal c h) → ((e : ItemOf E A) → is_stop e → terms.is_stop e)
      → (end ≡ HistoryFull → IsFull (pass n).seen → terms.full)
      → ((x y : Seat X W L) → worked x y → fresh_worker x → (pass x.caller).own ≡ []
      → (length (pass y.caller).seen ≡ 18446744073709551615 → IsFull (pass n).seen) → (y.end ≡ HistoryFull → end ≡ HistoryFull)
      → terms.worked x.number (worker_of y) (row (pass y.caller).number (pass y.caller).own))
      → ((x y : Seat X P M) → pumped x y → fresh_pump x → (pass x.caller).own ≡ [] → (length (pass y.caller).seen ≡ 18446744073709551615 → IsFull (pass n).seen)
      → (y.end ≡ HistoryFull → end ≡ HistoryFull) → terms.pumped x.number (pump_of y) (row (pass y.caller).number (pass y.caller).own))
      → ((x y : Seat X T N) → ticked x y → fresh_ticker x → (pass x.caller).own ≡ []
      → (length (pass y.caller).seen ≡ 18446744073709551615 → IsFull (pass n).seen) → (y.end ≡ HistoryFull → end ≡ HistoryFull)
      → terms.ticked (ticker_of y) (row (pass y.caller).number (pass y.caller).own))
      → ((x y : Seat X W L) → worked x y → IsSameSeat cell pass x y) → ((x y : Seat X P M) → pumped x y → IsSameSeat cell pass x y)
      → ((x y : Seat X T N) → ticked x y → IsSameSeat cell pass x y)
      → (pass o).number ≡ 0 → (pass o).own ≡ [] → (pass o).kept ≡ [] → (pass o).made ≡ [] → Knows (legal (cell o).setting) (pass n)
      → Each fresh_worker run.first → Each fresh_pump run.second → fresh_ticker run.third
      → length before.workers.items ≡ (cell o).setting.config.workers → length before.pumps.items ≡ length (cell o).setting.config.fronts
      → Run (cell o).setting terms (pass n)
      (record { workers = map worker_of run.front.ended; pumps = map pump_of run.second_ended; ticker = ticker_of run.third_ended })
  run_by worker_of pump_of ticker_of fresh_worker fresh_pump fresh_ticker terms lawful stops cut worker_done pump_done ticker_done same_worker same_pump
      same_ticker number own kept made knows workers_fresh pumps_fresh ticker_fresh worker_count pump_count =
      let full : Type 0 = IsFull (pass n).seen in
      let own_is : own_of 0 (pass n).seen ≡ (pass run.stopped).own =
      subst (λ (i : ℕ). own_of i (pass n).seen ≡ (pass n).own) (number_is ∙ number) knows.own_is ∙ run.third_joins.own ∙ run.second_joins.own in
      let first_own : Each (λ (r : CallerOf E A). own_of r.number (pass run.front.joined).seen ≡ r.own) of_workers =
      subst (λ (rs : List (CallerOf E A)). Each (λ (r : CallerOf E A). own_of r.number (pass run.front.joined).seen ≡ r.own) rs) (first_kept kept)
      run.front.knew.kept_are in
      let entries : Each (λ (r : CallerOf E A). own_of r.number (pass n).seen ≡ r.own) ((of_workers ++ of_pumps) ++ of_ticker ∷ []) =
      subst (λ (rs : List (CallerOf E A)). Each (λ (r : CallerOf E A). own_of r.number (pass n).seen ≡ r.own) rs) (all_kept kept) knows.kept_are in
      let last_own : Each (λ (r : CallerOf E A). own_of r.number (pass n).seen ≡ r.own) of_workers =
      Each-append_left (λ (r : CallerOf E A). own_of r.number (pass n).seen ≡ r.own) of_workers of_pumps
      (Each-append_left (λ (r : CallerOf E A). own_of r.number (pass n).seen ≡ r.own) (of_workers ++ of_pumps) (of_ticker ∷ []) entries) in
      record {
        of_workers = of_workers;
        of_pumps = of_pumps;
        of_ticker = of_ticker;
        callers = all_kept kept;
        worker_count = ended_count worked worker_of before.workers.items run.first run.front.ended run.front.done run.first_begun.kits_are ∙ worker_count;
        pump_count = ended_count pumped pump_of before.pumps.items run.second run.second_ended run.second_done run.second_begun.kits_are ∙ pump_count;
        entries = knows.kept_are;
        lawful = lawful (cell o).setting (pass n).seen knows.lawful;
        worked = along_done cell pass worked fresh_worker full (pass n).seen terms.worked worker_of end worker_done (fills knows) 1 (cell o) run.first
            run.front.ended run.front.done
            run.first_begun.numbered run.first_begun.new workers_fresh workers_begin workers_tell;
        pumped = along_done cell pass pumped fresh_pump full (pass n).seen terms.pumped pump_of end pump_done (fills knows) 1 (cell o) run.second
            run.second_ended run.second_done
            run.second_begun.numbered run.second_begun.new pumps_fresh pumps_begin pumps_tell;
        ticked = ticker_done run.third run.third_ended run.third_done ticker_fresh run.third_begun.new.0.1.own
            (fills knows (pass run.third_ended.caller) ticker_begins) ticker_tells;
        stopped = stop_stands is_stop terms.is_stop terms.full run.front.stop (pass run.front.joined) (pass run.stopped) (pass n).seen of_workers run.front.stops
            stops from_stop (run.front.joins.own ∙ run.own ∙ own) own_is (λ is whole. cut (stop_tells is) (fills knows (pass run.stopped) from_stop whole))
            first_own last_own;
        covered = all_covered same_worker same_pump same_ticker number kept made knows;
      }
