-- Why a run ended so.
use Rattle.std.proofs.Common.{◌≡◌, ◌⊎◌, inl, inr, List, [], ◌∷◌, map, length, sym, subst, ⊎_elim}
use Rattle.satip_base.specs.Lists.{Each, Begins}
use Rattle.satip_plain.specs.declared.setting.Setting.{Setting}
use Rattle.satip_turn.specs.Shown.{Cell, Knows}
use Rattle.satip_jobs.specs.Pairs.{Both}
use Rattle.satip_jobs.specs.declared.end.ServeEnd.{ServeEnd}
use Rattle.satip_jobs.specs.declared.end.ServeEnd.TheVariants.{Served, DoorsFault, HistoryFull}
use Rattle.satip_jobs.specs.declared.posts.Posts.{Posts}
use Rattle.satip_jobs.specs.declared.seat.Seat.{Seat}
use Rattle.satip_jobs.specs.Crewed.{RunDid}
use Rattle.satip_jobs.specs.Ends.{worse, worst}
use Rattle.satip_jobs.specs.Passes.{ItemOf, PassOf, IsFull, Stops}
use Rattle.satip_jobs.specs.Runs.{HasOne, MatchEnd}
use Rattle.satip_jobs.proofs.WholeRuns.{fills, from_stop, pumps_begin, ticker_begins, workers_begin}

-- of two ends
both_ends : (x y : ServeEnd) (all all' some some' full : Type 0) → MatchEnd x all some full → MatchEnd y all' some' full
    → MatchEnd (worse x y) (all × all') (some ⊎ some') full
both_ends Served Served all all' some some' full a b = (a, b)
both_ends Served DoorsFault all all' some some' full a b = inr b
both_ends Served HistoryFull all all' some some' full a b = b
both_ends DoorsFault Served all all' some some' full a b = inl a
both_ends DoorsFault DoorsFault all all' some some' full a b = inl a
both_ends DoorsFault HistoryFull all all' some some' full a b = b
both_ends HistoryFull y all all' some some' full a b = a

pub end_follows : (x : ServeEnd) (all all' some some' full : Type 0) → (all → all') → (some → some') → MatchEnd x all some full → MatchEnd x all' some' full
end_follows Served all all' some some' full f g a = f a
end_follows DoorsFault all all' some some' full f g a = g a
end_follows HistoryFull all all' some some' full f g a = a

-- an end that is no fault of doors
none_fails : (x y : ServeEnd) (all some full : Type 0) → MatchEnd x all some full → MatchEnd y (Unit {0}) ⊥ full → MatchEnd (worse x y) all some full
none_fails x y all some full a b =
    end_follows (worse x y) (all × Unit {0}) all (some ⊎ ⊥) some full (λ p. p.0) (λ s. ⊎_elim (λ (t : some). t) (λ (no : ⊥). absurd no) s)
    (both_ends x y all (Unit {0}) some ⊥ full a b)

stop_tells : {E A : Type 0} (is_stop : ItemOf E A → Type 0) (full : Type 0) (end : ServeEnd) (p q : PassOf E A) → Stops is_stop end p q → (IsFull q.seen → full)
    → MatchEnd end (Unit {0}) ⊥ full
stop_tells is_stop full Served p q stops fills = tt
stop_tells is_stop full DoorsFault p q stops fills = absurd stops
stop_tells is_stop full HistoryFull p q stops fills = fills stops.full

workers_tell : {X E A K M V : Type 0} (pass : X → PassOf E A) (did : Seat X K M → Seat X K M → Type 0) (fresh : Seat X K M → Type 0) (full : Type 0)
    (seen : List (ItemOf E A))
    (view : Seat X K M → V) (all some : V → Type 0)
    → ((x y : Seat X K M) → did x y → fresh x → (length (pass y.caller).seen ≡ 18446744073709551615 → full)
    → MatchEnd y.end (all (view y)) (some (view y)) full)
    → ((p : PassOf E A) → Begins p.seen seen → length p.seen ≡ 18446744073709551615 → full) → (xs ys : List (Seat X K M)) → Both did xs ys
    → Each fresh xs → Each (λ s. Begins (pass s.caller).seen seen) ys
    → MatchEnd (worst (map (λ s. s.end) ys)) (Each all (map view ys)) (HasOne some (map view ys)) full
workers_tell pass did fresh full seen view all some tells fills [] [] both kits begins = tt
workers_tell pass did fresh full seen view all some tells fills [] (y ∷ ys) both kits begins = absurd both
workers_tell pass did fresh full seen view all some tells fills (x ∷ xs) [] both kits begins = absurd both
workers_tell {X} {E} {A} {K} {M} {V} pass did fresh full seen view all some tells fills (x ∷ xs) (y ∷ ys) both kits begins =
    both_ends y.end (worst (map (λ (s : Seat X K M). s.end) ys)) (all (view y)) (Each all (map view ys)) (some (view y)) (HasOne some (map view ys)) full
    (tells x y both.0 kits.0 (λ is. fills (pass y.caller) begins.0 is))
    (workers_tell pass did fresh full seen view all some tells fills xs ys both.1 kits.1 begins.1)

pumps_tell : {X E A K M : Type 0} (pass : X → PassOf E A) (did : Seat X K M → Seat X K M → Type 0) (full : Type 0) (seen : List (ItemOf E A))
    → ((x y : Seat X K M) → did x y → (length (pass y.caller).seen ≡ 18446744073709551615 → full) → MatchEnd y.end (Unit {0}) ⊥ full)
    → ((p : PassOf E A) → Begins p.seen seen → length p.seen ≡ 18446744073709551615 → full) → (xs ys : List (Seat X K M)) → Both did xs ys
    → Each (λ s. Begins (pass s.caller).seen seen) ys → MatchEnd (worst (map (λ s. s.end) ys)) (Unit {0}) ⊥ full
pumps_tell pass did full seen tells fills [] [] both begins = tt
pumps_tell pass did full seen tells fills [] (y ∷ ys) both begins = absurd both
pumps_tell pass did full seen tells fills (x ∷ xs) [] both begins = absurd both
pumps_tell {X} {E} {A} {K} {M} pass did full seen tells fills (x ∷ xs) (y ∷ ys) both begins =
    none_fails y.end (worst (map (λ (s : Seat X K M). s.end) ys)) (Unit {0}) ⊥ full (tells x y both.0 (λ is. fills (pass y.caller) begins.0 is))
    (pumps_tell pass did full seen tells fills xs ys both.1 begins.1)

module _ {X E A G : Type 0} (cell : X → Cell Setting) (pass : X → PassOf E A) (gear : X → G) (legal : Setting → List (ItemOf E A) → Type 0)
    (is_stop : ItemOf E A → Type 0) (goes_on : X → X → Type 0) {W L P M T N : Type 0} (worked : Seat X W L → Seat X W L → Type 0)
    (pumped : Seat X P M → Seat X P M → Type 0) (ticked : Seat X T N → Seat X T N → Type 0) (o : X) (before : Posts W P T G) (n : X) (after : Posts W P T G)
    (end : ServeEnd) (run : RunDid cell pass gear legal is_stop goes_on worked pumped ticked o before n after end) where
  -- of all workers, or of one, holds what its end tells of it; or the history is full
  pub end_over : {V : Type 0} (worker_of : Seat X W L → V) (all some : V → Type 0) (fresh : Seat X W L → Type 0)
      → ((x y : Seat X W L) → worked x y → fresh x → (length (pass y.caller).seen ≡ 18446744073709551615 → IsFull (pass n).seen)
      → MatchEnd y.end (all (worker_of y)) (some (worker_of y)) (IsFull (pass n).seen))
      → ((x y : Seat X P M) → pumped x y → (length (pass y.caller).seen ≡ 18446744073709551615 → IsFull (pass n).seen)
      → MatchEnd y.end (Unit {0}) ⊥ (IsFull (pass n).seen))
      → ((x y : Seat X T N) → ticked x y → (length (pass y.caller).seen ≡ 18446744073709551615 → IsFull (pass n).seen)
      → MatchEnd y.end (Unit {0}) ⊥ (IsFull (pass n).seen))
      → Knows (legal (cell o).setting) (pass n) → Each fresh run.first
      → MatchEnd end (Each all (map worker_of run.front.ended)) (HasOne some (map worker_of run.front.ended)) (IsFull (pass n).seen)
  end_over worker_of all some fresh worker_tells pump_tells ticker_tells knows workers_fresh =
      let front = run.front in
      let full : Type 0 = IsFull (pass n).seen in
      let filled : (p : PassOf E A) → Begins p.seen (pass n).seen → length p.seen ≡ 18446744073709551615 → full =
      fills cell pass gear legal is_stop goes_on worked pumped ticked o before n after end run knows in
      let of_workers : ServeEnd = worst (map (λ (s : Seat X W L). s.end) front.ended) in
      let of_pumps : ServeEnd = worst (map (λ (s : Seat X P M). s.end) run.second_ended) in
      let good : Type 0 = Each all (map worker_of front.ended) in
      let bad : Type 0 = HasOne some (map worker_of front.ended) in
      let at_workers = workers_tell pass worked fresh full (pass n).seen worker_of all some worker_tells filled run.first front.ended front.done workers_fresh
      (workers_begin cell pass gear legal is_stop goes_on worked pumped ticked o before n after end run) in
      let at_stop = none_fails of_workers front.stop good bad full at_workers
      (stop_tells is_stop full front.stop (pass front.joined) (pass run.stopped) front.stops
      (filled (pass run.stopped) (from_stop cell pass gear legal is_stop goes_on worked pumped ticked o before n after end run))) in
      let at_front : MatchEnd run.worst_front good bad full = subst (λ (e : ServeEnd). MatchEnd e good bad full) (sym front.end_is) at_stop in
      let at_pumps = none_fails run.worst_front of_pumps good bad full at_front
      (pumps_tell pass pumped full (pass n).seen pump_tells filled run.second run.second_ended run.second_done
      (pumps_begin cell pass gear legal is_stop goes_on worked pumped ticked o before n after end run)) in
      let at_all = none_fails (worse run.worst_front of_pumps) run.third_ended.end good bad full at_pumps
      (ticker_tells run.third run.third_ended run.third_done
      (filled (pass run.third_ended.caller) (ticker_begins cell pass gear legal is_stop goes_on worked pumped ticked o before n after end run))) in
      subst (λ (e : ServeEnd). MatchEnd e good bad full) (sym run.end_is) at_all
