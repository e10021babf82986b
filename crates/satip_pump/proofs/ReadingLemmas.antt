-- What was read, step by step.
use Rattle.std.proofs.Common.{◌≡◌, ◌≢◌, ℕ, ◌+◌, ◌≤◌, ◌<◌, ◌⊎◌, ◌==◌, Bool, true, false, if◌then◌else◌, List, [], ◌∷◌, ◌++◌, Option, Some, None, option_map, refl, sym, ap, ◌∙◌, subst, append_assoc, append-nil, inl, inr, arith}
use Rattle.satip_base.specs.Streams.{Feed}
use Rattle.std.proofs.lemmas.Bool.Decides.{nat_tests}
use Rattle.satip_ts.specs.Recording.{cut_packets}
use Rattle.satip_world.specs.Counts.{Rises}
use Rattle.satip_world.specs.Recordings.{StoreView}
use Rattle.satip_pump.specs.declared.reading.Reading.{Reading}
use Rattle.satip_plain.specs.Pumping.{Reel, tuned, fresh}
use Rattle.satip_pump.specs.Buffers.{Buffered, CutsOne, CutsNone, nothing_read}
use Rattle.satip_pump.specs.PumpRuns.{RoseBy}
use Rattle.satip_pump.specs.Readings.{AreToldLeft, IsReel, Stands, Goes, ReadsOn, Begins}

-- how counts of faults go on
pub rose_less : (m n a b : ℕ) → RoseBy (m + n) a b → RoseBy m a b
rose_less m n a b r = record { rose = less r.rose; kept = r.kept }
  where
    less : (a + (m + n) ≤ b) ⊎ (18446744073709551615 ≤ b) → (a + m ≤ b) ⊎ (18446744073709551615 ≤ b)
    less (inl x) = inl (omega arith)
    less (inr x) = inr x

pub rose_later : (n a b c : ℕ) → RoseBy n a b → b ≤ c → RoseBy n a c
rose_later n a b c r more = record { rose = later r.rose; kept = omega (arith, r.kept) }
  where
    later : (a + n ≤ b) ⊎ (18446744073709551615 ≤ b) → (a + n ≤ c) ⊎ (18446744073709551615 ≤ c)
    later (inl x) = inl (omega arith)
    later (inr x) = inr (omega arith)

pub rose_one : (n a b c : ℕ) → RoseBy n a b → Rises b c → RoseBy (n + 1) a c
rose_one n a b c r more = record { rose = one r.rose more.rose; kept = omega (arith, r.kept, more.kept) }
  where
    one : (a + n ≤ b) ⊎ (18446744073709551615 ≤ b) → (b < c) ⊎ (18446744073709551615 ≤ c) → (a + (n + 1) ≤ c) ⊎ (18446744073709551615 ≤ c)
    one (inl x) (inl y) = inl (omega arith)
    one (inr x) (inl y) = inr (omega arith)
    one x (inr y) = inr y

pub rose_none : (a : ℕ) → RoseBy 0 a a
rose_none a = record { rose = inl (omega arith); kept = omega arith }

pub rose_same : (m n a b : ℕ) → m ≡ n → RoseBy m a b → RoseBy n a b
rose_same m n a b is r = let P : ℕ → Type 0 = λ k. RoseBy k a b in subst P is r

none_cut : cut_packets [] ≡ []
unfolding cut_packets
none_cut = refl

-- another number names another recording
if_false : {A : Type 0} (b : Bool) (x y : A) → b ≡ false → (if b then x else y) ≡ y
if_false true x y is = absurd (cc is)
if_false false x y is = refl

unlike : (m n : ℕ) → m ≢ n → (m == n) ≡ false
unlike m n differ = grind (arith, nat_tests)

module _ {F : Type 0} (tells : Type 0) (feed : F → Feed) where
  other_reel : (recording : ℕ → Option (List ℕ)) (reel : Option Reel) (old : Reading F) (owed mux tune : ℕ) → IsReel tells feed reel old owed
      → old.tune ≢ Some tune → tuned recording reel mux tune ≡ fresh recording mux tune
  other_reel recording None old owed mux tune is other = refl
  other_reel recording (Some reel) old owed mux tune is other =
      if_false (reel.tune == tune) reel (fresh recording mux tune) (unlike reel.tune tune (λ same. other (is.0 ∙ ap (λ (n : ℕ). Some n) same)))

  -- a recording that was just opened
  whole_left : (told : Option (List ℕ)) (faults faults' : ℕ) (source : Option F) → Begins tells feed told faults faults' source
      → (owed : ℕ) × AreToldLeft tells feed (option_map cut_packets told) [] [] source owed × ((n a : ℕ) → RoseBy n a faults → RoseBy (n + owed) a faults')
  whole_left None faults faults' (Some source) begins =
      (0, tt, λ n a r. rose_same n (n + 0) a faults' (omega arith) (rose_later n a faults faults' r (omega (arith, begins.0))))
  whole_left None faults faults' None begins = (1, tt, λ n a r. rose_one n a faults faults' r begins)
  whole_left (Some text) faults faults' (Some source) begins = (
    0,
    (begins.1.0, ap cut_packets (sym begins.1.1)),
    λ n a r. rose_same n (n + 0) a faults' (omega arith) (rose_later n a faults faults' r (omega (arith, begins.0))),
  )
  whole_left (Some text) faults faults' None begins = (1, (cut_packets text, refl, inr refl, none_cut), λ n a r. rose_one n a faults faults' r begins)

  pub turns_to : (recording : ℕ → Option (List ℕ)) (first early : ℕ) (reel : Option Reel) (old : Reading F) (mux tune a b c : ℕ) (source : Option F)
      → Stands tells feed first a early reel old → old.tune ≢ Some tune → a ≤ b → Begins tells feed (recording mux) b c source
      → Stands tells feed first c early (Some (tuned recording reel mux tune)) (record { tune = Some tune; source = source; buffer = nothing_read })
  turns_to recording first early reel old mux tune a b c source stands other later begins =
      let new : Reading F = record { tune = Some tune; source = source; buffer = nothing_read } in
      let whole = whole_left (recording mux) b c source begins in
      let is : tuned recording reel mux tune ≡ fresh recording mux tune = other_reel recording reel old stands.owed mux tune stands.is_reel other in
      let P : Reel → Type 0 = λ r. Stands tells feed first c early (Some r) new in
      subst P (sym is) record {
        owed = whole.0;
        is_reel = (refl, whole.1);
        few = whole.2 early first (rose_later early first a b (rose_less early stands.owed first a stands.few) later);
      }

  -- a change of the store that keeps what is owed
  changes : (reel : Option Reel) (old new : Reading F) (owed owed' : ℕ) → new.tune ≡ old.tune
      → ((told : Option (List (List ℕ))) → AreToldLeft tells feed told old.buffer.packets old.buffer.rest old.source owed
      → AreToldLeft tells feed told new.buffer.packets new.buffer.rest new.source owed')
      → IsReel tells feed reel old owed → IsReel tells feed reel new owed'
  changes None old new owed owed' tune more is = tune ∙ is
  changes (Some reel) old new owed owed' tune more is = (tune ∙ is.0, more reel.left is.1)

  pub stands_on : (first a b early : ℕ) (reel : Option Reel) (old new : Reading F) → Stands tells feed first a early reel old → new.tune ≡ old.tune → a ≤ b
      → ((owed : ℕ) (told : Option (List (List ℕ))) → AreToldLeft tells feed told old.buffer.packets old.buffer.rest old.source owed
      → AreToldLeft tells feed told new.buffer.packets new.buffer.rest new.source owed)
      → Stands tells feed first b early reel new
  stands_on first a b early reel old new stands tune later more = record {
    owed = stands.owed;
    is_reel = changes reel old new stands.owed stands.owed tune (more stands.owed) stands.is_reel;
    few = rose_later (early + stands.owed) first a b stands.few later;
  }

  -- the source failed, which the store counts
  pub stands_failed : (first a b early : ℕ) (reel : Option Reel) (old new : Reading F) → Stands tells feed first a early reel old
      → new.tune ≡ old.tune → Rises a b
      → ((owed : ℕ) (told : Option (List (List ℕ))) → AreToldLeft tells feed told old.buffer.packets old.buffer.rest old.source owed
      → AreToldLeft tells feed told new.buffer.packets new.buffer.rest new.source 1)
      → Stands tells feed first b early reel new
  stands_failed first a b early reel old new stands tune rises more = record {
    owed = 1;
    is_reel = changes reel old new stands.owed 1 tune (more stands.owed) stands.is_reel;
    few = rose_one early first a b (rose_less early stands.owed first a stands.few) rises;
  }

  -- a piece was taken of the source
  pub left_read : (told : Option (List (List ℕ))) (waiting : List (List ℕ)) (held held' : List ℕ) (source source' : F) (owed : ℕ)
      → (tells → held' ++ (feed source').left ≡ held ++ (feed source).left)
      → AreToldLeft tells feed told waiting held (Some source) owed → AreToldLeft tells feed told waiting held' (Some source') owed
  left_read None waiting held held' source source' owed same is = tt
  left_read (Some packets) waiting held held' source source' owed same is =
      (is.0, is.1 ∙ ap (λ (text : List ℕ). waiting ++ cut_packets text) (sym (same is.0)))

  -- the source came to its end
  pub left_ended : (told : Option (List (List ℕ))) (waiting : List (List ℕ)) (held : List ℕ) (source : F) (owed : ℕ)
      → cut_packets held ≡ [] → (tells → (feed source).left ≡ [])
      → AreToldLeft tells feed told waiting held (Some source) owed → AreToldLeft tells feed told waiting held None owed
  left_ended None waiting held source owed none ended is = tt
  left_ended (Some packets) waiting held source owed none ended is = (
    [],
    is.1 ∙ ap (λ (text : List ℕ). waiting ++ cut_packets text) (ap (λ (text : List ℕ). held ++ text) (ended is.0) ∙ append-nil held)
        ∙ ap (λ (ps : List (List ℕ)). waiting ++ ps) none,
    inl refl,
    none,
  )

  -- the source failed
  pub left_failed : (told : Option (List (List ℕ))) (waiting : List (List ℕ)) (held : List ℕ) (source : F) (owed : ℕ) → cut_packets held ≡ []
      → AreToldLeft tells feed told waiting held (Some source) owed → AreToldLeft tells feed told waiting held None 1
  left_failed None waiting held source owed none is = tt
  left_failed (Some packets) waiting held source owed none is = (cut_packets (held ++ (feed source).left), is.1, inr refl, none)

  -- a packet was cut
  pub left_cut : (told : Option (List (List ℕ))) (waiting : List (List ℕ)) (held held' : List ℕ) (source : Option F) (owed : ℕ) (packet : List ℕ)
      → ((more : List ℕ) → cut_packets (held ++ more) ≡ packet ∷ cut_packets (held' ++ more))
      → AreToldLeft tells feed told waiting held source owed → AreToldLeft tells feed told (waiting ++ packet ∷ []) held' source owed
  left_cut None waiting held held' source owed packet cut is = tt
  left_cut (Some packets) waiting held held' (Some source) owed packet cut is = (
    is.0,
    is.1 ∙ ap (λ (ps : List (List ℕ)). waiting ++ ps) (cut (feed source).left)
        ∙ sym (append_assoc waiting (packet ∷ []) (cut_packets (held' ++ (feed source).left))),
  )
  left_cut (Some packets) waiting held held' None owed packet cut is =
      let some = sym is.3 ∙ ap cut_packets (sym (append-nil held)) ∙ cut [] in
      absurd (cc some)

  -- bytes before a packet were dropped
  pub left_skipped : (told : Option (List (List ℕ))) (waiting : List (List ℕ)) (held held' : List ℕ) (source : Option F) (owed : ℕ)
      → ((more : List ℕ) → cut_packets (held ++ more) ≡ cut_packets (held' ++ more)) → cut_packets held' ≡ []
      → AreToldLeft tells feed told waiting held source owed → AreToldLeft tells feed told waiting held' source owed
  left_skipped None waiting held held' source owed same none is = tt
  left_skipped (Some packets) waiting held held' (Some source) owed same none is =
      (is.0, is.1 ∙ ap (λ (ps : List (List ℕ)). waiting ++ ps) (same (feed source).left))
  left_skipped (Some packets) waiting held held' None owed same none is = (is.0, is.1, is.2, none)

  -- a piece was taken of the source
  pub read_goes : (first a early : ℕ) (reel : Option Reel) (old : Reading F) (source source' : F) (buffer : Buffered)
      → Stands tells feed first a early reel old → old.source ≡ Some source → buffer.packets ≡ old.buffer.packets
      → (tells → buffer.rest ++ (feed source').left ≡ old.buffer.rest ++ (feed source).left)
      → Stands tells feed first a early reel (record old { source = Some source'; buffer = buffer })
  read_goes first a early reel old source source' buffer stands is same read =
      stands_on first a a early reel old (record old { source = Some source'; buffer = buffer }) stands refl (omega arith)
      (λ owed told left_is.
      let P : List (List ℕ) → Type 0 = λ ps. AreToldLeft tells feed told ps buffer.rest (Some source') owed in
      let R : Option F → Type 0 = λ s. AreToldLeft tells feed told old.buffer.packets old.buffer.rest s owed in
      subst P (sym same) (left_read told old.buffer.packets old.buffer.rest buffer.rest source source' owed read (subst R is left_is)))

  -- the source failed, and was handed back
  pub failed_goes : (first a b early : ℕ) (reel : Option Reel) (old new : Reading F) (source : F) (buffer : Buffered)
      → Stands tells feed first a early reel old → old.source ≡ Some source → cut_packets old.buffer.rest ≡ [] → buffer.packets ≡ old.buffer.packets
      → buffer.rest ≡ old.buffer.rest → new ≡ record old { source = None; buffer = buffer } → Rises a b → Stands tells feed first b early reel new
  failed_goes first a b early reel old new source buffer stands is none same held whole rises =
      let P : Reading F → Type 0 = λ r. Stands tells feed first b early reel r in
      subst P (sym whole) (stands_failed first a b early reel old (record old { source = None; buffer = buffer }) stands refl rises
      (λ owed told left_is.
      let O : List (List ℕ) → Type 0 = λ ps. AreToldLeft tells feed told ps buffer.rest None 1 in
      let Q : List ℕ → Type 0 = λ h. AreToldLeft tells feed told old.buffer.packets h None 1 in
      let R : Option F → Type 0 = λ s. AreToldLeft tells feed told old.buffer.packets old.buffer.rest s owed in
      subst O (sym same) (subst Q (sym held) (left_failed told old.buffer.packets old.buffer.rest source owed none (subst R is left_is)))))

  -- the source came to its end, and was handed back
  pub ended_goes : (first a b early : ℕ) (reel : Option Reel) (old new : Reading F) (source : F) (buffer : Buffered)
      → Stands tells feed first a early reel old → old.source ≡ Some source → cut_packets old.buffer.rest ≡ [] → buffer.packets ≡ old.buffer.packets
      → buffer.rest ≡ old.buffer.rest → (tells → (feed source).left ≡ []) → new ≡ record old { source = None; buffer = buffer } → a ≤ b
      → Stands tells feed first b early reel new
  ended_goes first a b early reel old new source buffer stands is none same held ended whole later =
      let P : Reading F → Type 0 = λ r. Stands tells feed first b early reel r in
      subst P (sym whole) (stands_on first a b early reel old (record old { source = None; buffer = buffer }) stands refl later
      (λ owed told left_is.
      let O : List (List ℕ) → Type 0 = λ ps. AreToldLeft tells feed told ps buffer.rest None owed in
      let Q : List ℕ → Type 0 = λ h. AreToldLeft tells feed told old.buffer.packets h None owed in
      let R : Option F → Type 0 = λ s. AreToldLeft tells feed told old.buffer.packets old.buffer.rest s owed in
      subst O (sym same) (subst Q (sym held) (left_ended told old.buffer.packets old.buffer.rest source owed none ended (subst R is left_is)))))

  -- another buffer with the same packets and the same rest
  pub kept_goes : (first a early : ℕ) (reel : Option Reel) (old : Reading F) (buffer : Buffered) → Stands tells feed first a early reel old
      → buffer.packets ≡ old.buffer.packets → buffer.rest ≡ old.buffer.rest → Stands tells feed first a early reel (record old { buffer = buffer })
  kept_goes first a early reel old buffer stands same held =
      stands_on first a a early reel old (record old { buffer = buffer }) stands refl (omega arith)
      (λ owed told left_is.
      let O : List (List ℕ) → Type 0 = λ ps. AreToldLeft tells feed told ps buffer.rest old.source owed in
      let Q : List ℕ → Type 0 = λ h. AreToldLeft tells feed told old.buffer.packets h old.source owed in
      subst O (sym same) (subst Q (sym held) left_is))

  -- a packet was cut, and waits
  pub cut_goes : (first a early : ℕ) (reel : Option Reel) (old : Reading F) (buffer : Buffered) → Stands tells feed first a early reel old
      → CutsOne old.buffer buffer → Stands tells feed first a early reel (record old { buffer = buffer })
  cut_goes first a early reel old buffer stands cut =
      stands_on first a a early reel old (record old { buffer = buffer }) stands refl (omega arith)
      (λ owed told left_is.
      let P : List (List ℕ) → Type 0 = λ ps. AreToldLeft tells feed told ps buffer.rest old.source owed in
      subst P (sym cut.packets) (left_cut told old.buffer.packets old.buffer.rest buffer.rest old.source owed cut.packet cut.first left_is))

  -- none was in the rest
  pub uncut_goes : (first a early : ℕ) (reel : Option Reel) (old : Reading F) (buffer : Buffered) → Stands tells feed first a early reel old
      → CutsNone old.buffer buffer → Stands tells feed first a early reel (record old { buffer = buffer })
  uncut_goes first a early reel old buffer stands cut =
      stands_on first a a early reel old (record old { buffer = buffer }) stands refl (omega arith)
      (λ owed told left_is.
      let P : List (List ℕ) → Type 0 = λ ps. AreToldLeft tells feed told ps buffer.rest old.source owed in
      subst P (sym cut.packets) (left_skipped told old.buffer.packets old.buffer.rest buffer.rest old.source owed cut.same cut.none left_is))

  -- one step of reading on after another
  pub reads_then : (r s t : StoreView) (old mid new : Reading F)
      → ReadsOn tells feed (record { store = r; reading = old }) (record { store = s; reading = mid })
      → ReadsOn tells feed (record { store = s; reading = mid }) (record { store = t; reading = new })
      → ReadsOn tells feed (record { store = r; reading = old }) (record { store = t; reading = new })
  reads_then r s t old mid new one two = record {
    goes = λ first early reel stands. two.goes first early reel (one.goes first early reel stands);
    recordings = two.recordings ∙ one.recordings;
    tune = two.tune ∙ one.tune;
    lent = λ enough.
        let before = one.lent enough in
        let after = two.lent (omega (arith, enough, before)) in
        omega (arith, before, after);
    peak = two.peak ∙ one.peak;
  }

  -- a step that leaves the store alone
  pub buffers : (store : StoreView) (old : Reading F) (buffer : Buffered)
      → Goes tells feed (record { store = store; reading = old }) (record { store = store; reading = record old { buffer = buffer } })
      → ReadsOn tells feed (record { store = store; reading = old }) (record { store = store; reading = record old { buffer = buffer } })
  buffers store old buffer goes = record { goes = goes; recordings = refl; tune = refl; lent = λ enough. refl; peak = refl }
