-- A pull of an HTTP session's queue.
use Rattle.std.proofs.Common.{arith, ◌≡◌, ℕ, zero, suc, ◌+◌, ◌<◌, ◌≤◌, ◌&&◌, Bool, true, false, cond, List, [], ◌∷◌, ◌++◌, map, length, sum, take, drop, Option, Some, None, refl, ap, sym, subst, ◌∙◌, append-nil, length-append}
use Rattle.std.specs.List.{concat}
use Rattle.std.specs.Option.{option_map_or}
use Rattle.std.proofs.lemmas.Bool.{and_parts, false_from_ne_true}
use Rattle.std.proofs.lemmas.List.{take_at, take_min, length-take}
use Rattle.std.proofs.lemmas.List.Sums.{sum_by-append}
use Rattle.std.proofs.Math.Seq.{take-add, drop-append_seam}
use Rattle.satip_plain.proofs.SameIds.{same_id_is}
use Rattle.satip_base.specs.Lists.{Has, Each}
use Rattle.satip_base.specs.Output.{Output}
use Rattle.satip_plain.specs.Types.{SessionId, Config}
use Rattle.satip_plain.specs.declared.answers.Answer.{Answer}
use Rattle.satip_plain.specs.declared.answers.Answer.TheVariants.{Pulled}
use Rattle.satip_plain.specs.declared.answers.Pulled.TheVariants.{Bytes, Empty, Gone as PulledGone}
use Rattle.satip_plain.specs.declared.events.Event.TheVariants.{Pull}
use Rattle.satip_plain.specs.State.{Session, State, same_id, http_session, held}
use Rattle.satip_plain.specs.Sending.{settle}
use Rattle.satip_plain.specs.Steps.{outcome, on_pull, pull_some, most_pulled, is_session, hear}
use Rattle.satip_plain.specs.Histories.{Item, Fits}
use Rattle.satip_plain.specs.Readings.{Made, Readings, living, living_session, living_http, any_where, is_accepted, frees, ends, keeps_alive, is_selected, pulled_by, packets_of, read_one}
use Rattle.satip_laws.proofs.SameTests.{none_true, id_other, either_false}
use Rattle.satip_laws.proofs.Finding.{either_way}
use Rattle.satip_laws.proofs.Agree.{Same, Agrees, Matched, alike_map, living_found}
use Rattle.satip_laws.proofs.Quiet.{same_again, heard_read, agrees_heard}
use Rattle.satip_laws.proofs.Sweeping.{freed_same}
use Rattle.satip_laws.proofs.Reading.{item, read_simply, read_other, simply_same, simply_hears, simply_still, never, nothing}
use Rattle.satip_laws.proofs.Moments.{is_this_http, http_match, http_none, http_some, http_only}

-- packets that are written one after another are read back

packets_step : (n : ℕ) (bytes : List ℕ) → 1 ≤ length bytes → packets_of (suc n) bytes ≡ take 188 bytes ∷ packets_of n (drop 188 bytes)
packets_step n [] some = absurd (omega (arith, some))
packets_step n (b ∷ bs) some = refl

packets_end : (n : ℕ) → packets_of n [] ≡ []
packets_end zero = refl
packets_end (suc n) = refl

drop_first : (p rest : List ℕ) (n : ℕ) → length p ≡ n → drop n (p ++ rest) ≡ rest
drop_first p rest n e = subst (λ k. drop k (p ++ rest) ≡ rest) e (drop-append_seam p rest)

pub packets_back : (ps : List (List ℕ)) (n : ℕ) → Each (λ p. length p ≡ 188) ps → length (concat ps) ≤ n → packets_of n (concat ps) ≡ ps
packets_back [] n whole few = packets_end n
packets_back (p ∷ ps) zero whole few = let long = length-append p (concat ps) in let w = whole.0 in absurd (omega (arith, few, long, w))
packets_back (p ∷ ps) (suc n) whole few =
    let long = length-append p (concat ps) in
    let w = whole.0 in
    packets_step n (p ++ concat ps) (omega (arith, long, w))
    ∙ ap (λ x. x ∷ packets_of n (drop 188 (p ++ concat ps))) (take_at p (concat ps) 188 w)
    ∙ ap (λ x. p ∷ packets_of n x) (drop_first p (concat ps) 188 w)
    ∙ ap (λ xs. p ∷ xs) (packets_back ps n whole.1 (omega (arith, few, long, w)))

each_take : (P : List ℕ → Type 0) (n : ℕ) (ps : List (List ℕ)) → Each P ps → Each P (take n ps)
each_take P zero ps e = tt
each_take P (suc n) [] e = tt
each_take P (suc n) (p ∷ ps) e = (e.0, each_take P n ps e.1)

each_drop : (P : List ℕ → Type 0) (n : ℕ) (ps : List (List ℕ)) → Each P ps → Each P (drop n ps)
each_drop P zero ps e = e
each_drop P (suc n) [] e = tt
each_drop P (suc n) (p ∷ ps) e = each_drop P n ps e.1

take_taken : (n : ℕ) (xs : List (List ℕ)) → take (length (take n xs)) xs ≡ take n xs
take_taken n xs = ap (λ k. take k xs) (length-take n xs) ∙ take_min n xs

-- sessions that were pulled
abbrev pub pulled_read : (Made → Bool) → (SessionId → List (List ℕ)) → Readings → Readings
pulled_read h more g = record (heard_read h g) { pulled = λ s. g.pulled s ++ more s }

pub agrees_pulled : (c : Config) (st : State) (g : Readings) (h : Made → Bool) (f : Session → Bool) (more : SessionId → List (List ℕ)) (k : ℕ)
    → ((m : Made) (s : Session) → Has m (living g) → Same g m s → h m ≡ f s)
    → ((s : SessionId) → length g.made < s.count → more s ≡ [])
    → ((m : Made) → Has m (living g) → h m ≡ false → more m.id ≡ [])
    → ((m : Made) (s : Session) → Has m (living g) → Same g m s → h m ≡ true
    → (s.http ≡ true) × (length (more m.id) ≡ k) × (take (length (g.pulled m.id) + k) s.picked ≡ g.pulled m.id ++ more m.id))
    → Agrees c st g → Agrees c (record st { sessions = map (λ s. cond (f s) (record s { heard = st.clock; sizes = s.sizes ++ k ∷ [] }) s) st.sessions })
    (pulled_read h more g)
agrees_pulled c st g h f more k same unmade others taken a = record {
  loosely = record {
    clock = a.loosely.clock;
    made = a.loosely.made;
    sessions = alike_map g (pulled_read h more g) (λ s. cond (f s) (record s { heard = st.clock; sizes = s.sizes ++ k ∷ [] }) s) (living g) st.sessions
        (λ m s i j e. told_of m s i e) a.loosely.sessions;
    living_streams = a.loosely.living_streams;
    tunes = a.loosely.tunes;
    muxes = a.loosely.muxes;
    told = let told = a.loosely.told in record {
      ids = told.ids;
      numbers = told.numbers;
      few = told.few;
      homes = told.homes;
      unmade = λ s above. let u = told.unmade s above in
          record {
            over = u.over;
            played = u.played;
            tuned = u.tuned;
            pids = u.pids;
            front = u.front;
            selected = u.selected;
            pulled = rw (u.pulled, unmade s above) refl;
          };
      packets = told.packets;
    };
    kept = record {
      apart = a.loosely.kept.apart;
      once = a.loosely.kept.once;
      positive = a.loosely.kept.positive;
      few = a.loosely.kept.few;
      rows = a.loosely.kept.rows;
      placed = a.loosely.kept.placed;
    };
  };
  streams = a.streams;
  free = a.free;
}
  where
    by : (m : Made) (s : Session) (b : Bool) → Has m (living g) → Same g m s → h m ≡ b
        → Same (pulled_read h more g) m (cond b (record s { heard = st.clock; sizes = s.sizes ++ k ∷ [] }) s)
    by m s true i e f =
        let t = taken m s i e f in
        let here : any_where h (living_session g m.id) ≡ true = ap (any_where h) (living_found g a.loosely.told m i) ∙ f in
        let q = e.queue t.0 in
        let long : length (g.pulled m.id ++ more m.id) ≡ length (g.pulled m.id) + k =
        length-append (g.pulled m.id) (more m.id) ∙ ap (λ n. length (g.pulled m.id) + n) t.1 in
        let all : sum (s.sizes ++ k ∷ []) ≡ sum s.sizes + k = sum_by-append (λ (x : ℕ). x) s.sizes (k ∷ []) ∙ (omega arith) in
        record {
          id = e.id;
          http = e.http;
          stream = e.stream;
          playing = e.playing;
          heard = rw here a.loosely.clock;
          ssrc = e.ssrc;
          first = e.first;
          picked = e.picked;
          queue = λ j. record {
            sizes = all ∙ ap (λ n. n + k) q.sizes ∙ sym long;
            begins = ap (λ n. take n s.picked) long ∙ t.2;
          };
        }
    by m s false i e f =
        let here : any_where h (living_session g m.id) ≡ false = ap (any_where h) (living_found g a.loosely.told m i) ∙ f in
        same_again g (pulled_read h more g) m s e refl refl (rw here refl) refl (rw (others m i f) (append-nil (g.pulled m.id)))

    told_of : (m : Made) (s : Session) → Has m (living g) → Same g m s
        → Same (pulled_read h more g) m (cond (f s) (record s { heard = st.clock; sizes = s.sizes ++ k ∷ [] }) s)
    told_of m s i e = rw (← same m s i e) (by m s (h m) i e refl)

module _ (c : Config) (st : State) (g : Readings) (a : Agrees c st g) (caller : ℕ) (answer : Answer) (out : Output) (id : SessionId) where
  abbrev e : Item
  e = item caller (Pull id) answer out

  unselected : (s : SessionId) → cond {A = List (List ℕ)} (any_where (is_selected g (Pull id)) (living_session g s)) [] [] ≡ []
  unselected s = sym (either_way [] (any_where (is_selected g (Pull id)) (living_session g s)))

  pull_read : (h : Made → Bool) (more : SessionId → List (List ℕ)) → ((m : Made) → Has m (living g) → is_this_http id m ≡ h m)
      → ((s : SessionId) → pulled_by e s ≡ more s)
      → read_one c g e ≡ frees (read_simply g g.clock never h nothing more)
  pull_read h more hears same =
      read_other c g e (sym (either_way None (is_accepted answer))) (sym (either_way None (is_accepted answer))) (λ s. either_false (is_accepted answer))
      ∙ ap frees (simply_same g g.clock (ends c g e) (keeps_alive (Pull id)) never h
      (λ s. cond {A = List (List ℕ)} (any_where (is_selected g (Pull id)) (living_session g s)) [] []) (pulled_by e) nothing more (λ m i. refl) hears
      unselected same)

  gone : living_http g id ≡ None → answer ≡ Pulled PulledGone → read_one c g e ≡ g
  gone none is = pull_read never nothing (λ m h. http_none g id none m h) pulled ∙ ap frees (simply_still g) ∙ freed_same g a.free
    where
      pulled : (s : SessionId) → pulled_by e s ≡ []
      pulled s = rw is refl

  -- nothing is queued
  empty : (m : Made) (s : Session) → living_http g id ≡ Some m → Same g m s → answer ≡ Pulled Empty → Agrees c (hear s.id st) (read_one c g e)
  empty m s f same is =
      subst (Agrees c (hear s.id st))
      (sym (pull_read (is_this_http id) nothing (λ n h. refl) pulled ∙ ap frees (simply_hears g (is_this_http id) nothing ∙ nothing_pulled)
      ∙ freed_same (heard_read (is_this_http id) g) a.free))
      (agrees_heard c st g (is_this_http id) (is_session s.id) (λ n t h k. http_only g a.loosely.told id m s.id f same.id n t h k) a)
    where
      pulled : (s : SessionId) → pulled_by e s ≡ []
      pulled s = rw is refl

      nothing_pulled : record g {
        heard = λ s. cond (any_where (is_this_http id) (living_session g s)) g.clock (g.heard s);
        pulled = λ s. g.pulled s ++ nothing s;
      } ≡ heard_read (is_this_http id) g
      nothing_pulled = λ i. record (heard_read (is_this_http id) g) { pulled = λ s. append-nil (g.pulled s) i }

  -- packets are pulled
  some : (m : Made) (s : Session) (p : List ℕ) (ps : List (List ℕ)) (n : ℕ) → living_http g id ≡ Some m → Same g m s → held s ≡ p ∷ ps
      → answer ≡ Pulled (Bytes n) → out.reply ≡ concat (take most_pulled (p ∷ ps)) → Agrees c (pull_some st s (p ∷ ps)).state (read_one c g e)
  some m s p ps n f same queue is reply =
      subst (Agrees c (pull_some st s (p ∷ ps)).state)
      (sym (pull_read (is_this_http id) more (λ x h. refl) pulled ∙ ap frees (simply_hears g (is_this_http id) more)
      ∙ freed_same (pulled_read (is_this_http id) more g) a.free))
      (agrees_pulled c st g (is_this_http id) (is_session s.id) more (length packets) (λ x t h k. http_only g a.loosely.told id m s.id f same.id x t h k)
      unmade others taken a)
    where
      packets : List (List ℕ)
      packets = take most_pulled (p ∷ ps)

      more : SessionId → List (List ℕ)
      more = λ x. cond (same_id id x) packets []

      found : Has m (living g) × (m.id ≡ id) × (m.http ≡ true)
      found = http_some g a.loosely.told id m f

      whole : Each (λ x. length x ≡ 188) packets
      whole = each_take (λ x. length x ≡ 188) most_pulled (p ∷ ps) (subst (Each (λ x. length x ≡ 188)) queue
          (each_drop (λ x. length x ≡ 188) (sum s.sizes) s.picked (subst (Each (λ x. length x ≡ 188)) (sym same.picked) (a.loosely.told.packets m.id))))

      pulled : (x : SessionId) → pulled_by e x ≡ more x
      pulled x = rw is (ap (λ bytes. cond (same_id id x) (packets_of (length bytes) bytes) []) reply
          ∙ ap (λ xs. cond (same_id id x) xs []) (packets_back packets (length (concat packets)) whole (omega arith)))

      unmade : (x : SessionId) → length g.made < x.count → more x ≡ []
      unmade x above = let few = a.loosely.told.few m found.0 in
          rw (id_other id x (λ i. let same : m.id.count ≡ x.count = ap (λ y. y.count) (found.1 ∙ i) in omega arith)) refl

      others : (x : Made) → Has x (living g) → is_this_http id x ≡ false → more x.id ≡ []
      others x h i = rw (false_from_ne_true (same_id id x.id) (λ j.
          let one : x ≡ m = a.loosely.told.ids x m h found.0 (sym (same_id_is id x.id j) ∙ sym found.1) in
          none_true (x.http && same_id id x.id) (rw (ap (λ y. y.http) one ∙ found.2, j) refl) i)) refl

      taken : (x : Made) (t : Session) → Has x (living g) → Same g x t → is_this_http id x ≡ true
          → (t.http ≡ true) × (length (more x.id) ≡ length packets) × (take (length (g.pulled x.id) + length packets) t.picked ≡ g.pulled x.id ++ more x.id)
      taken x t h k i =
          let parts = and_parts x.http (same_id id x.id) i in
          let one : x ≡ m = a.loosely.told.ids x m h found.0 (sym (same_id_is id x.id parts.1) ∙ sym found.1) in
          let http : t.http ≡ true = k.http ∙ parts.0 in
          let q = same.queue (same.http ∙ found.2) in
          let mine = k.queue http in
          let is_more : more x.id ≡ packets = rw parts.1 refl in
          let picked : t.picked ≡ s.picked = k.picked ∙ ap (λ y. g.selected y.id) one ∙ sym same.picked in
          let sizes : length (g.pulled x.id) ≡ sum s.sizes = ap (λ y. length (g.pulled y.id)) one ∙ sym q.sizes in
          let kept : drop (length (g.pulled x.id)) t.picked ≡ p ∷ ps = ap (drop (length (g.pulled x.id))) picked ∙ ap (λ y. drop y s.picked) sizes ∙ queue in (
            http,
            ap length is_more,
            take-add (length (g.pulled x.id)) (length packets) t.picked
                ∙ ap (λ y. take (length (g.pulled x.id)) t.picked ++ take (length packets) y) kept
                ∙ ap (λ y. take (length (g.pulled x.id)) t.picked ++ y) (take_taken most_pulled (p ∷ ps))
                ∙ ap (λ y. y ++ packets) mine.begins
                ∙ ap (λ y. g.pulled x.id ++ y) (sym is_more),
          )

  pub agrees_pull : Fits (on_pull id st) e → Agrees c (on_pull id st).state (read_one c g e)
  agrees_pull fits = by (living_http g id) (http_session st id) refl (http_match c st g id a) fits
    where
      queue : (m : Made) (s : Session) (ps : List (List ℕ)) → living_http g id ≡ Some m → Same g m s → held s ≡ ps → Fits (pull_some st s ps) e
          → Agrees c (pull_some st s ps).state (read_one c g e)
      queue m s [] f same held_is fit = empty m s f same fit.answer
      queue m s (p ∷ ps) f same held_is fit = some m s p ps (length (concat (take most_pulled (p ∷ ps)))) f same held_is fit.answer fit.reply

      by : (o : Option Made) (q : Option Session) → living_http g id ≡ o → Matched g o q
          → Fits (option_map_or (λ s. pull_some st s (held s)) q (outcome (settle st) (Pulled PulledGone) [])) e
          → Agrees c (option_map_or (λ s. pull_some st s (held s)) q (outcome (settle st) (Pulled PulledGone) [])).state (read_one c g e)
      by None None f same fit = subst (Agrees c st) (sym (gone f fit.answer)) a
      by None (Some s) f same fit = absurd same
      by (Some m) None f same fit = absurd same
      by (Some m) (Some s) f same fit = queue m s (held s) f same refl fit
