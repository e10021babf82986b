-- The readings after one more entry, in parts.
use Rattle.std.proofs.Common.{◌≡◌, ℕ, ◌+◌, ◌%◌, ◌^◌, ◌&&◌, ◌||◌, not, Bool, true, false, cond, List, [], ◌++◌, Option, Some, None, refl, ap, sym, ◌∙◌, append-nil}
use Rattle.std.specs.Option.{option_and_then, option_to_list}
use Rattle.satip_plain.proofs.SameIds.{same_id_is}
use Rattle.satip_base.specs.Lists.{Has}
use Rattle.satip_base.specs.Output.{Output}
use Rattle.satip_plain.specs.Types.{SessionId, Config}
use Rattle.satip_plain.specs.declared.answers.Answer.{Answer}
use Rattle.satip_plain.specs.declared.events.Event.{Event}
use Rattle.satip_plain.specs.State.{same_id}
use Rattle.satip_plain.specs.Histories.{Item}
use Rattle.satip_plain.specs.Readings.{Made, Readings, Asking, living, living_session, any_where, makes, asking, placing_of, with_tuning, with_place, with_asked, tunes_front, mux_in, numbered, clock_after, ends, keeps_alive, starts_playing, is_selected, packet_in, pulled_by, frees, read_one}
use Rattle.satip_laws.proofs.Finding.{either_way, find_has}
use Rattle.satip_laws.proofs.Alter.{same_readings}

abbrev pub item : ℕ → Event → Answer → Output → Item
item caller event answer out = record { caller = caller; event = event; answer = answer; out = out }

-- the readings after an entry that makes this session and asks for this change, before front ends are freed
abbrev pub read_within : Config → Readings → Item → Option Made → Option Asking → Readings
read_within c g e new ask =
    let placed = option_and_then (placing_of c g) ask in
    let clock = clock_after g.clock e.event in
    record {
      clock = clock;
      made = g.made ++ option_to_list new;
      over = λ s. g.over s || any_where (ends c g e) (living_session g s);
      played = λ s. g.played s || (any_where (λ m. not m.http) (living_session g s) && starts_playing e s);
      heard = λ s. cond (any_where (λ m. same_id m.id s) new || any_where (keeps_alive e.event) (living_session g s)) clock (g.heard s);
      number = numbered g new;
      tuned = with_tuning g ask;
      pids = with_asked g ask;
      front = with_place g placed;
      tune = λ f. cond (tunes_front placed f) ((g.tune f + 1) % 2 ^ 64) (g.tune f);
      mux = λ f. cond (tunes_front placed f) (mux_in c placed) (g.mux f);
      selected = λ s. g.selected s ++ cond (any_where (is_selected g e.event) (living_session g s)) (packet_in e.event) [];
      pulled = λ s. g.pulled s ++ pulled_by e s;
    }

pub read_parts : (c : Config) (g : Readings) (e : Item) → read_one c g e ≡ frees (read_within c g e (makes g e) (asking g e))
read_parts c g e = refl

-- the readings after an entry that makes no session and changes no stream
abbrev pub read_simply : Readings → ℕ → (Made → Bool) → (Made → Bool) → (SessionId → List (List ℕ)) → (SessionId → List (List ℕ)) → Readings
read_simply g clock ended hears selected pulled = record g {
  clock = clock;
  over = λ s. g.over s || any_where ended (living_session g s);
  heard = λ s. cond (any_where hears (living_session g s)) clock (g.heard s);
  selected = λ s. g.selected s ++ selected s;
  pulled = λ s. g.pulled s ++ pulled s;
}

pub where_never : (p : Made → Bool) (o : Option Made) → ((m : Made) → o ≡ Some m → p m ≡ false) → any_where p o ≡ false
where_never p None f = refl
where_never p (Some m) f = f m refl

pub where_agree : (p q : Made → Bool) (o : Option Made) → ((m : Made) → o ≡ Some m → p m ≡ q m) → any_where p o ≡ any_where q o
where_agree p q None f = refl
where_agree p q (Some m) f = f m refl

pub found_living : (g : Readings) (s : SessionId) (m : Made) → living_session g s ≡ Some m → Has m (living g) × (m.id ≡ s)
found_living g s m e = let there = find_has (λ n. same_id n.id s) (living g) m e in (there.0, same_id_is m.id s there.1)

pub or_never : (a b d : Bool) → d ≡ false → (a || (b && d)) ≡ a
or_never a b d e = rw e (by a b)
  where
    by : (x y : Bool) → (x || (y && false)) ≡ x
    by true y = refl
    by false true = refl
    by false false = refl

pub or_false : (a b : Bool) → b ≡ false → (a || b) ≡ a
or_false true b e = refl
or_false false b e = e

pub nothing_more : (xs ys : List (List ℕ)) → ys ≡ [] → xs ++ ys ≡ xs
nothing_more xs ys e = rw e (append-nil xs)

pub within_simply : (c : Config) (g : Readings) (e : Item) → ((s : SessionId) → starts_playing e s ≡ false)
    → read_within c g e None None ≡ read_simply g (clock_after g.clock e.event) (ends c g e) (keeps_alive e.event)
    (λ s. cond (any_where (is_selected g e.event) (living_session g s)) (packet_in e.event) []) (pulled_by e)
within_simply c g e starts = same_readings _ _ (record {
  clock = refl;
  made = append-nil g.made;
  over = λ s. refl;
  played = λ s. or_never (g.played s) (any_where (λ m. not m.http) (living_session g s)) (starts_playing e s) (starts s);
  heard = λ s. refl;
  number = λ t. refl;
  tuned = λ t. refl;
  pids = λ t. refl;
  front = λ t. refl;
  tune = λ f. refl;
  mux = λ f. refl;
  selected = λ s. refl;
  pulled = λ s. refl;
})

pub read_other : (c : Config) (g : Readings) (e : Item) → makes g e ≡ None → asking g e ≡ None → ((s : SessionId) → starts_playing e s ≡ false)
    → read_one c g e ≡ frees (read_simply g (clock_after g.clock e.event) (ends c g e) (keeps_alive e.event)
    (λ s. cond (any_where (is_selected g e.event) (living_session g s)) (packet_in e.event) []) (pulled_by e))
read_other c g e none still starts =
    ap (λ o. frees (read_within c g e o (asking g e))) none ∙ ap (λ o. frees (read_within c g e None o)) still ∙ ap frees (within_simply c g e starts)

-- an entry by which nothing happens to the living sessions but what these say
pub simply_same : (g : Readings) (clock : ℕ) (ended hears p h : Made → Bool) (selected pulled sel pul : SessionId → List (List ℕ))
    → ((m : Made) → Has m (living g) → ended m ≡ p m) → ((m : Made) → Has m (living g) → hears m ≡ h m)
    → ((s : SessionId) → selected s ≡ sel s) → ((s : SessionId) → pulled s ≡ pul s)
    → read_simply g clock ended hears selected pulled ≡ read_simply g clock p h sel pul
simply_same g clock ended hears p h selected pulled sel pul e i j k = same_readings _ _ (record {
  clock = refl;
  made = refl;
  over = λ s. ap (λ b. g.over s || b) (where_agree ended p (living_session g s) (λ m f. e m (found_living g s m f).0));
  played = λ s. refl;
  heard = λ s. ap (λ b. cond b clock (g.heard s)) (where_agree hears h (living_session g s) (λ m f. i m (found_living g s m f).0));
  number = λ t. refl;
  tuned = λ t. refl;
  pids = λ t. refl;
  front = λ t. refl;
  tune = λ f. refl;
  mux = λ f. refl;
  selected = λ s. ap (λ xs. g.selected s ++ xs) (j s);
  pulled = λ s. ap (λ xs. g.pulled s ++ xs) (k s);
})

abbrev pub never : Made → Bool
never m = false

abbrev pub nothing : SessionId → List (List ℕ)
nothing s = []

pub never_where : (o : Option Made) → any_where never o ≡ false
never_where None = refl
never_where (Some m) = refl

-- an entry by which sessions end, at a moment
pub simply_ends : (g : Readings) (clock : ℕ) (p : Made → Bool)
    → read_simply g clock p never nothing nothing ≡ record g { clock = clock; over = λ s. g.over s || any_where p (living_session g s) }
simply_ends g clock p = same_readings _ _ (record {
  clock = refl;
  made = refl;
  over = λ s. refl;
  played = λ s. refl;
  heard = λ s. ap (λ b. cond b clock (g.heard s)) (never_where (living_session g s));
  number = λ t. refl;
  tuned = λ t. refl;
  pids = λ t. refl;
  front = λ t. refl;
  tune = λ f. refl;
  mux = λ f. refl;
  selected = λ s. append-nil (g.selected s);
  pulled = λ s. append-nil (g.pulled s);
})

-- an entry by which sessions were heard of, and pulled
pub simply_hears : (g : Readings) (h : Made → Bool) (pul : SessionId → List (List ℕ))
    → read_simply g g.clock never h nothing pul ≡ record g
    { heard = λ s. cond (any_where h (living_session g s)) g.clock (g.heard s); pulled = λ s. g.pulled s ++ pul s }
simply_hears g h pul = same_readings _ _ (record {
  clock = refl;
  made = refl;
  over = λ s. or_false (g.over s) (any_where never (living_session g s)) (never_where (living_session g s));
  played = λ s. refl;
  heard = λ s. refl;
  number = λ t. refl;
  tuned = λ t. refl;
  pids = λ t. refl;
  front = λ t. refl;
  tune = λ f. refl;
  mux = λ f. refl;
  selected = λ s. append-nil (g.selected s);
  pulled = λ s. refl;
})

-- an entry by which nothing happens
pub simply_still : (g : Readings) → read_simply g g.clock never never nothing nothing ≡ g
simply_still g = same_readings _ _ (record {
  clock = refl;
  made = refl;
  over = λ s. or_false (g.over s) (any_where never (living_session g s)) (never_where (living_session g s));
  played = λ s. refl;
  heard = λ s. ap (λ b. cond b g.clock (g.heard s)) (never_where (living_session g s));
  number = λ t. refl;
  tuned = λ t. refl;
  pids = λ t. refl;
  front = λ t. refl;
  tune = λ f. refl;
  mux = λ f. refl;
  selected = λ s. append-nil (g.selected s);
  pulled = λ s. append-nil (g.pulled s);
})

-- an entry by which sessions end, and packets are selected
pub simply_selects : (g : Readings) (clock : ℕ) (p : Made → Bool) (sel : SessionId → List (List ℕ))
    → read_simply g clock p never sel nothing ≡ record g
    { clock = clock; over = λ s. g.over s || any_where p (living_session g s); selected = λ s. g.selected s ++ sel s }
simply_selects g clock p sel = same_readings _ _ (record {
  clock = refl;
  made = refl;
  over = λ s. refl;
  played = λ s. refl;
  heard = λ s. ap (λ b. cond b clock (g.heard s)) (never_where (living_session g s));
  number = λ t. refl;
  tuned = λ t. refl;
  pids = λ t. refl;
  front = λ t. refl;
  tune = λ f. refl;
  mux = λ f. refl;
  selected = λ s. refl;
  pulled = λ s. append-nil (g.pulled s);
})

-- an entry by which sessions end, and others were heard of
pub simply_parts : (g : Readings) (p h : Made → Bool)
    → read_simply g g.clock p h nothing nothing ≡ record g
    { over = λ s. g.over s || any_where p (living_session g s); heard = λ s. cond (any_where h (living_session g s)) g.clock (g.heard s) }
simply_parts g p h = same_readings _ _ (record {
  clock = refl;
  made = refl;
  over = λ s. refl;
  played = λ s. refl;
  heard = λ s. refl;
  number = λ t. refl;
  tuned = λ t. refl;
  pids = λ t. refl;
  front = λ t. refl;
  tune = λ f. refl;
  mux = λ f. refl;
  selected = λ s. append-nil (g.selected s);
  pulled = λ s. append-nil (g.pulled s);
})

-- a stream that changes, before front ends are freed
abbrev pub changed_within : Config → Readings → Asking → Readings
changed_within c g a = let placed = placing_of c g a in record g {
  tuned = with_tuning g (Some a);
  pids = with_asked g (Some a);
  front = with_place g placed;
  tune = λ f. cond (tunes_front placed f) ((g.tune f + 1) % 2 ^ 64) (g.tune f);
  mux = λ f. cond (tunes_front placed f) (mux_in c placed) (g.mux f);
}

-- an entry by which a stream changes, and perhaps a session is made
pub changes_within : (c : Config) (g : Readings) (e : Item) (new : Option Made) (a : Asking)
    (made : List Made) (played : SessionId → Bool) (heard : SessionId → ℕ) (numbers : SessionId → ℕ)
    → clock_after g.clock e.event ≡ g.clock → packet_in e.event ≡ [] → ((s : SessionId) → pulled_by e s ≡ [])
    → ((s : SessionId) → any_where (ends c g e) (living_session g s) ≡ false)
    → g.made ++ option_to_list new ≡ made
    → ((s : SessionId) → (g.played s || (any_where (λ m. not m.http) (living_session g s) && starts_playing e s)) ≡ played s)
    → ((s : SessionId) → cond (any_where (λ m. same_id m.id s) new || any_where (keeps_alive e.event) (living_session g s)) g.clock (g.heard s) ≡ heard s)
    → ((t : SessionId) → numbered g new t ≡ numbers t)
    → placing_of c g a ≡ placing_of c (record g { made = made; played = played; heard = heard; number = numbers }) a
    → read_within c g e new (Some a) ≡ changed_within c (record g { made = made; played = played; heard = heard; number = numbers }) a
changes_within c g e new a made played heard numbers clock packets pulled stays is_made is_played is_heard is_number placing = same_readings _ _ (record {
  clock = clock;
  made = is_made;
  over = λ s. or_false (g.over s) (any_where (ends c g e) (living_session g s)) (stays s);
  played = is_played;
  heard = λ s. ap (λ k. cond (any_where (λ m. same_id m.id s) new || any_where (keeps_alive e.event) (living_session g s)) k (g.heard s)) clock ∙ is_heard s;
  number = is_number;
  tuned = λ t. refl;
  pids = λ t. refl;
  front = λ t. ap (λ p. with_place g p t) placing;
  tune = λ f. ap (λ p. cond (tunes_front p f) ((g.tune f + 1) % 2 ^ 64) (g.tune f)) placing;
  mux = λ f. ap (λ p. cond (tunes_front p f) (mux_in c p) (g.mux f)) placing;
  selected = λ s. ap (λ ps. g.selected s ++ cond (any_where (is_selected g e.event) (living_session g s)) ps []) packets
      ∙ nothing_more (g.selected s) _ (sym (either_way [] (any_where (is_selected g e.event) (living_session g s))));
  pulled = λ s. nothing_more (g.pulled s) (pulled_by e s) (pulled s);
})
