-- What each kind of turn does to its session.
use Rattle.std.proofs.Common.{arith, ◌≡◌, ℕ, ◌+◌, ◌%◌, ◌≤◌, ◌==◌, ◌&&◌, not, Bool, true, false, List, [], ◌∷◌, ◌++◌, map, length, sum, drop, Option, Some, None, refl, ap, sym, ◌∙◌, if◌then◌else◌, append-nil, length-append, length-drop}
use Rattle.std.specs.Option.{option_map_or}
use Rattle.std.proofs.lemmas.Bool.{eqb-false}
use Rattle.std.proofs.lemmas.List.{drop-append-le, drop-drop}
use Rattle.std.proofs.lemmas.List.Sums.{sum_by-append, sum_by-cons}
use Rattle.satip_rtp.specs.Cut.{cut, staying}
use Rattle.satip_rtp.proofs.CutLemmas.{cut_loses_nothing}
use Rattle.satip_plain.specs.Types.{SessionId, Config}
use Rattle.satip_plain.specs.State.{Session, State, Stream, same_id, held, stream_of}
use Rattle.satip_plain.specs.Sending.{Report, Turn, as_rtp, let_go}
use Rattle.satip_plain.specs.Steps.{part, given, is_overrun, most_queued, report_of, view_of, sender_of}
use Rattle.satip_laws.specs.Makings.{IsKept}
use Rattle.satip_laws.proofs.Ids.{id_same}
use Rattle.satip_laws.proofs.Told.{told, told_of, all_of}
use Rattle.satip_laws.proofs.Evolving.{most_of, Becomes, Evolves, told_by, kept_same, evolves_same}
use Rattle.satip_laws.proofs.Rounds.{IsOwn}

-- a turn that only sends the session's own datagrams, with what it gives
pub record Takes (x : Session) (t : Turn) (got : List (List ℕ)) : Type 0 where
  pub own : IsOwn x t
  pub evolves : Evolves x (told x.id t.sends) got [] t.after

some_is : (x y : Session) → Some x ≡ Some y → y ≡ x
some_is x y e = cc

-- nothing is sent, and the session keeps its packets
pub quiet : (x y : Session) → IsKept x y → y.picked ≡ x.picked → y.sizes ≡ x.sizes → Takes x (record { sends = []; after = Some y }) []
quiet x y kept picked sizes = record {
  own = record { id = λ z e. ap (λ w. w.id) (some_is y z e) ∙ kept.id; others = λ s e. refl };
  evolves = evolves_same x y kept picked sizes;
}

pub still : (x : Session) → Takes x (record { sends = []; after = Some x }) []
still x = quiet x x (kept_same x) refl refl

-- a turn that only some sessions have
pub some_turn : (p : Session → Bool) (turn : Session → Turn) (x : Session) → (p x ≡ true → Takes x (turn x) [])
    → Takes x (if p x then turn x else record { sends = []; after = Some x }) []
some_turn p turn x takes = by (p x) refl
  where
    by : (b : Bool) → p x ≡ b → Takes x (if b then turn x else record { sends = []; after = Some x }) []
    by true e = takes e
    by false e = still x

-- what datagrams tell
as_rtp_own : (clock : ℕ) (x : Session) (n : ℕ) (groups : List (List (List ℕ))) → told x.id (as_rtp clock x n groups) ≡ told_of x.first x.ssrc n groups
as_rtp_own clock x n [] = refl
as_rtp_own clock x n (g ∷ gs) = rw (id_same x.id)
    (ap (λ ts. record { number = (x.first + n) % 65536; ssrc = x.ssrc; packets = g } ∷ ts) (as_rtp_own clock x (n + 1) gs))

as_rtp_other : (s : SessionId) (clock : ℕ) (x : Session) (n : ℕ) (groups : List (List (List ℕ))) → same_id x.id s ≡ false
    → told s (as_rtp clock x n groups) ≡ []
as_rtp_other s clock x n [] e = refl
as_rtp_other s clock x n (g ∷ gs) e = rw e (as_rtp_other s clock x (n + 1) gs e)

sum_lengths : (gs : List (List (List ℕ))) → sum (map length gs) ≡ length (all_of gs)
sum_lengths [] = refl
sum_lengths (g ∷ gs) = sum_by-cons (λ n. n) (length g) (map length gs) ∙ ap (λ n. length g + n) (sum_lengths gs) ∙ sym (length-append g (all_of gs))

sum-append : (ms ns : List ℕ) → sum (ms ++ ns) ≡ sum ms + sum ns
sum-append ms ns = sum_by-append (λ m. m) ms ns

-- an RTSP session lets packets go: of what it held nothing is lost, and at most six stay
pub record LetsGo (flush : Bool) (x y : Session) (groups : List (List (List ℕ))) : Type 0 where
  pub whole : held x ≡ all_of groups ++ held y
  pub within : sum y.sizes ≤ length y.picked
  pub few : length (held y) ≤ 6
  pub none : flush ≡ true → held y ≡ []

abbrev pub gone_by : Bool → Session → Session
gone_by flush x = record x { sizes = x.sizes ++ map length (cut flush (held x)) }

pub lets_go : (flush : Bool) (x : Session) → sum x.sizes ≤ length x.picked → LetsGo flush x (gone_by flush x) (cut flush (held x))
lets_go flush x within =
    let groups : List (List (List ℕ)) = cut flush (held x) in
    let y : Session = gone_by flush x in
    let loses = cut_loses_nothing flush (held x) in
    let total = sum-append x.sizes (map length groups) in
    let stay : held y ≡ staying flush (held x) = ap (λ n. drop n x.picked) total ∙ sym (drop-drop (sum (map length groups)) (sum x.sizes) x.picked) in
    let whole : held x ≡ all_of groups ++ held y = sym loses.whole ∙ ap (λ l. all_of groups ++ l) (sym stay) in
    let many : length (held x) ≡ length (all_of groups) + length (held y) = ap length whole ∙ length-append (all_of groups) (held y) in
    record {
      whole = whole;
      within = omega (arith, total, sum_lengths groups, many, length-drop (sum x.sizes) x.picked, within);
      few = rw stay loses.few;
      none = λ e. stay ∙ loses.none_flushed e;
    }

told_rtsp : (x : Session) (groups : List (List (List ℕ))) → x.http ≡ false → told_by x groups ≡ told_of x.first x.ssrc (length x.sizes) groups
told_rtsp x groups e = rw e refl

few_rtsp : (x : Session) (n : ℕ) → x.http ≡ false → n ≤ 6 → n ≤ most_of x.http
few_rtsp x n e few = rw e few

-- what an RTSP session lets go
pub let_go_takes : (flush : Bool) (clock : ℕ) (x : Session) → x.http ≡ false → Takes x (let_go flush clock x) []
let_go_takes flush clock x rtsp = record {
  own = record { id = λ y e. ap (λ z. z.id) (some_is (gone_by flush x) y e); others = λ s e. as_rtp_other s clock x (length x.sizes) (cut flush (held x)) e };
  evolves = record {
    groups = cut flush (held x);
    tells = as_rtp_own clock x (length x.sizes) (cut flush (held x)) ∙ sym (told_rtsp x (cut flush (held x)) rtsp);
    takes = λ e. cc;
    follows = record {
      kept = record { id = refl; http = refl; stream = refl; ssrc = refl; first = refl };
      picked = sym (append-nil x.picked);
      sizes = refl;
      fine = λ f. let g = lets_go flush x f.within in record { within = g.within; few = few_rtsp x _ rtsp g.few };
      whole = λ f. append-nil (held x) ∙ (lets_go flush x f.within).whole;
    };
  };
}

-- a session that ends
part_by : (clock : ℕ) (x : Session) (b : Bool) → x.http ≡ b → Takes x (record { sends = (if b then [] else (let_go true clock x).sends); after = None }) []
unfolding let_go_takes
part_by clock x true e = record {
  own = record { id = λ y f. cc; others = λ s f. refl };
  evolves = record { groups = []; tells = rw e refl; takes = λ f. refl; follows = record { rest = held x; whole = λ f. append-nil (held x); none = λ f. cc } };
}
part_by clock x false e = record {
  own = record { id = λ y f. cc; others = (let_go_takes true clock x e).own.others };
  evolves = record {
    groups = cut true (held x);
    tells = (let_go_takes true clock x e).evolves.tells;
    takes = λ f. cc;
    follows = record {
      rest = [];
      whole = λ f. let g = lets_go true x f.within in append-nil (held x) ∙ g.whole ∙ ap (λ l. all_of (cut true (held x)) ++ l) (g.none refl);
      none = λ f. refl;
    };
  };
}

pub part_takes : (clock : ℕ) (x : Session) → Takes x (part clock x) []
part_takes clock x = part_by clock x x.http refl

-- a report
report_none : (s : SessionId) (c : Config) (st : State) (x : Session) → told s (report_of c st x) ≡ []
report_none s c st x = by (stream_of st x.stream)
  where
    by : (o : Option Stream) → told s (option_map_or (λ t. Report x.id (view_of st t) (sender_of c st x) ∷ []) o []) ≡ []
    by None = refl
    by (Some t) = refl

pub report_takes : (c : Config) (st : State) (x : Session)
    → Takes x (record { sends = report_of c st x; after = Some (record x { reported = Some st.clock }) }) []
report_takes c st x =
    let y : Session = record x { reported = Some st.clock } in
    let kept : IsKept x y = record { id = refl; http = refl; stream = refl; ssrc = refl; first = refl } in
    record {
      own = record { id = λ z e. ap (λ w. w.id) (some_is y z e); others = λ s e. report_none s c st x };
      evolves = rw (report_none x.id c st x) (evolves_same x y kept refl refl);
    }

-- a session that is given a packet: one with a full queue isn't
abbrev pub more_of : List ℕ → Session → Session
more_of packet x = record x { picked = x.picked ++ packet ∷ [] }

abbrev pub got_unless : Bool → List ℕ → List (List ℕ)
got_unless full packet = if not full then packet ∷ [] else []

held_more : (packet : List ℕ) (x : Session) → sum x.sizes ≤ length x.picked → held (more_of packet x) ≡ held x ++ packet ∷ []
held_more packet x within = drop-append-le (sum x.sizes) x.picked (packet ∷ []) within

within_more : (packet : List ℕ) (x : Session) → sum x.sizes ≤ length x.picked → sum x.sizes ≤ length (x.picked ++ packet ∷ [])
within_more packet x within = omega (arith, within, length-append x.picked (packet ∷ []))

kept_more : (packet : List ℕ) (x : Session) → IsKept x (more_of packet x)
kept_more packet x = record { id = refl; http = refl; stream = refl; ssrc = refl; first = refl }

queue_more : (packet : List ℕ) (x : Session) → x.http ≡ true → (length (held x) == most_queued) ≡ false → Becomes x (packet ∷ []) [] (more_of packet x)
queue_more packet x http room = record {
  kept = kept_more packet x;
  picked = refl;
  sizes = sym (append-nil x.sizes);
  fine = λ f. record {
    within = within_more packet x f.within;
    few = rw http (let most : length (held x) ≤ most_queued = rw http at f.few in
        let long : length (held (more_of packet x)) ≡ length (held x) + 1 = ap length (held_more packet x f.within) ∙ length-append (held x) (packet ∷ []) in
        let other : length (held x) ≡ most_queued → ⊥ = eqb-false (length (held x)) most_queued room in
        below (length (held x)) (length (held (more_of packet x))) most other long);
  };
  whole = λ f. sym (held_more packet x f.within);
}
  where
    below : (n m : ℕ) → n ≤ 4096 → (n ≡ 4096 → ⊥) → m ≡ n + 1 → m ≤ 4096
    below n m most other e = omega (arith, most, other, e)

given_http : (packet : List ℕ) (x : Session) → x.http ≡ true → (b : Bool) → (length (held x) == most_queued) ≡ b
    → Takes x (record { sends = []; after = Some (if b then x else more_of packet x) }) (got_unless b packet)
given_http packet x http true e = still x
given_http packet x http false e = record {
  own = record { id = λ y f. ap (λ z. z.id) (some_is (more_of packet x) y f); others = λ s f. refl };
  evolves = record { groups = []; tells = rw http refl; takes = λ f. refl; follows = queue_more packet x http e };
}

given_rtsp : (clock : ℕ) (packet : List ℕ) (x : Session) → x.http ≡ false → Takes x (let_go false clock (more_of packet x)) (packet ∷ [])
unfolding let_go_takes
given_rtsp clock packet x rtsp =
    let more : Session = more_of packet x in
    let takes : Takes more (let_go false clock more) [] = let_go_takes false clock more rtsp in
    let groups : List (List (List ℕ)) = cut false (held more) in
    record {
      own = record { id = takes.own.id; others = takes.own.others };
      evolves = record {
        groups = groups;
        tells = takes.evolves.tells;
        takes = λ e. cc;
        follows = record {
          kept = record { id = refl; http = refl; stream = refl; ssrc = refl; first = refl };
          picked = refl;
          sizes = refl;
          fine = λ f. let g = lets_go false more (within_more packet x f.within) in record { within = g.within; few = few_rtsp x _ rtsp g.few };
          whole = λ f. sym (held_more packet x f.within) ∙ (lets_go false more (within_more packet x f.within)).whole;
        };
      };
    }

given_by : (clock : ℕ) (packet : List ℕ) (x : Session) (b : Bool) → x.http ≡ b
    → Takes x (if b then record { sends = []; after = Some (if b && length (held x) == most_queued then x else more_of packet x) }
    else let_go false clock (more_of packet x))
    (got_unless (b && length (held x) == most_queued) packet)
given_by clock packet x true e = given_http packet x e (length (held x) == most_queued) refl
given_by clock packet x false e = given_rtsp clock packet x e

pub given_takes : (clock : ℕ) (packet : List ℕ) (x : Session) → Takes x (given clock packet x) (got_unless (is_overrun x) packet)
given_takes clock packet x = given_by clock packet x x.http refl
