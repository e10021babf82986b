-- What becomes of one lane at an entry: it is ahead, it is held, or it is gone.
use Rattle.std.proofs.Common.{◌≡◌, ◌∙◌, ℕ, ◌+◌, ◌<◌, ◌≤◌, ◌==◌, Bool, true, false, cond, List, [], ◌∷◌, ◌++◌, Option, Some, None, append-nil, refl, sym, ap, subst, ⊎_elim, arith, eqb-true}
use Rattle.std.specs.List.{concat}
use Rattle.std.proofs.lemmas.Bool.{true≢false}
use Rattle.std.proofs.lemmas.Bool.Decides.{eqb_tells}
use Rattle.satip_base.specs.Output.{Datagram, Output}
use Rattle.satip_interleave.specs.declared.lane.Lane.{Lane}
use Rattle.satip_interleave.specs.Frames.{first_frames}
use Rattle.satip_interleave.specs.Lanes.{PlainLanes, change_lane, drain_answer, drained_lane, entered, entered_number, fresh_lane, is_full, is_held, lane_answer, lane_of, put_in, put_to, taken_frames}
use Rattle.satip_interleave.specs.Turns.{Comes, Leaves, all_leaving, lane_after}
use Rattle.satip_interleave.specs.declared.events.TunnelEvent.{TunnelEvent}
use Rattle.satip_interleave.specs.declared.events.TunnelEvent.TheVariants.{Inner, Enter, Drain, Leave}
use Rattle.satip_interleave.specs.declared.events.TunnelAnswer.{TunnelAnswer}
use Rattle.satip_interleave.specs.declared.events.TunnelAnswer.TheVariants.{Inner as InnerAnswer, Lane as GivenLane, Full, Frames, Empty, Broken, Gone, Left}
use Rattle.satip_interleave.specs.Tunnels.{drain_told, lane_told, left_told, moved_by, put_all}
use Rattle.satip_interleave.specs.Answers.{IsAnswered}
use Rattle.satip_tunnel_laws.specs.LaneFrames.{drained_by, drains, enters, leaves}
use Rattle.satip_tunnel_laws.proofs.Holding.{Lacks, Stands, lacks_change, lacks_none, lacks_push, lacks_stands, lacks_without, left_lacks, put_keeps, stands_change, stands_found, stands_other, stands_push, stands_without}
use Rattle.satip_tunnel_laws.proofs.Turning.{comings, none_leave, turns_by}

-- the number wasn't given yet
pub record IsAhead (x : ℕ) (lanes : PlainLanes) : Type 0 where
  pub lacks : Lacks x lanes.held
  pub ahead : lanes.given < x

-- it was given, and its lane is this one
pub record IsHeldAs (x : ℕ) (l : Lane) (lanes : PlainLanes) : Type 0 where
  pub stands : Stands x l lanes.held
  pub given : x ≤ lanes.given

-- it was given, and its lane was given up
pub record IsGone (x : ℕ) (lanes : PlainLanes) : Type 0 where
  pub lacks : Lacks x lanes.held
  pub given : x ≤ lanes.given

pub differs : (a b : ℕ) → (a ≡ b → ⊥) → (a == b) ≡ false
differs a b never = ⊎_elim (λ t. absurd (never t.1)) (λ t. t.0) (eqb_tells a b)

-- the lanes with one more
abbrev one_more : PlainLanes → PlainLanes
one_more lanes = record { given = lanes.given + 1; held = lanes.held ++ fresh_lane (lanes.given + 1) ∷ [] }

-- datagrams

pub given_put_all : (sent : List Datagram) (lanes : PlainLanes) → (put_all sent lanes).given ≡ lanes.given
given_put_all [] lanes = refl
given_put_all (d ∷ ds) lanes = given_put_all ds (put_to d.to d.bytes lanes)

lacks_put_all : (x : ℕ) (sent : List Datagram) (lanes : PlainLanes) → Lacks x lanes.held → Lacks x (put_all sent lanes).held
lacks_put_all x [] lanes lacks = lacks
lacks_put_all x (d ∷ ds) lanes lacks =
    lacks_put_all x ds (put_to d.to d.bytes lanes) (lacks_change x d.to.ip (put_in d.to.port d.bytes) (put_keeps d.to.port d.bytes) lanes.held lacks)

held_put_all : (x : ℕ) (sent : List Datagram) (lanes : PlainLanes) (l : Lane) → IsHeldAs x l lanes
    → IsHeldAs x (lane_after l (comings x sent)) (put_all sent lanes)
held_put_all x [] lanes l is = is
held_put_all x (d ∷ ds) lanes l is =
    each (d.to.ip == x) refl (λ (next : PlainLanes) (m : Lane) (held : IsHeldAs x m next). held_put_all x ds next m held)
  where
    put : Lane → Lane
    put = put_in d.to.port d.bytes

    changed : (n : ℕ) → n ≡ x → Stands x (put_in d.to.port d.bytes l) (change_lane n (put_in d.to.port d.bytes) lanes.held)
    changed n e =
        subst (λ m. Stands x (put_in d.to.port d.bytes l) (change_lane m (put_in d.to.port d.bytes) lanes.held)) (sym e)
        (stands_change x (put_in d.to.port d.bytes) (put_keeps d.to.port d.bytes) l lanes.held is.stands)

    each : (b : Bool) → (d.to.ip == x) ≡ b
        → ((next : PlainLanes) (m : Lane) → IsHeldAs x m next → IsHeldAs x (lane_after m (comings x ds)) (put_all ds next))
        → IsHeldAs x (lane_after l (cond b (Comes d.to.port d.bytes ∷ comings x ds) (comings x ds))) (put_all ds (put_to d.to d.bytes lanes))
    each true e rest = rest (put_to d.to d.bytes lanes) (put_in d.to.port d.bytes l)
        (record { stands = changed d.to.ip (eqb-true d.to.ip x e); given = is.given })
    each false e rest = rest (put_to d.to d.bytes lanes) l (record {
      stands = stands_other x d.to.ip (put_in d.to.port d.bytes) (put_keeps d.to.port d.bytes) e l lanes.held is.stands;
      given = is.given;
    })

-- a connection that enters

lacks_entered : (x : ℕ) (lanes : PlainLanes) → x ≤ lanes.given → Lacks x lanes.held → IsGone x (entered lanes)
lacks_entered x lanes given lacks = each (is_full lanes)
  where
    each : (b : Bool) → IsGone x (cond b lanes (one_more lanes))
    each true = record { lacks = lacks; given = given }
    each false = record {
      lacks = lacks_push x (fresh_lane (lanes.given + 1)) lanes.held (differs (lanes.given + 1) x (λ e. omega (arith, e, given))) lacks;
      given = omega (arith, given);
    }

held_entered : (x : ℕ) (lanes : PlainLanes) (l : Lane) → IsHeldAs x l lanes → IsHeldAs x l (entered lanes)
held_entered x lanes l is = each (is_full lanes)
  where
    each : (b : Bool) → IsHeldAs x l (cond b lanes (one_more lanes))
    each true = is
    each false = record {
      stands = stands_push x (fresh_lane (lanes.given + 1)) l lanes.held (differs (lanes.given + 1) x (λ e. omega (arith, e, is.given))) is.stands;
      given = omega (arith, is.given);
    }

-- the number itself is given, or another
pub now_held : (x : ℕ) (lanes : PlainLanes) (answer : TunnelAnswer) → IsAhead x lanes → answer ≡ lane_told (entered_number lanes) → enters x Enter answer ≡ true
    → IsHeldAs x (fresh_lane x) (entered lanes)
now_held x lanes answer is told gives = each (is_full lanes) told
  where
    next : (n : ℕ) → n ≡ x → n ≤ lanes.given + 1 → lanes.given + 1 ≤ n
        → IsHeldAs x (fresh_lane x) (record { given = lanes.given + 1; held = lanes.held ++ fresh_lane n ∷ [] })
    next n e low high =
        subst (λ m. IsHeldAs x (fresh_lane x) (record { given = lanes.given + 1; held = lanes.held ++ fresh_lane m ∷ [] })) (sym e)
        (record { stands = lacks_stands x (fresh_lane x) lanes.held (eq_same x) is.lacks; given = omega (arith, e, low) })
      where
        eq_same : (n : ℕ) → (n == n) ≡ true
        eq_same n = ⊎_elim (λ t. t.0) (λ t. absurd (t.1 refl)) (eqb_tells n n)

    each : (b : Bool) → answer ≡ lane_told (cond b None (Some (lanes.given + 1))) → IsHeldAs x (fresh_lane x) (cond b lanes (one_more lanes))
    each true e = absurd (true≢false (sym gives ∙ ap (enters x Enter) e))
    each false e =
        let is_x : lanes.given + 1 ≡ x = eqb-true (lanes.given + 1) x (sym (ap (enters x Enter) e) ∙ gives) in
        next (lanes.given + 1) is_x (omega arith) (omega arith)

still_ahead : (x : ℕ) (lanes : PlainLanes) (answer : TunnelAnswer) → IsAhead x lanes → answer ≡ lane_told (entered_number lanes) → enters x Enter answer ≡ false
    → IsAhead x (entered lanes)
still_ahead x lanes answer is told other = each (is_full lanes) told
  where
    each : (b : Bool) → answer ≡ lane_told (cond b None (Some (lanes.given + 1))) → IsAhead x (cond b lanes (one_more lanes))
    each true e = is
    each false e =
        let differ : ((lanes.given + 1) == x) ≡ false = sym (ap (enters x Enter) e) ∙ other in
        record {
          lacks = lacks_push x (fresh_lane (lanes.given + 1)) lanes.held differ is.lacks;
          ahead = further (lanes.given + 1) differ (omega (arith, is.ahead));
        }
      where
        further : (n : ℕ) → (n == x) ≡ false → n ≤ x → n < x
        further n e le = ⊎_elim (λ t. absurd (true≢false (sym t.0 ∙ e))) (λ t. let ne = t.1 in omega arith) (eqb_tells n x)

-- any entry

pub ahead_moved : (x : ℕ) (lanes : PlainLanes) (event : TunnelEvent) (answer : TunnelAnswer) (out : Output) → IsAhead x lanes
    → IsAnswered lanes event answer out
    → enters x event answer ≡ false → IsAhead x (moved_by event out.datagrams lanes)
ahead_moved x lanes (Inner event) answer out is answered other =
    record { lacks = lacks_put_all x out.datagrams lanes is.lacks; ahead = omega (arith, is.ahead, given_put_all out.datagrams lanes) }
ahead_moved x lanes Enter answer out is answered other = still_ahead x lanes answer is answered.told other
ahead_moved x lanes (Drain number) answer out is answered other =
    record { lacks = lacks_change x number drained_lane (λ l. refl) lanes.held is.lacks; ahead = is.ahead }
ahead_moved x lanes (Leave number) answer out is answered other = record { lacks = lacks_without x number lanes.held is.lacks; ahead = is.ahead }

pub gone_moved : (x : ℕ) (lanes : PlainLanes) (event : TunnelEvent) (sent : List Datagram) → IsGone x lanes → IsGone x (moved_by event sent lanes)
gone_moved x lanes (Inner event) sent is =
    record { lacks = lacks_put_all x sent lanes is.lacks; given = omega (arith, is.given, given_put_all sent lanes) }
gone_moved x lanes Enter sent is = lacks_entered x lanes is.given is.lacks
gone_moved x lanes (Drain number) sent is = record { lacks = lacks_change x number drained_lane (λ l. refl) lanes.held is.lacks; given = is.given }
gone_moved x lanes (Leave number) sent is = record { lacks = lacks_without x number lanes.held is.lacks; given = is.given }

held_drained : (x n : ℕ) (lanes : PlainLanes) (l : Lane) → IsHeldAs x l lanes
    → (b : Bool) → (n == x) ≡ b → Stands x (lane_after l (cond b (Leaves ∷ []) [])) (change_lane n drained_lane lanes.held)
held_drained x n lanes l is true e =
    subst (λ m. Stands x (drained_lane l) (change_lane m drained_lane lanes.held)) (sym (eqb-true n x e))
    (stands_change x drained_lane (λ l. refl) l lanes.held is.stands)
held_drained x n lanes l is false e = stands_other x n drained_lane (λ l. refl) e l lanes.held is.stands

-- the lane of a number that is held is left exactly where it is answered so
held_left : (x n : ℕ) (lanes : PlainLanes) (l : Lane) (answer : TunnelAnswer) → IsHeldAs x l lanes → answer ≡ left_told (is_held n lanes) → (n == x) ≡ true
    → answer ≡ Left
held_left x n lanes l answer is told same =
    told ∙ ap (λ m. left_told (is_held m lanes)) (eqb-true n x same) ∙ ap (λ (o : Option Lane). left_told (some o)) (stands_found x l lanes.held is.stands)
  where
    some : Option Lane → Bool
    some None = false
    some (Some l) = true

pub held_moved : (x : ℕ) (lanes : PlainLanes) (l : Lane) (event : TunnelEvent) (answer : TunnelAnswer) (out : Output) → IsHeldAs x l lanes
    → IsAnswered lanes event answer out
    → leaves x event answer ≡ false → IsHeldAs x (lane_after l (turns_by x event out.datagrams)) (moved_by event out.datagrams lanes)
held_moved x lanes l (Inner event) answer out is answered stays = held_put_all x out.datagrams lanes l is
held_moved x lanes l Enter answer out is answered stays = held_entered x lanes l is
held_moved x lanes l (Drain number) answer out is answered stays = record { stands = held_drained x number lanes l is (number == x) refl; given = is.given }
held_moved x lanes l (Leave number) answer out is answered stays = each (number == x) refl
  where
    each : (b : Bool) → (number == x) ≡ b → IsHeldAs x l (moved_by (Leave number) out.datagrams lanes)
    each true e =
        let left : answer ≡ Left = held_left x number lanes l answer is answered.told e in
        absurd (true≢false (sym e ∙ sym (ap (leaves x (Leave number)) left) ∙ stays))
    each false e = record { stands = stands_without x number e l lanes.held is.stands; given = is.given }

-- the lane is given up: nothing leaves it then
pub record IsLeft (x : ℕ) (e : TunnelEvent) (lanes : PlainLanes) : Type 0 where
  pub gone : (sent : List Datagram) → IsGone x (moved_by e sent lanes)
  pub none : (answer : TunnelAnswer) (reply : List ℕ) → drained_by x e answer reply ≡ []

pub left_by : (x : ℕ) (lanes : PlainLanes) (l : Lane) (event : TunnelEvent) (answer : TunnelAnswer) → IsHeldAs x l lanes → leaves x event answer ≡ true
    → IsLeft x event lanes
left_by x lanes l (Inner event) answer is left = absurd (true≢false (sym left))
left_by x lanes l Enter answer is left = absurd (true≢false (sym left))
left_by x lanes l (Drain number) answer is left = absurd (true≢false (sym left))
left_by x lanes l (Leave number) (InnerAnswer a) is left = absurd (true≢false (sym left))
left_by x lanes l (Leave number) (GivenLane n) is left = absurd (true≢false (sym left))
left_by x lanes l (Leave number) Full is left = absurd (true≢false (sym left))
left_by x lanes l (Leave number) (Frames count) is left = absurd (true≢false (sym left))
left_by x lanes l (Leave number) Empty is left = absurd (true≢false (sym left))
left_by x lanes l (Leave number) Broken is left = absurd (true≢false (sym left))
left_by x lanes l (Leave number) Gone is left = absurd (true≢false (sym left))
left_by x lanes l (Leave number) Left is left = record {
  gone = λ sent. subst (λ m. IsGone x (moved_by (Leave m) sent lanes)) (sym (eqb-true number x left))
      (record { lacks = left_lacks x l lanes.held is.stands; given = is.given });
  none = λ answer reply. refl;
}

-- what a drain takes

drained_other : (x n : ℕ) (answer : TunnelAnswer) (reply : List ℕ) → (n == x) ≡ false → drained_by x (Drain n) answer reply ≡ []
drained_other x n (InnerAnswer a) reply e = refl
drained_other x n (GivenLane m) reply e = refl
drained_other x n Full reply e = refl
drained_other x n (Frames count) reply e = ap (λ b. cond b reply []) e
drained_other x n Empty reply e = refl
drained_other x n Broken reply e = refl
drained_other x n Gone reply e = refl
drained_other x n Left reply e = refl

told_frames : (x n : ℕ) (frames : List (List ℕ)) (broken : Bool) → (n == x) ≡ true
    → drained_by x (Drain n) (drain_told (lane_answer frames broken)) (concat (first_frames 65536 frames)) ≡ concat (first_frames 65536 frames ++ [])
told_frames x n [] true e = refl
told_frames x n [] false e = refl
told_frames x n (f ∷ fs) broken e =
    ap (λ b. cond b (concat (first_frames 65536 (f ∷ fs))) []) e ∙ ap concat (sym (append-nil (first_frames 65536 (f ∷ fs))))

drained_held : (x n : ℕ) (lanes : PlainLanes) (l : Lane) (answer : TunnelAnswer) (out : Output) → IsHeldAs x l lanes → IsAnswered lanes (Drain n) answer out
    → (b : Bool) → (n == x) ≡ b → drained_by x (Drain n) answer out.reply ≡ concat (all_leaving l (cond b (Leaves ∷ []) []))
drained_held x n lanes l answer out is answered true e =
    let found : lane_of n lanes.held ≡ Some l = ap (λ m. lane_of m lanes.held) (eqb-true n x e) ∙ stands_found x l lanes.held is.stands in
    let told : answer ≡ drain_told (lane_answer l.frames l.broken) = answered.told ∙ ap (λ o. drain_told (drain_answer o)) found in
    let wrote : out.reply ≡ concat (first_frames 65536 l.frames) = answered.writes.written ∙ ap (λ o. concat (taken_frames o)) found in
    ap (λ a. drained_by x (Drain n) a out.reply) told
    ∙ ap (drained_by x (Drain n) (drain_told (lane_answer l.frames l.broken))) wrote
    ∙ told_frames x n l.frames l.broken e
drained_held x n lanes l answer out is answered false e = drained_other x n answer out.reply e

pub went_by : (x : ℕ) (lanes : PlainLanes) (l : Lane) (event : TunnelEvent) (answer : TunnelAnswer) (out : Output) → IsHeldAs x l lanes
    → IsAnswered lanes event answer out
    → drained_by x event answer out.reply ≡ concat (all_leaving l (turns_by x event out.datagrams))
went_by x lanes l (Inner event) answer out is answered = ap concat (sym (none_leave x out.datagrams l))
went_by x lanes l Enter answer out is answered = refl
went_by x lanes l (Drain number) answer out is answered = drained_held x number lanes l answer out is answered (number == x) refl
went_by x lanes l (Leave number) answer out is answered = refl

-- a drain of a lane that isn't held
lacking_told : (x n : ℕ) (lanes : PlainLanes) (answer : TunnelAnswer) (out : Output) → Lacks x lanes.held → IsAnswered lanes (Drain n) answer out
    → (n == x) ≡ true → answer ≡ Gone
lacking_told x n lanes answer out lacks answered e =
    answered.told ∙ ap (λ o. drain_told (drain_answer o)) (ap (λ m. lane_of m lanes.held) (eqb-true n x e) ∙ lacks_none x lanes.held lacks)

pub none_went : (x : ℕ) (lanes : PlainLanes) (event : TunnelEvent) (answer : TunnelAnswer) (out : Output) → Lacks x lanes.held
    → IsAnswered lanes event answer out
    → drained_by x event answer out.reply ≡ []
none_went x lanes (Inner event) answer out lacks answered = refl
none_went x lanes Enter answer out lacks answered = refl
none_went x lanes (Drain number) answer out lacks answered = each (number == x) refl
  where
    each : (b : Bool) → (number == x) ≡ b → drained_by x (Drain number) answer out.reply ≡ []
    each true e = ap (λ a. drained_by x (Drain number) a out.reply) (lacking_told x number lanes answer out lacks answered e)
    each false e = drained_other x number answer out.reply e
none_went x lanes (Leave number) answer out lacks answered = refl

pub none_empty : (x : ℕ) (lanes : PlainLanes) (event : TunnelEvent) (answer : TunnelAnswer) (out : Output) → Lacks x lanes.held
    → IsAnswered lanes event answer out
    → drains x event ≡ true → answer ≡ Empty → ⊥
none_empty x lanes (Inner event) answer out lacks answered drained empty = true≢false (sym drained)
none_empty x lanes Enter answer out lacks answered drained empty = true≢false (sym drained)
none_empty x lanes (Drain number) answer out lacks answered drained empty = absurd
    (cc (sym empty ∙ lacking_told x number lanes answer out lacks answered drained))
none_empty x lanes (Leave number) answer out lacks answered drained empty = true≢false (sym drained)

-- a drain of a held lane that is answered that no frame waits
pub record IsEmptied (x : ℕ) (l : Lane) (event : TunnelEvent) : Type 0 where
  pub frames : l.frames ≡ []
  pub whole : l.broken ≡ false
  pub stays : (answer : TunnelAnswer) → leaves x event answer ≡ false
  pub none : (sent : List Datagram) → all_leaving l (turns_by x event sent) ≡ []

empty_told : (frames : List (List ℕ)) (broken : Bool) → drain_told (lane_answer frames broken) ≡ Empty → (frames ≡ []) × (broken ≡ false)
empty_told [] true e = absurd (cc e)
empty_told [] false e = (refl, refl)
empty_told (f ∷ fs) broken e = absurd (cc e)

pub held_empty : (x : ℕ) (lanes : PlainLanes) (l : Lane) (event : TunnelEvent) (answer : TunnelAnswer) (out : Output) → IsHeldAs x l lanes
    → IsAnswered lanes event answer out
    → drains x event ≡ true → answer ≡ Empty → IsEmptied x l event
held_empty x lanes l (Inner event) answer out is answered drained empty = absurd (true≢false (sym drained))
held_empty x lanes l Enter answer out is answered drained empty = absurd (true≢false (sym drained))
held_empty x lanes l (Drain number) answer out is answered drained empty =
    let found : lane_of number lanes.held ≡ Some l = ap (λ m. lane_of m lanes.held) (eqb-true number x drained) ∙ stands_found x l lanes.held is.stands in
    let both = empty_told l.frames l.broken (sym (answered.told ∙ ap (λ o. drain_told (drain_answer o)) found) ∙ empty) in
    record {
      frames = both.0;
      whole = both.1;
      stays = λ answer. refl;
      none = λ sent. ap (λ b. all_leaving l (cond b (Leaves ∷ []) [])) drained ∙ append-nil (first_frames 65536 l.frames) ∙ ap (first_frames 65536) both.0;
    }
held_empty x lanes l (Leave number) answer out is answered drained empty = absurd (true≢false (sym drained))
