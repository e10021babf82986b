-- The causes of a connection's ends.
use Rattle.std.proofs.Common.{◌≡◌, ◌≢◌, ◌∙◌, ℕ, List, [], ◌∷◌, ◌++◌, length, map, drop, refl, sym, ap, subst, inl, inr, ⊎_elim}
use Rattle.std.specs.Prelude.{◌⊎◌, ◌↔◌}
use Rattle.std.proofs.Math.Seq.{drop-append_seam}
use Rattle.std.proofs.lemmas.List.{map-append}
use Rattle.rand_chacha.specs.ChaCha.{ChaCha}
use Rattle.satip_base.specs.declared.identity.Draw.{Draw}
use Rattle.satip_base.specs.Lists.{Has}
use Rattle.satip_base.proofs.Elements.{Has-append_left}
use Rattle.satip_plain.specs.declared.events.Event.{Event}
use Rattle.satip_plain.specs.declared.events.Event.TheVariants.{Request as Asks, Get, Tick, Packet, Ended, Ask, Pull, Close, Stop}
use Rattle.satip_interleave.specs.declared.events.TunnelEvent.{TunnelEvent}
use Rattle.satip_interleave.specs.declared.events.TunnelEvent.TheVariants.{Inner, Enter, Drain, Leave}
use Rattle.satip_interleave.specs.declared.events.TunnelAnswer.{TunnelAnswer}
use Rattle.satip_interleave.specs.declared.events.TunnelAnswer.TheVariants.{Inner as InnerAnswer, Lane, Full as no_lane, Frames, Empty, Broken as lane_broken, Gone, Left}
use Rattle.satip_interleave.specs.Histories.{TunnelItem}
use Rattle.satip_world.specs.Lines.{Line}
use Rattle.satip_tunnel.specs.declared.ends.TunnelEnd.{TunnelEnd}
use Rattle.satip_tunnel.specs.declared.ends.TunnelEnd.TheVariants.{Full, Broken, Done, ReadFault, WriteFault, Spent}
use Rattle.satip_tunnel.specs.Walk.{Stance, Free, Draining, Over, Walk, Follows, FollowsAsked, DrainsTo, IsReplied}
use Rattle.satip_tunnel.specs.Seats.{Seat, SeesFull, made_since, IsAnsweredBy}
use Rattle.satip_tunnel.specs.Ends.{StopsAt, IsLeave, IsGivenUp, IsUnleft, Leaves}
use Rattle.satip_tunnel.specs.TunnelRun.{LaneRun, TunnelRun, EnteredRun}
use Rattle.satip_tunnel.specs.Served.{ServesTunnel}
use Rattle.satip_tunnel.specs.Causes.{HasCause, HeldLane, EndedSpent}

-- ---- what is answered on a walk

-- the answers of entries
abbrev answers : List TunnelItem → List TunnelAnswer
answers entries = map (λ (t : TunnelItem). t.answer) entries

has_split : {T : Type 0} (x : T) (xs ys : List T) → Has x (xs ++ ys) → Has x xs ⊎ Has x ys
has_split x [] ys has = inr has
has_split x (y ∷ xs) ys (inl here) = inl (inl here)
has_split x (y ∷ xs) ys (inr later) = ⊎_elim (λ (h : Has x xs). inl (inr h)) (λ (h : Has x ys). inr h) (has_split x xs ys later)

-- an answer of a walk is a reply, or one to a drain
abbrev IsOnWalk : TunnelAnswer → Type 0
IsOnWalk (InnerAnswer answer) = Unit {0}
IsOnWalk (Frames count) = Unit {0}
IsOnWalk Empty = Unit {0}
IsOnWalk Gone = Unit {0}
IsOnWalk lane_broken = Unit {0}
IsOnWalk _ = ⊥

reply_on_walk : (answer : TunnelAnswer) → IsReplied answer → IsOnWalk answer
reply_on_walk (InnerAnswer answer) is = tt
reply_on_walk (Lane lane) is = absurd is
reply_on_walk no_lane is = absurd is
reply_on_walk (Frames count) is = absurd is
reply_on_walk Empty is = absurd is
reply_on_walk lane_broken is = absurd is
reply_on_walk Gone is = absurd is
reply_on_walk Left is = absurd is

drain_on_walk : (answer : TunnelAnswer) (next : Stance) → DrainsTo answer next → IsOnWalk answer
drain_on_walk (InnerAnswer answer) next to = tt
drain_on_walk (Lane lane) next to = absurd to
drain_on_walk no_lane next to = absurd to
drain_on_walk (Frames count) next to = tt
drain_on_walk Empty next to = tt
drain_on_walk lane_broken next to = tt
drain_on_walk Gone next to = tt
drain_on_walk Left next to = absurd to

asked_on_walk : (lane : ℕ) (stance next : Stance) (event : Event) (answer : TunnelAnswer) → FollowsAsked lane stance event answer next → IsOnWalk answer
asked_on_walk lane stance next (Asks peer draw request) answer follows = reply_on_walk answer follows.2
asked_on_walk lane stance next (Get peer draw request) answer follows = absurd follows
asked_on_walk lane stance next (Tick now) answer follows = absurd follows
asked_on_walk lane stance next (Packet front tune packet) answer follows = absurd follows
asked_on_walk lane stance next (Ended front tune) answer follows = absurd follows
asked_on_walk lane stance next (Ask front) answer follows = absurd follows
asked_on_walk lane stance next (Pull session) answer follows = absurd follows
asked_on_walk lane stance next (Close session) answer follows = absurd follows
asked_on_walk lane stance next Stop answer follows = absurd follows

on_walk : (lane : ℕ) (stance next : Stance) (event : TunnelEvent) (answer : TunnelAnswer) → Follows lane stance event answer next → IsOnWalk answer
on_walk lane stance next (Inner event) answer follows = asked_on_walk lane stance next event answer follows
on_walk lane stance next Enter answer follows = absurd follows
on_walk lane stance next (Drain number) answer follows = drain_on_walk answer next follows.2
on_walk lane stance next (Leave number) answer follows = absurd follows

-- no lane is refused on it
walk_not_full : (lane : ℕ) (from to : Stance) (es : List TunnelItem) → Walk lane from es to → Has no_lane (answers es) → ⊥
walk_not_full lane from to [] walk has = has
walk_not_full lane from to (t ∷ es) walk (inl is) = subst IsOnWalk (sym is) (on_walk lane from walk.0 t.event t.answer walk.1)
walk_not_full lane from to (t ∷ es) walk (inr later) = walk_not_full lane walk.0 to es walk.2 later

-- behind a lane that is broken nothing follows
asked_over : (lane : ℕ) (next : Stance) (event : Event) (answer : TunnelAnswer) → FollowsAsked lane Over event answer next → ⊥
asked_over lane next (Asks peer draw request) answer follows = let e : Over ≡ Free = follows.1 in cc e
asked_over lane next (Get peer draw request) answer follows = follows
asked_over lane next (Tick now) answer follows = follows
asked_over lane next (Packet front tune packet) answer follows = follows
asked_over lane next (Ended front tune) answer follows = follows
asked_over lane next (Ask front) answer follows = follows
asked_over lane next (Pull session) answer follows = follows
asked_over lane next (Close session) answer follows = follows
asked_over lane next Stop answer follows = follows

over_ends : (lane : ℕ) (next : Stance) (event : TunnelEvent) (answer : TunnelAnswer) → Follows lane Over event answer next → ⊥
over_ends lane next (Inner event) answer follows = asked_over lane next event answer follows
over_ends lane next Enter answer follows = follows
over_ends lane next (Drain number) answer follows = follows.1
over_ends lane next (Leave number) answer follows = follows

walk_from_over : (lane : ℕ) (to : Stance) (es : List TunnelItem) → Walk lane Over es to → to ≡ Over
walk_from_over lane to [] walk = walk
walk_from_over lane to (t ∷ es) walk = absurd (over_ends lane walk.0 t.event t.answer walk.1)

-- a drain that is answered with a broken lane leads there
asked_not_broken : (lane : ℕ) (stance next : Stance) (event : Event) → FollowsAsked lane stance event lane_broken next → ⊥
asked_not_broken lane stance next (Asks peer draw request) follows = follows.2
asked_not_broken lane stance next (Get peer draw request) follows = follows
asked_not_broken lane stance next (Tick now) follows = follows
asked_not_broken lane stance next (Packet front tune packet) follows = follows
asked_not_broken lane stance next (Ended front tune) follows = follows
asked_not_broken lane stance next (Ask front) follows = follows
asked_not_broken lane stance next (Pull session) follows = follows
asked_not_broken lane stance next (Close session) follows = follows
asked_not_broken lane stance next Stop follows = follows

broken_leads : (lane : ℕ) (stance next : Stance) (event : TunnelEvent) → Follows lane stance event lane_broken next → next ≡ Over
broken_leads lane stance next (Inner event) follows = absurd (asked_not_broken lane stance next event follows)
broken_leads lane stance next Enter follows = absurd follows
broken_leads lane stance next (Drain number) follows = follows.2
broken_leads lane stance next (Leave number) follows = absurd follows

walk_to_over : (lane : ℕ) (from to : Stance) (es : List TunnelItem) → Walk lane from es to → Has lane_broken (answers es) → to ≡ Over
walk_to_over lane from to [] walk has = absurd has
walk_to_over lane from to (t ∷ es) walk (inl is) =
    let A : TunnelAnswer → Type 0 = λ a. Follows lane from t.event a walk.0 in
    let there = broken_leads lane from walk.0 t.event (subst A (sym is) walk.1) in
    let P : Stance → Type 0 = λ s. Walk lane s es to in
    walk_from_over lane to es (subst P there walk.2)
walk_to_over lane from to (t ∷ es) walk (inr later) = walk_to_over lane walk.0 to es walk.2 later

-- and nothing else does
drain_breaks : (answer : TunnelAnswer) → DrainsTo answer Over → lane_broken ≡ answer
drain_breaks (InnerAnswer answer) to = absurd to
drain_breaks (Lane lane) to = absurd to
drain_breaks no_lane to = absurd to
drain_breaks (Frames count) to = cc to
drain_breaks Empty to = cc to
drain_breaks lane_broken to = refl
drain_breaks Gone to = cc to
drain_breaks Left to = absurd to

asked_goes_on : (lane : ℕ) (stance : Stance) (event : Event) (answer : TunnelAnswer) → FollowsAsked lane stance event answer Over → ⊥
asked_goes_on lane stance (Asks peer draw request) answer follows = let e : Over ≡ Draining = follows.3 in cc e
asked_goes_on lane stance (Get peer draw request) answer follows = follows
asked_goes_on lane stance (Tick now) answer follows = follows
asked_goes_on lane stance (Packet front tune packet) answer follows = follows
asked_goes_on lane stance (Ended front tune) answer follows = follows
asked_goes_on lane stance (Ask front) answer follows = follows
asked_goes_on lane stance (Pull session) answer follows = follows
asked_goes_on lane stance (Close session) answer follows = follows
asked_goes_on lane stance Stop answer follows = follows

leads_to_over : (lane : ℕ) (stance : Stance) (event : TunnelEvent) (answer : TunnelAnswer) → Follows lane stance event answer Over → lane_broken ≡ answer
leads_to_over lane stance (Inner event) answer follows = absurd (asked_goes_on lane stance event answer follows)
leads_to_over lane stance Enter answer follows = absurd follows
leads_to_over lane stance (Drain number) answer follows = drain_breaks answer follows.2
leads_to_over lane stance (Leave number) answer follows = absurd follows

over_by_next : (lane : ℕ) (from next : Stance) (t : TunnelItem) (es : List TunnelItem)
    → ((mid : Stance) → mid ≢ Over → Walk lane mid es Over → Has lane_broken (answers es))
    → Follows lane from t.event t.answer next → Walk lane next es Over → Has lane_broken (answers (t ∷ es))
over_by_next lane from Free t es later follows rest = inr (later Free (λ e. cc e) rest)
over_by_next lane from Draining t es later follows rest = inr (later Draining (λ e. cc e) rest)
over_by_next lane from Over t es later follows rest = inl (leads_to_over lane from t.event t.answer follows)

over_was_broken : (lane : ℕ) (from : Stance) (es : List TunnelItem) → from ≢ Over → Walk lane from es Over → Has lane_broken (answers es)
over_was_broken lane from [] going walk = absurd (going (sym walk))
over_was_broken lane from (t ∷ es) going walk =
    over_by_next lane from walk.0 t es (λ mid on rest. over_was_broken lane mid es on rest) walk.1 walk.2

-- ---- the Leave

given_up_not_full : (answer : TunnelAnswer) → IsGivenUp answer → no_lane ≡ answer → ⊥
given_up_not_full answer given is = subst IsGivenUp (sym is) given

given_up_not_broken : (answer : TunnelAnswer) → IsGivenUp answer → lane_broken ≡ answer → ⊥
given_up_not_broken answer given is = subst IsGivenUp (sym is) given

-- it is answered neither so nor so
IsPlain : List TunnelItem → Type 0
IsPlain last = (Has no_lane (answers last) → ⊥) × (Has lane_broken (answers last) → ⊥)

leave_plain : (lane : ℕ) (last : List TunnelItem) → IsLeave lane last → IsPlain last
unfolding IsPlain
leave_plain lane [] leave = absurd leave
leave_plain lane (t ∷ []) leave = (
  λ has. ⊎_elim (λ (e : no_lane ≡ t.answer). given_up_not_full t.answer leave.1 e) (λ (none : ⊥). none) has,
  λ has. ⊎_elim (λ (e : lane_broken ≡ t.answer). given_up_not_broken t.answer leave.1 e) (λ (none : ⊥). none) has,
)
leave_plain lane (t ∷ u ∷ ts) leave = absurd leave

unleft_plain : (full : Type 0) (last : List TunnelItem) → IsUnleft full last → IsPlain last
unfolding IsPlain
unleft_plain full last unleft =
    let P : List TunnelItem → Type 0 = λ es. (Has no_lane (answers es) → ⊥) × (Has lane_broken (answers es) → ⊥) in
    subst P (sym unleft.0) (λ none. none, λ none. none)

last_plain : (lane : ℕ) (full : Type 0) (end : TunnelEnd) (last : List TunnelItem) → Leaves lane full end last → IsPlain last
last_plain lane full Full last leaves = absurd leaves
last_plain lane full Broken last (inl leave) = leave_plain lane last leave
last_plain lane full Broken last (inr unleft) = unleft_plain full last unleft
last_plain lane full Done last leaves = leave_plain lane last leaves
last_plain lane full ReadFault last leaves = leave_plain lane last leaves
last_plain lane full WriteFault last (inl leave) = leave_plain lane last leave
last_plain lane full WriteFault last (inr unleft) = unleft_plain full last unleft
last_plain lane full Spent last leaves = unleft_plain full last leaves

-- ---- the run

over_is_broken : (end : TunnelEnd) → StopsAt end Over → end ≡ Broken
over_is_broken Full stops = absurd stops
over_is_broken Broken stops = refl
over_is_broken Done stops = cc stops
over_is_broken ReadFault stops = cc stops
over_is_broken WriteFault stops = cc stops
over_is_broken Spent stops = absurd stops

lane_end : (end : TunnelEnd) (stance : Stance) → StopsAt end stance → end ≢ Full
lane_end Full stance stops e = stops
lane_end Broken stance stops e = cc e
lane_end Done stance stops e = cc e
lane_end ReadFault stance stops e = cc e
lane_end WriteFault stance stops e = cc e
lane_end Spent stance stops e = cc e

broken_stops : (end : TunnelEnd) (stance : Stance) → end ≡ Broken → StopsAt end stance → stance ≡ Over
broken_stops Full stance e stops = cc e
broken_stops Broken stance e stops = stops
broken_stops Done stance e stops = cc e
broken_stops ReadFault stance e stops = cc e
broken_stops WriteFault stance e stops = cc e
broken_stops Spent stance e stops = cc e

spent_leaves : (lane : ℕ) (full : Type 0) (end : TunnelEnd) (last : List TunnelItem) → end ≡ Spent → Leaves lane full end last → IsUnleft full last
spent_leaves lane full end last e leaves = subst (λ (x : TunnelEnd). Leaves lane full x last) e leaves

module _ (lane : ℕ) (draws : List Draw) (received sent : List ℕ) (full : Type 0) (end : TunnelEnd) (entries : List TunnelItem)
    (run : LaneRun lane draws received sent full end entries) where
  -- the answers of a lane's connection
  told : answers entries ≡ answers run.body ++ answers run.last
  told =
      ap (λ (es : List TunnelItem). answers es) run.entries_are ∙ map-append (λ (t : TunnelItem). t.answer) run.body run.last

  lane_not_full : Has no_lane (answers entries) → ⊥
  unfolding IsPlain
  lane_not_full has =
      let plain = last_plain lane full end run.last run.leaves in
      let split = has_split no_lane (answers run.body) (answers run.last) (subst (λ (xs : List TunnelAnswer). Has no_lane xs) told has) in
      ⊎_elim (λ (h : Has no_lane (answers run.body)). walk_not_full lane Free run.stance run.body run.walk h)
      (λ (h : Has no_lane (answers run.last)). plain.0 h) split

  lane_broke : Has lane_broken (answers entries) → end ≡ Broken
  unfolding IsPlain
  lane_broke has =
      let plain = last_plain lane full end run.last run.leaves in
      let split = has_split lane_broken (answers run.body) (answers run.last) (subst (λ (xs : List TunnelAnswer). Has lane_broken xs) told has) in
      let P : Stance → Type 0 = λ s. StopsAt end s in
      ⊎_elim (λ (h : Has lane_broken (answers run.body)).
      over_is_broken end (subst P (walk_to_over lane Free run.stance run.body run.walk h) run.stops))
      (λ (h : Has lane_broken (answers run.last)). absurd (plain.1 h)) split

  lane_has_broken : end ≡ Broken → Has lane_broken (answers entries)
  lane_has_broken is =
      let over = broken_stops end run.stance is run.stops in
      let P : Stance → Type 0 = λ s. Walk lane Free run.body s in
      let has = over_was_broken lane Free run.body (λ e. cc e) (subst P over run.walk) in
      subst (λ (xs : List TunnelAnswer). Has lane_broken xs) (sym told) (Has-append_left lane_broken (answers run.body) (answers run.last) has)

module _ (draws : List Draw) (received sent : List ℕ) (full : Type 0) (end : TunnelEnd) where
  -- a connection is turned away exactly where an event was answered so
  entered_full : (answer : TunnelAnswer) (entries : List TunnelItem) → EnteredRun answer draws received sent full end entries
      → (end ≡ Full) ↔ Has no_lane (answer ∷ answers entries)
  entered_full (Lane lane) entries run = (
    λ e. absurd (lane_end end run.stance run.stops e),
    λ has. ⊎_elim (λ (e : no_lane ≡ Lane lane). absurd (cc e)) (λ (h : Has no_lane (answers entries)).
        absurd (lane_not_full lane draws received sent full end entries run h)) has,
  )
  entered_full no_lane entries run = (λ e. inl refl, λ has. run.1.end_is)
  entered_full (InnerAnswer answer) entries run = absurd run
  entered_full (Frames count) entries run = absurd run
  entered_full Empty entries run = absurd run
  entered_full lane_broken entries run = absurd run
  entered_full Gone entries run = absurd run
  entered_full Left entries run = absurd run

  run_full : (entries : List TunnelItem) → TunnelRun draws received sent full end entries → (end ≡ Full) ↔ IsAnsweredBy no_lane entries
  run_full [] run = (λ e. absurd (let is = run.1.end_is in cc (e, is)), λ has. absurd has)
  run_full (t ∷ ts) run = entered_full t.answer ts run.1

  -- its lane broke exactly where an event was answered so
  entered_broken : (answer : TunnelAnswer) (entries : List TunnelItem) → EnteredRun answer draws received sent full end entries
      → (end ≡ Broken) ↔ Has lane_broken (answer ∷ answers entries)
  entered_broken (Lane lane) entries run = (
    λ e. inr (lane_has_broken lane draws received sent full end entries run e),
    λ has. ⊎_elim (λ (e : lane_broken ≡ Lane lane). absurd (cc e)) (λ (h : Has lane_broken (answers entries)).
        lane_broke lane draws received sent full end entries run h) has,
  )
  entered_broken no_lane entries run = (
    λ e. absurd (let is = run.1.end_is in cc (e, is)),
    λ has. ⊎_elim (λ (e : lane_broken ≡ no_lane). absurd (cc e)) (λ (h : Has lane_broken (answers entries)).
        let P : List TunnelItem → Type 0 = λ es. Has lane_broken (answers es) in
        absurd (subst P run.1.none h)) has,
  )
  entered_broken (InnerAnswer answer) entries run = absurd run
  entered_broken (Frames count) entries run = absurd run
  entered_broken Empty entries run = absurd run
  entered_broken lane_broken entries run = absurd run
  entered_broken Gone entries run = absurd run
  entered_broken Left entries run = absurd run

  pub run_broken : (entries : List TunnelItem) → TunnelRun draws received sent full end entries → (end ≡ Broken) ↔ IsAnsweredBy lane_broken entries
  run_broken [] run = (λ e. absurd (let is = run.1.end_is in cc (e, is)), λ has. absurd has)
  run_broken (t ∷ ts) run = entered_broken t.answer ts run.1

  -- the history is full at a stop
  entered_spent : (answer : TunnelAnswer) (entries : List TunnelItem) → EnteredRun answer draws received sent full end entries → end ≡ Spent
      → full
  entered_spent (Lane lane) entries run e = (spent_leaves lane full end run.last e run.leaves).1
  entered_spent no_lane entries run e = absurd (let is = run.1.end_is in cc (e, is))
  entered_spent (InnerAnswer answer) entries run e = absurd run
  entered_spent (Frames count) entries run e = absurd run
  entered_spent Empty entries run e = absurd run
  entered_spent lane_broken entries run e = absurd run
  entered_spent Gone entries run e = absurd run
  entered_spent Left entries run e = absurd run

  run_spent : (entries : List TunnelItem) → TunnelRun draws received sent full end entries → end ≡ Spent → full
  run_spent [] run e = run.1.filled
  run_spent (t ∷ ts) run e = entered_spent t.answer ts run.1 e

-- ---- the cause of each end

module _ (tells : Type 0) (before after : ChaCha) (o n : Seat) (l m : Line) where
  held : (end : TunnelEnd) (s : ServesTunnel tells before after o n l m end) → end ≢ Full → end ≢ Broken → HeldLane s.entries
  held end s given unbroken = record {
    given = λ has. given ((run_full s.draws s.received s.sent (SeesFull n) end s.entries s.run).1 has);
    unbroken = λ has. unbroken ((run_broken s.draws s.received s.sent (SeesFull n) end s.entries s.run).1 has);
  }

  caused : (end : TunnelEnd) (s : ServesTunnel tells before after o n l m end) → HasCause end s.entries l m (SeesFull n)
  caused Full s = record {
    refused = (run_full s.draws s.received s.sent (SeesFull n) Full s.entries s.run).0 refl;
    unbroken = λ has. let e = (run_broken s.draws s.received s.sent (SeesFull n) Full s.entries s.run).1 has in cc e;
  }
  caused Broken s = record {
    given = λ has. let e = (run_full s.draws s.received s.sent (SeesFull n) Broken s.entries s.run).1 has in cc e;
    broke = (run_broken s.draws s.received s.sent (SeesFull n) Broken s.entries s.run).0 refl;
  }
  caused Done s = record { held = held Done s (λ e. cc e) (λ e. cc e); well = s.line_ends }
  caused ReadFault s = record { held = held ReadFault s (λ e. cc e) (λ e. cc e); failed = s.line_ends }
  caused WriteFault s = record { held = held WriteFault s (λ e. cc e) (λ e. cc e); failed = s.line_ends }
  caused Spent s = record {
    held = held Spent s (λ e. cc e) (λ e. cc e);
    filled = run_spent s.draws s.received s.sent (SeesFull n) Spent s.entries s.run refl;
  }

  pub has_cause : (end : TunnelEnd) (s : ServesTunnel tells before after o n l m end) → HasCause end (made_since o.pass n.pass) l m (SeesFull n)
  has_cause end s =
      let since : made_since o.pass n.pass ≡ s.entries =
      ap (λ (h : List TunnelItem). drop (length o.pass.own) h) s.grows.own ∙ drop-append_seam o.pass.own s.entries in
      let P : List TunnelItem → Type 0 = λ es. HasCause end es l m (SeesFull n) in
      subst P (sym since) (caused end s)

-- a connection that ended by a full history saw it
pub spent_filled : (end : TunnelEnd) (made : List TunnelItem) (l m : Line) (full : Type 0) → end ≡ Spent → HasCause end made l m full → full
spent_filled end made l m full is cause =
    let P : TunnelEnd → Type 0 = λ e. HasCause e made l m full in
    let spent : EndedSpent made full = subst P is cause in
    spent.filled
