-- The run of a connection drains its own lane, and its wire is its pieces.
use Rattle.std.proofs.Common.{◌≡◌, ◌∙◌, ℕ, ◌==◌, true, List, [], ◌∷◌, ◌++◌, if◌then◌else◌, append-nil, append_assoc, refl, sym, ap, subst, inl, ⊎_elim}
use Rattle.std.proofs.lemmas.Bool.Decides.{eqb_tells}
use Rattle.satip_base.specs.declared.identity.Draw.{Draw}
use Rattle.satip_base.specs.Output.{Output}
use Rattle.satip_base.specs.Lists.{Each, Has}
use Rattle.satip_base.proofs.Elements.{Each-append, Has-append_left, Has-append_right}
use Rattle.satip_interleave.specs.declared.events.TunnelEvent.{TunnelEvent}
use Rattle.satip_interleave.specs.declared.events.TunnelEvent.TheVariants.{Inner, Enter, Drain, Leave}
use Rattle.satip_interleave.specs.declared.events.TunnelAnswer.{TunnelAnswer}
use Rattle.satip_interleave.specs.declared.events.TunnelAnswer.TheVariants.{Inner as InnerAnswer, Lane, Full, Frames, Empty, Broken, Gone, Left}
use Rattle.satip_interleave.specs.Histories.{TunnelItem}
use Rattle.satip_tunnel_laws.specs.LaneFrames.{drained, drained_by, enters}
use Rattle.satip_tunnel_laws.specs.Owners.{ConnectionsTakeFirst, EntersDrainOwn, IsGivenTo, IsOfGiven, given_by}
use Rattle.satip_tunnel_laws.proofs.Owning.{among_own}
use Rattle.satip_tunnel.specs.declared.ends.TunnelEnd.{TunnelEnd}
use Rattle.satip_tunnel.specs.declared.ends.TunnelEnd.TheVariants.{Full as end_full, Broken as end_broken, Done as end_done, ReadFault as end_unread, WriteFault as end_lost, Spent as end_spent}
use Rattle.satip_tunnel.specs.Ends.{IsLeave, Leaves}
use Rattle.satip_tunnel.specs.TunnelRun.{EnteredRun, LaneRun, TunnelRun}
use Rattle.satip_tunnel.specs.Walk.{Follows, Stance, Walk}
use Rattle.satip_tunnel.specs.Wire.{sent_by, wire}
use Rattle.satip_tunnel_serve.specs.Wires.{Framed, Piece, Reply, RunsDrainOwn, WiresHaveLanes, frames_of, pieces, pieces_by}

-- the lane of a run

abbrev AreOf : ℕ → List TunnelItem → Type 0
AreOf x es = Each (λ (u : TunnelItem). IsOfGiven (x ∷ []) u.event) es

follows_own : (x : ℕ) (event : TunnelEvent) (answer : TunnelAnswer) (stance next : Stance) → Follows x stance event answer next → IsOfGiven (x ∷ []) event
follows_own x (Inner event) answer stance next follows = tt
follows_own x Enter answer stance next follows = tt
follows_own x (Drain number) answer stance next follows = inl follows.0
follows_own x (Leave number) answer stance next follows = absurd follows

walk_own : (x : ℕ) (es : List TunnelItem) (stance last : Stance) → Walk x stance es last → AreOf x es
walk_own x [] stance last walk = tt
walk_own x (t ∷ ts) stance last walk = (follows_own x t.event t.answer stance walk.0 walk.1, walk_own x ts walk.0 last walk.2)

leave_own : (x : ℕ) (es : List TunnelItem) → IsLeave x es → AreOf x es
leave_own x [] leave = absurd leave
leave_own x (t ∷ []) leave = (subst (IsOfGiven (x ∷ [])) (sym leave.0) (inl refl), tt)
leave_own x (t ∷ u ∷ ts) leave = absurd leave

none_own : (x : ℕ) (es : List TunnelItem) → es ≡ [] → AreOf x es
none_own x es none = subst (AreOf x) (sym none) tt

leaves_own : (x : ℕ) (full : Type 0) (end : TunnelEnd) (es : List TunnelItem) → Leaves x full end es → AreOf x es
leaves_own x full end_full es leaves = absurd leaves
leaves_own x full end_broken es leaves = ⊎_elim (λ is. leave_own x es is) (λ is. none_own x es is.0) leaves
leaves_own x full end_done es leaves = leave_own x es leaves
leaves_own x full end_unread es leaves = leave_own x es leaves
leaves_own x full end_lost es leaves = ⊎_elim (λ is. leave_own x es is) (λ is. none_own x es is.0) leaves
leaves_own x full end_spent es leaves = none_own x es leaves.0

lane_own : (x : ℕ) (draws : List Draw) (received sent : List ℕ) (full : Type 0) (end : TunnelEnd) (es : List TunnelItem)
    → LaneRun x draws received sent full end es → AreOf x es
lane_own x draws received sent full end es run =
    subst (AreOf x) (sym run.entries_are)
    (Each-append (λ (u : TunnelItem). IsOfGiven (x ∷ []) u.event) run.body run.last
    (walk_own x run.body _ run.stance run.walk) (leaves_own x full end run.last run.leaves))

-- behind an Enter
entered_own : (event : TunnelEvent) (answer : TunnelAnswer) (draws : List Draw) (received sent : List ℕ) (full : Type 0) (end : TunnelEnd) (es : List TunnelItem)
    → event ≡ Enter → EnteredRun answer draws received sent full end es → Each (λ (u : TunnelItem). IsOfGiven (given_by event answer) u.event) es
entered_own event answer draws received sent full end es is run =
    subst (λ e. Each (λ (u : TunnelItem). IsOfGiven (given_by e answer) u.event) es) (sym is) (by answer run)
  where
    none : (given : List ℕ) → es ≡ [] → Each (λ (u : TunnelItem). IsOfGiven given u.event) es
    none given e = subst (Each (λ (u : TunnelItem). IsOfGiven given u.event)) (sym e) tt

    by : (answer : TunnelAnswer) → EnteredRun answer draws received sent full end es → Each (λ (u : TunnelItem). IsOfGiven (given_by Enter answer) u.event) es
    by (Lane number) run = lane_own number draws received sent full end es run
    by Full run = none [] run.1.none
    by (InnerAnswer a) run = absurd run
    by (Frames count) run = absurd run
    by Empty run = absurd run
    by Broken run = absurd run
    by Gone run = absurd run
    by Left run = absurd run

pub runs_drain_own : EntersDrainOwn → RunsDrainOwn
runs_drain_own own draws received sent end [] run = tt
runs_drain_own own draws received sent end (t ∷ ts) run =
    own t ts run.0 (entered_own t.event t.answer draws received sent (Unit {0}) end ts run.0 run.1)

-- pieces

-- all bytes of pieces
abbrev pub bytes_of : List Piece → List ℕ
bytes_of [] = []
bytes_of (Reply bytes ∷ ps) = bytes ++ bytes_of ps
bytes_of (Framed bytes ∷ ps) = bytes ++ bytes_of ps

bytes_of-append : (a b : List Piece) → bytes_of (a ++ b) ≡ bytes_of a ++ bytes_of b
bytes_of-append [] b = refl
bytes_of-append (Reply bytes ∷ ps) b = ap (λ rest. bytes ++ rest) (bytes_of-append ps b) ∙ sym (append_assoc bytes (bytes_of ps) (bytes_of b))
bytes_of-append (Framed bytes ∷ ps) b = ap (λ rest. bytes ++ rest) (bytes_of-append ps b) ∙ sym (append_assoc bytes (bytes_of ps) (bytes_of b))

frames_of-append : (a b : List Piece) → frames_of (a ++ b) ≡ frames_of a ++ frames_of b
frames_of-append [] b = refl
frames_of-append (Reply bytes ∷ ps) b = frames_of-append ps b
frames_of-append (Framed bytes ∷ ps) b = ap (λ rest. bytes ++ rest) (frames_of-append ps b) ∙ sym (append_assoc bytes (frames_of ps) (frames_of b))

one_wire : (event : TunnelEvent) (answer : TunnelAnswer) (out : Output) → bytes_of (pieces_by event answer out) ≡ sent_by event answer out
one_wire (Inner event) answer out = append-nil _
one_wire Enter answer out = refl
one_wire (Drain number) (InnerAnswer a) out = refl
one_wire (Drain number) (Lane n) out = refl
one_wire (Drain number) Full out = refl
one_wire (Drain number) (Frames count) out = append-nil out.reply
one_wire (Drain number) Empty out = refl
one_wire (Drain number) Broken out = refl
one_wire (Drain number) Gone out = refl
one_wire (Drain number) Left out = refl
one_wire (Leave number) answer out = refl

pub wire_is : (es : List TunnelItem) → bytes_of (pieces es) ≡ wire es
wire_is [] = refl
wire_is (t ∷ ts) =
    bytes_of-append (pieces_by t.event t.answer t.out) (pieces ts)
    ∙ ap (λ front. front ++ bytes_of (pieces ts)) (one_wire t.event t.answer t.out)
    ∙ ap (λ back. sent_by t.event t.answer t.out ++ back) (wire_is ts)

same_numbers : (a b : ℕ) → a ≡ b → (a == b) ≡ true
same_numbers a b same = ⊎_elim (λ t. t.0) (λ t. absurd (t.1 same)) (eqb_tells a b)

in_one : (n x : ℕ) → Has n (x ∷ []) → n ≡ x
in_one n x has = ⊎_elim (λ same. same) (λ none. absurd none) has

one_drained : (x : ℕ) (event : TunnelEvent) (answer : TunnelAnswer) (out : Output) → IsOfGiven (x ∷ []) event
    → drained_by x event answer out.reply ≡ frames_of (pieces_by event answer out)
one_drained x (Inner event) answer out own = refl
one_drained x Enter answer out own = refl
one_drained x (Drain number) (InnerAnswer a) out own = refl
one_drained x (Drain number) (Lane n) out own = refl
one_drained x (Drain number) Full out own = refl
one_drained x (Drain number) (Frames count) out own =
    ap (λ b. if b then out.reply else []) (same_numbers number x (in_one number x own)) ∙ sym (append-nil out.reply)
one_drained x (Drain number) Empty out own = refl
one_drained x (Drain number) Broken out own = refl
one_drained x (Drain number) Gone out own = refl
one_drained x (Drain number) Left out own = refl
one_drained x (Leave number) answer out own = refl

drained_is : (x : ℕ) (es : List TunnelItem) → AreOf x es → drained es x ≡ frames_of (pieces es)
drained_is x [] own = refl
drained_is x (t ∷ ts) own =
    ap (λ front. front ++ drained ts x) (one_drained x t.event t.answer t.out own.0)
    ∙ ap (λ back. frames_of (pieces_by t.event t.answer t.out) ++ back) (drained_is x ts own.1)
    ∙ sym (frames_of-append (pieces_by t.event t.answer t.out) (pieces ts))

-- the lane of a connection

record IsOwnRun (x : ℕ) (t : TunnelItem) (ts : List TunnelItem) : Type 0 where
  event : t.event ≡ Enter
  rest : AreOf x ts

run_of : (x : ℕ) (draws : List Draw) (received sent : List ℕ) (full : Type 0) (end : TunnelEnd) (t : TunnelItem) (ts : List TunnelItem) → t.answer ≡ Lane x
    → TunnelRun draws received sent full end (t ∷ ts) → IsOwnRun x t ts
run_of x draws received sent full end t ts given run = record {
  event = run.0;
  rest = lane_own x draws received sent full end ts (subst (λ a. EnteredRun a draws received sent full end ts) given run.1);
}

pub wires_have_lanes : ConnectionsTakeFirst → WiresHaveLanes
wires_have_lanes takes c h before entries numbers caller x draws received sent end legal callers part run given =
    let t : TunnelItem = given.first in
    let ts : List TunnelItem = given.rest in
    let own = run_of x draws received sent (Unit {0}) end t ts given.given (subst (TunnelRun draws received sent (Unit {0}) end) given.whole run) in
    let gives : enters x t.event t.answer ≡ true =
    ap (λ e. enters x e t.answer) own.event ∙ ap (enters x Enter) given.given ∙ same_numbers x x refl in
    let in_entries : Has t entries = subst (Has t) (sym given.whole) (inl refl) in
    let among = among_own caller h t (subst (Has t) (sym part.whole)
    (Has-append_right t before (entries ++ part.after) (Has-append_left t entries part.after in_entries))) in
    let has : IsGivenTo caller x entries = record { item = t; has = in_entries; given = gives; is_of = among.is_of } in
    let is = takes c h before entries numbers caller x legal callers part has in
    let whole_own : AreOf x entries = subst (AreOf x) (sym given.whole) (subst (IsOfGiven (x ∷ [])) (sym own.event) tt, own.rest) in
    record {
      taken = is.taken;
      joined = is.joined ∙ drained_is x entries whole_own;
      first = is.first;
      all = is.all;
    }
