-- The replies of each connection of a tunnel have the form of replies.
use Rattle.std.proofs.Common.{◌≡◌, ◌∙◌, ℕ, List, [], ◌∷◌, ◌++◌, refl, sym, ap, subst, ⊎_elim}
use Rattle.satip_base.specs.declared.identity.Draw.{Draw}
use Rattle.satip_base.specs.Output.{Output}
use Rattle.satip_base.specs.History.{entry}
use Rattle.satip_base.specs.Lists.{Each, Has}
use Rattle.satip_base.proofs.Elements.{Has-append_left, Has-append_right, each_at, each_has}
use Rattle.satip_interleave.specs.declared.events.TunnelEvent.{TunnelEvent}
use Rattle.satip_interleave.specs.declared.events.TunnelEvent.TheVariants.{Inner, Enter, Drain, Leave}
use Rattle.satip_interleave.specs.declared.events.TunnelAnswer.{TunnelAnswer}
use Rattle.satip_interleave.specs.declared.events.TunnelAnswer.TheVariants.{Inner as InnerAnswer, Lane, Full as no_lane, Frames, Empty, Broken, Gone, Left}
use Rattle.satip_interleave.specs.Histories.{TunnelItem, inners}
use Rattle.satip_plain.specs.declared.events.Event.{Event}
use Rattle.satip_plain.specs.declared.events.Event.TheVariants.{Request as Asks, Get, Tick, Packet, Ended, Ask, Pull, Close, Stop}
use Rattle.satip_plain.specs.Histories.{Item}
use Rattle.satip_rtsp_interleaved.specs.Turned.{turned}
use Rattle.satip_tunnel.specs.declared.ends.TunnelEnd.{TunnelEnd}
use Rattle.satip_tunnel.specs.TunnelRun.{EnteredRun, LaneRun, TunnelRun}
use Rattle.satip_tunnel.specs.Walk.{Follows, FollowsAsked, IsReplied, Stance, Walk}
use Rattle.satip_tunnel_laws.specs.Answered.{HasReply, HistoriesReply, KeepsPlain}
use Rattle.satip_tunnel_serve.specs.RunReplies.{RunsReply}
use Rattle.satip_tunnel_laws.specs.Pieces.{IsReply}
use Rattle.satip_tunnel_serve.specs.Splits.{AreReplies}
use Rattle.satip_tunnel_serve.specs.Wires.{Piece, pieces, pieces_by}
use Rattle.satip_tunnel_serve.proofs.AskedOn.{AskedWithin, has_inner, has_split, last_no_request, run_asked}
use Rattle.satip_tunnel_laws.proofs.Owning.{among_own}
use Rattle.satip_tunnel_laws.proofs.PieceTurning.{turned_reply}

-- pieces

-- what is sent for an event of the server is a reply
abbrev IsSentReply : TunnelEvent → Output → Type 0
IsSentReply (Inner event) out = IsReply (turned out.reply)
IsSentReply event out = Unit {0}

one_are : (event : TunnelEvent) (answer : TunnelAnswer) (out : Output) (rest : List Piece) → IsSentReply event out → AreReplies rest
    → AreReplies (pieces_by event answer out ++ rest)
one_are (Inner event) answer out rest is are = (is, are)
one_are Enter answer out rest is are = are
one_are (Drain number) (InnerAnswer a) out rest is are = are
one_are (Drain number) (Lane n) out rest is are = are
one_are (Drain number) no_lane out rest is are = are
one_are (Drain number) (Frames count) out rest is are = are
one_are (Drain number) Empty out rest is are = are
one_are (Drain number) Broken out rest is are = are
one_are (Drain number) Gone out rest is are = are
one_are (Drain number) Left out rest is are = are
one_are (Leave number) answer out rest is are = are

all_are : (es : List TunnelItem) → Each (λ (t : TunnelItem). IsSentReply t.event t.out) es → AreReplies (pieces es)
all_are [] each = tt
all_are (t ∷ ts) each = one_are t.event t.answer t.out (pieces ts) each.0 (all_are ts each.1)

-- the events of the server in the run of a connection are requests, which the server answers

abbrev IsAsking : Event → TunnelAnswer → Type 0
IsAsking (Asks peer draw request) answer = IsReplied answer
IsAsking event answer = ⊥

follows_asking : (lane : ℕ) (from next : Stance) (event : Event) (answer : TunnelAnswer) → FollowsAsked lane from event answer next → IsAsking event answer
follows_asking lane from next (Asks peer draw request) answer follows = follows.2
follows_asking lane from next (Get peer draw request) answer follows = follows
follows_asking lane from next (Tick now) answer follows = follows
follows_asking lane from next (Packet front tune packet) answer follows = follows
follows_asking lane from next (Ended front tune) answer follows = follows
follows_asking lane from next (Ask front) answer follows = follows
follows_asking lane from next (Pull id) answer follows = follows
follows_asking lane from next (Close id) answer follows = follows
follows_asking lane from next Stop answer follows = follows

walk_asking : (lane : ℕ) (from to : Stance) (es : List TunnelItem) (t : TunnelItem) (event : Event) → Walk lane from es to → Has t es
    → t.event ≡ Inner event → IsAsking event t.answer
walk_asking lane from to [] t event walk has is = absurd has
walk_asking lane from to (u ∷ us) t event walk has is =
    ⊎_elim (λ (same : t ≡ u).
    let F : TunnelEvent → Type 0 = λ e. Follows lane from e u.answer walk.0 in
    subst (λ (v : TunnelItem). IsAsking event v.answer) (sym same)
    (follows_asking lane from walk.0 event u.answer (subst F (ap (λ (v : TunnelItem). v.event) (sym same) ∙ is) walk.1)))
    (λ (later : Has t us). walk_asking lane walk.0 to us t event walk.2 later is) has

lane_asking : (lane : ℕ) (draws : List Draw) (received sent : List ℕ) (full : Type 0) (end : TunnelEnd) (es : List TunnelItem) (t : TunnelItem)
    (event : Event) → LaneRun lane draws received sent full end es → Has t es → t.event ≡ Inner event → IsAsking event t.answer
lane_asking lane draws received sent full end es t event run has is =
    ⊎_elim (λ (in_body : Has t run.body). walk_asking lane _ run.stance run.body t event run.walk in_body is)
    (λ (in_last : Has t run.last). absurd (last_no_request lane full end run.last t event run.leaves in_last is))
    (has_split t run.body run.last (subst (λ (xs : List TunnelItem). Has t xs) run.entries_are has))

entered_asking : (answered : TunnelAnswer) (draws : List Draw) (received sent : List ℕ) (full : Type 0) (end : TunnelEnd) (es : List TunnelItem)
    (t : TunnelItem) (event : Event) → EnteredRun answered draws received sent full end es → Has t es → t.event ≡ Inner event → IsAsking event t.answer
entered_asking (Lane lane) draws received sent full end es t event run has is = lane_asking lane draws received sent full end es t event run has is
entered_asking no_lane draws received sent full end es t event run has is = absurd (subst (λ (xs : List TunnelItem). Has t xs) run.1.none has)
entered_asking (InnerAnswer a) draws received sent full end es t event run has is = absurd run
entered_asking (Frames count) draws received sent full end es t event run has is = absurd run
entered_asking Empty draws received sent full end es t event run has is = absurd run
entered_asking Broken draws received sent full end es t event run has is = absurd run
entered_asking Gone draws received sent full end es t event run has is = absurd run
entered_asking Left draws received sent full end es t event run has is = absurd run

run_asking : (draws : List Draw) (received sent : List ℕ) (full : Type 0) (end : TunnelEnd) (es : List TunnelItem) (t : TunnelItem) (event : Event)
    → TunnelRun draws received sent full end es → Has t es → t.event ≡ Inner event → IsAsking event t.answer
run_asking draws received sent full end [] t event run has is = absurd has
run_asking draws received sent full end (u ∷ us) t event run has is =
    ⊎_elim (λ (same : t ≡ u).
    let wrong : Enter ≡ Inner event = sym run.0 ∙ ap (λ (v : TunnelItem). v.event) (sym same) ∙ is in
    absurd (cc wrong))
    (λ (later : Has t us). entered_asking u.answer draws received sent full end us t event run.1 later is) has

-- the place of an entry

record IsAt (t : TunnelItem) (es : List TunnelItem) : Type 0 where
  before : List TunnelItem
  later : List TunnelItem
  whole : es ≡ before ++ t ∷ later

place_of : (es : List TunnelItem) (t : TunnelItem) → Has t es → IsAt t es
place_of [] t has = absurd has
place_of (u ∷ us) t has =
    ⊎_elim (λ (same : t ≡ u). record { before = []; later = us; whole = ap (λ (v : TunnelItem). v ∷ us) (sym same) })
    (λ (more : Has t us).
    let rest = place_of us t more in
    record { before = u ∷ rest.before; later = rest.later; whole = ap (λ (vs : List TunnelItem). u ∷ vs) rest.whole }) has

-- the reply of each entry

module _ (h entries : List TunnelItem) (replied : Each (λ (e : Item). HasReply e.event e.out.reply) (inners h)) (asked : AskedWithin entries) where
  asked_reply : (t : TunnelItem) (event : Event) (answer : TunnelAnswer) → Has t h → Has t entries → t.event ≡ Inner event → t.answer ≡ answer
      → IsAsking event answer → IsReply t.out.reply
  asked_reply t (Asks peer draw request) (InnerAnswer answer) in_h in_entries is answer_is asking =
      let place = place_of entries t in_entries in
      let found : Has (entry t.caller (Asks peer draw request) answer t.out) (inners h) = has_inner t (Asks peer draw request) answer h is answer_is in_h in
      let parsed = asked place.before place.later t peer draw request answer place.whole (record { event = is; answer_is = answer_is }) in
      let replies : KeepsPlain request.refusal → IsReply t.out.reply =
      each_at (λ (e : Item). HasReply e.event e.out.reply) (inners h) (entry t.caller (Asks peer draw request) answer t.out) replied found in
      replies parsed.parsed.plain
  asked_reply t (Asks peer draw request) (Lane n) in_h in_entries is answer_is asking = absurd asking
  asked_reply t (Asks peer draw request) no_lane in_h in_entries is answer_is asking = absurd asking
  asked_reply t (Asks peer draw request) (Frames count) in_h in_entries is answer_is asking = absurd asking
  asked_reply t (Asks peer draw request) Empty in_h in_entries is answer_is asking = absurd asking
  asked_reply t (Asks peer draw request) Broken in_h in_entries is answer_is asking = absurd asking
  asked_reply t (Asks peer draw request) Gone in_h in_entries is answer_is asking = absurd asking
  asked_reply t (Asks peer draw request) Left in_h in_entries is answer_is asking = absurd asking
  asked_reply t (Get peer draw request) answer in_h in_entries is answer_is asking = absurd asking
  asked_reply t (Tick now) answer in_h in_entries is answer_is asking = absurd asking
  asked_reply t (Packet front tune packet) answer in_h in_entries is answer_is asking = absurd asking
  asked_reply t (Ended front tune) answer in_h in_entries is answer_is asking = absurd asking
  asked_reply t (Ask front) answer in_h in_entries is answer_is asking = absurd asking
  asked_reply t (Pull id) answer in_h in_entries is answer_is asking = absurd asking
  asked_reply t (Close id) answer in_h in_entries is answer_is asking = absurd asking
  asked_reply t Stop answer in_h in_entries is answer_is asking = absurd asking

  sent_reply : (t : TunnelItem) → Has t h → Has t entries → ((event : Event) → t.event ≡ Inner event → IsAsking event t.answer)
      → (event : TunnelEvent) → t.event ≡ event → IsSentReply event t.out
  sent_reply t in_h in_entries asking (Inner event) is =
      turned_reply t.out.reply (asked_reply t event t.answer in_h in_entries is refl (asking event is))
  sent_reply t in_h in_entries asking Enter is = tt
  sent_reply t in_h in_entries asking (Drain number) is = tt
  sent_reply t in_h in_entries asking (Leave number) is = tt

pub runs_reply : HistoriesReply → RunsReply
runs_reply histories c h before entries caller draws received sent end legal part run =
    let replied = histories c (inners h) legal.inner in
    let asked : AskedWithin entries = run_asked draws received sent (Unit {0}) end entries run in
    let in_h : (t : TunnelItem) → Has t entries → Has t h = λ t has.
    (among_own caller h t (subst (λ (xs : List TunnelItem). Has t xs) (sym part.whole)
    (Has-append_right t before (entries ++ part.after) (Has-append_left t entries part.after has)))).has in
    all_are entries (each_has (λ (t : TunnelItem). IsSentReply t.event t.out) entries (λ t has.
    sent_reply h entries replied asked t (in_h t has) has (λ event is. run_asking draws received sent (Unit {0}) end entries t event run has is) t.event refl))
