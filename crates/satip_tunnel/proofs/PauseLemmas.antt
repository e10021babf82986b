-- Drains that found no frame, and the pauses after them.
use Rattle.std.proofs.Common.{◌≡◌, ◌∙◌, ℕ, ◌+◌, ◌≤◌, List, [], ◌∷◌, ◌++◌, append_assoc, append-nil, length, length-append, arith, refl, sym, ap, inl, inr}
use Rattle.rand_chacha.specs.ChaCha.{ChaCha}
use Rattle.satip_interleave.proofs.Entries.{inners-append}
use Rattle.satip_interleave.specs.declared.events.TunnelEvent.{TunnelEvent}
use Rattle.satip_interleave.specs.declared.events.TunnelEvent.TheVariants.{Enter}
use Rattle.satip_interleave.specs.declared.events.TunnelAnswer.{TunnelAnswer}
use Rattle.satip_interleave.specs.Histories.{TunnelItem, inner_by, inners}
use Rattle.satip_plain.specs.Histories.{Item}
use Rattle.satip_world.specs.Pausing.{RisesBy}
use Rattle.satip_world.proofs.PausingLemmas.{rises_none}
use Rattle.satip_worker.specs.Pauses.{PausesServed}
use Rattle.satip_tunnel.specs.declared.ends.TunnelEnd.{TunnelEnd}
use Rattle.satip_tunnel.specs.declared.ends.TunnelEnd.TheVariants.{Full, Broken, Done, ReadFault, WriteFault, Spent}
use Rattle.satip_tunnel.specs.Ends.{IsLeave}
use Rattle.satip_tunnel.specs.Events.{MadeOne, UnmadeEvent}
use Rattle.satip_tunnel.specs.Hearing.{Course, Finishes, Left, Talked, Unleft, talk_at}
use Rattle.satip_tunnel.specs.Pauses.{Paused, PausesIdle, dry_in, one_if_dry, spared_at}
use Rattle.satip_tunnel.specs.Seats.{Seat}
use Rattle.satip_world.specs.Lines.{Line}

pub dry-append : (xs ys : List TunnelItem) → dry_in (xs ++ ys) ≡ dry_in xs + dry_in ys
dry-append [] ys = omega arith
dry-append (t ∷ xs) ys = let rest = dry-append xs ys in omega (arith, rest)

-- drains that followed a request, or were followed by so many pauses, behind others
pub dry_behind : (body entries : List TunnelItem) (before more all : ℕ) → dry_in body ≤ length (inners body) + before
    → dry_in entries ≤ length (inners entries) + more → all ≡ before + more → dry_in (body ++ entries) ≤ length (inners (body ++ entries)) + all
dry_behind body entries before more all first second is =
    let sum : length (inners (body ++ entries)) ≡ length (inners body ++ inners entries) = ap (λ (h : List Item). length h) (inners-append body entries) in
    omega (arith, first, second, is, sum, dry-append body entries, length-append (inners body) (inners entries))

-- ---- the Enter and the Leave

-- the entries that give a lane up are no drains, and none of the server
record IsLast (own own' : List TunnelItem) : Type 0 where
  last : List TunnelItem
  made : own' ≡ own ++ last
  dry : dry_in last ≡ 0
  none_asked : inners last ≡ []

leave_dry : (lane : ℕ) (last : List TunnelItem) → IsLeave lane last → dry_in last ≡ 0
leave_dry lane [] leave = absurd leave
leave_dry lane (t ∷ []) leave =
    let none : one_if_dry t.event t.answer ≡ 0 = ap (λ (e : TunnelEvent). one_if_dry e t.answer) leave.0 in
    omega (arith, none)
leave_dry lane (t ∷ u ∷ ts) leave = absurd leave

leave_inner : (lane : ℕ) (last : List TunnelItem) → IsLeave lane last → inners last ≡ []
leave_inner lane [] leave = absurd leave
leave_inner lane (t ∷ []) leave = ap (λ (e : TunnelEvent). inner_by t.caller e t.answer t.out ++ []) leave.0
leave_inner lane (t ∷ u ∷ ts) leave = absurd leave

module _ (lane : ℕ) (o n : Seat) where
  left_last : (before after : TunnelEnd) → Left lane o n before after → IsLast o.pass.own n.pass.own
  left_last before after left = record {
    last = left.last;
    made = left.grows.own;
    dry = leave_dry lane left.last left.leave;
    none_asked = leave_inner lane left.last left.leave;
  }

  unleft_last : (before after : TunnelEnd) → Unleft o n before after → IsLast o.pass.own n.pass.own
  unleft_last before after unleft = record { last = []; made = unleft.grows.own; dry = refl; none_asked = refl }

  finish_last : (before after : TunnelEnd) → Finishes lane o n before after → IsLast o.pass.own n.pass.own
  finish_last Full after (inl left) = left_last Full after left
  finish_last Full after (inr unleft) = unleft_last Full after unleft
  finish_last Broken after (inl left) = left_last Broken after left
  finish_last Broken after (inr unleft) = unleft_last Broken after unleft
  finish_last Done after (inl left) = left_last Done after left
  finish_last Done after (inr unleft) = unleft_last Done after unleft
  finish_last ReadFault after (inl left) = left_last ReadFault after left
  finish_last ReadFault after (inr unleft) = unleft_last ReadFault after unleft
  finish_last WriteFault after (inl left) = left_last WriteFault after left
  finish_last WriteFault after (inr unleft) = unleft_last WriteFault after unleft
  finish_last Spent after same = record {
    last = [];
    made = ap (λ (s : Seat). s.pass.own) same.1 ∙ sym (append-nil o.pass.own);
    dry = refl;
    none_asked = refl;
  }

enter_dry : (t : TunnelItem) → t.event ≡ Enter → one_if_dry t.event t.answer ≡ 0
enter_dry t is = ap (λ (e : TunnelEvent). one_if_dry e t.answer) is

enter_inner : (t : TunnelItem) → t.event ≡ Enter → inner_by t.caller t.event t.answer t.out ≡ []
enter_inner t is = ap (λ (e : TunnelEvent). inner_by t.caller e t.answer t.out) is

-- ---- the receives that no pause followed

-- there was none
pub paused_all : (end : TunnelEnd) (idles p r : ℕ) → RisesBy idles p r → Paused end idles idles p r
paused_all end idles p r rises = record { least = omega arith; most = omega arith; pauses = rises }

-- the last one
pub paused_but_last : (end : TunnelEnd) (paused p r : ℕ) → spared_at end ≡ 1 → RisesBy paused p r → Paused end (paused + 1) paused p r
paused_but_last end paused p r spared rises = record { least = omega (arith, spared); most = omega arith; pauses = rises }

-- giving the lane up leaves out no pause
spared_more : (lane : ℕ) (o n : Seat) (before after : TunnelEnd) → Finishes lane o n before after → spared_at before ≤ spared_at after
spared_more lane o n Full after finishes = omega arith
spared_more lane o n Broken after (inl left) = let same : spared_at after ≡ 1 = ap (λ (e : TunnelEnd). spared_at e) left.end in omega (arith, same)
spared_more lane o n Broken after (inr unleft) = let same : spared_at after ≡ 1 = ap (λ (e : TunnelEnd). spared_at e) unleft.end in omega (arith, same)
spared_more lane o n Done after finishes = omega arith
spared_more lane o n ReadFault after finishes = omega arith
spared_more lane o n WriteFault after (inl left) = let same : spared_at after ≡ 1 = ap (λ (e : TunnelEnd). spared_at e) left.end in omega (arith, same)
spared_more lane o n WriteFault after (inr unleft) = let same : spared_at after ≡ 1 = ap (λ (e : TunnelEnd). spared_at e) unleft.end in omega (arith, same)
spared_more lane o n Spent after finishes = let same : spared_at after ≡ 1 = ap (λ (e : TunnelEnd). spared_at e) finishes.0 in omega (arith, same)

-- at most one at each end
spared_once : (end : TunnelEnd) → spared_at end ≤ 1
spared_once Full = omega arith
spared_once Broken = omega arith
spared_once Done = omega arith
spared_once ReadFault = omega arith
spared_once WriteFault = omega arith
spared_once Spent = omega arith

pub served_tunnel : (tells : Type 0) (own own' : List TunnelItem) (l m : Line) (p r : ℕ) (end : TunnelEnd) → PausesIdle tells own own' l m p r end
    → PausesServed 1 l m p r
served_tunnel tells own own' l m p r end x =
    let least = x.served.least in
    record {
      idles = x.served.idles;
      found = x.served.found;
      paused = x.served.paused;
      least = omega (arith, least, spared_once end);
      most = x.served.most;
      pauses = x.served.pauses;
    }

-- nothing came in
served_none : (spared : ℕ) (l : Line) (p : ℕ) → PausesServed spared l l p p
served_none spared l p = record {
  idles = 0;
  found = rises_none l.idles;
  paused = 0;
  least = omega arith;
  most = omega arith;
  pauses = rises_none p;
}

-- a connection that was given a lane
module _ (tells : Type 0) (course : Course) (o q n : Seat) (m : Line) (c : ChaCha) (answer : TunnelAnswer) (before after : TunnelEnd) (p r : ℕ) where
  pub lane_pauses : MadeOne o course.seat Enter answer → Talked tells course (talk_at q m c) before → Finishes course.lane q n before after
      → Paused before course.idles course.paused p r → PausesIdle tells o.pass.own n.pass.own course.line m p r after
  lane_pauses one talked finishes paused =
      let t : TunnelItem = one.item in
      let body : List TunnelItem = talked.first.body in
      let dry = talked.first.so_far.dry in
      let end = finish_last course.lane q n before after finishes in
      let first = enter_dry t one.event_is in
      let none_dry = end.dry in
      let least = paused.least in
      let sum : length (inners (t ∷ (body ++ end.last))) ≡ length (inners body) =
      ap (λ (h : List Item). length h)
      (ap (λ (h : List Item). h ++ inners (body ++ end.last)) (enter_inner t one.event_is)
      ∙ inners-append body end.last ∙ ap (λ (h : List Item). inners body ++ h) end.none_asked ∙ append-nil (inners body)) in
      record {
        entries = t ∷ (body ++ end.last);
        made = end.made
            ∙ ap (λ (h : List TunnelItem). h ++ end.last) (talked.first.so_far.grows.own ∙ ap (λ (h : List TunnelItem). h ++ body) one.grows.own)
            ∙ append_assoc (o.pass.own ++ t ∷ []) body end.last
            ∙ append_assoc o.pass.own (t ∷ []) (body ++ end.last);
        received = talked.received;
        content = talked.first.so_far.carries.content.received;
        pieces = course.pieces;
        few = talked.first.so_far.few;
        served = record {
          idles = course.idles;
          found = talked.first.so_far.quiet;
          paused = course.paused;
          least = omega (arith, least, spared_more course.lane q n before after finishes);
          most = paused.most;
          pauses = paused.pauses;
        };
        dry = omega (arith, first, dry, none_dry, sum, dry-append body end.last);
      }

-- one that was given none
module _ (tells : Type 0) (o n : Seat) (l : Line) (p : ℕ) where
  pub turned_away_pauses : (answer : TunnelAnswer) → MadeOne o n Enter answer → PausesIdle tells o.pass.own n.pass.own l l p p Full
  turned_away_pauses answer one =
      let first = enter_dry one.item one.event_is in
      record {
        entries = one.item ∷ [];
        made = one.grows.own;
        received = [];
        content = λ _. sym (append-nil l.received);
        pieces = 0;
        few = omega arith;
        served = served_none 0 l p;
        dry = omega (arith, first);
      }

  pub unentered_pauses : UnmadeEvent o n → PausesIdle tells o.pass.own n.pass.own l l p p Spent
  unentered_pauses unmade = record {
    entries = [];
    made = unmade.grows.own;
    received = [];
    content = λ _. sym (append-nil l.received);
    pieces = 0;
    few = omega arith;
    served = served_none 1 l p;
    dry = omega arith;
  }
