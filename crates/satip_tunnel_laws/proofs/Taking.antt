-- What the drains of a lane took are its first frames, by the turns of the lane.
use Rattle.std.proofs.Common.{◌≡◌, ◌∙◌, ℕ, zero, suc, arith, Bool, true, false, cond, List, [], ◌∷◌, ◌++◌, append-nil, append_assoc, refl, sym, ap, subst}
use Rattle.std.specs.List.{concat}
use Rattle.std.proofs.Output.{concat-append}
use Rattle.satip_base.specs.Lists.{Each}
use Rattle.satip_interleave.specs.declared.lane.Lane.{Lane}
use Rattle.satip_interleave.specs.Lanes.{PlainLanes, fresh_lane, no_lanes}
use Rattle.satip_interleave.specs.Turns.{Turn, FramesKeepOrder, all_leaving, lane_after}
use Rattle.satip_interleave.specs.declared.events.TunnelEvent.{TunnelEvent}
use Rattle.satip_interleave.specs.declared.events.TunnelEvent.TheVariants.{Inner, Enter, Drain, Leave}
use Rattle.satip_interleave.specs.declared.events.TunnelAnswer.TheVariants.{Empty}
use Rattle.satip_interleave.specs.Tunnels.{moved_by}
use Rattle.satip_interleave.specs.Answers.{IsAnswered}
use Rattle.satip_interleave.specs.Histories.{LanesFrom, TunnelItem, moved}
use Rattle.satip_tunnel_laws.specs.LaneFrames.{EndsEmpty, FramesAreLanes, TakesFirst, drained, drained_by, drains, enters, lane, leaves}
use Rattle.satip_tunnel_laws.proofs.Turning.{all_leaving-append, came, lane_after-append, none_until, turns, turns_by, turns_in}
use Rattle.satip_tunnel_laws.proofs.Moving.{IsAhead, IsGone, IsHeldAs, ahead_moved, gone_moved, held_empty, held_moved, left_by, none_empty, none_went, now_held, went_by}

went_gone : (x : ℕ) (ts : List TunnelItem) (lanes : PlainLanes) → IsGone x lanes → LanesFrom lanes ts → drained ts x ≡ []
went_gone x [] lanes is all = refl
went_gone x (t ∷ ts) lanes is all =
    ap (λ front. front ++ drained ts x) (none_went x lanes t.event t.answer t.out is.lacks all.0)
    ∙ went_gone x ts (moved lanes t) (gone_moved x lanes t.event t.out.datagrams is) all.1

went_until : (x : ℕ) (ts : List TunnelItem) (lanes : PlainLanes) (l : Lane) → IsHeldAs x l lanes → LanesFrom lanes ts
    → drained ts x ≡ concat (all_leaving l (turns ts x))
went_until x [] lanes l is all = refl
went_until x (t ∷ ts) lanes l is all =
    each (leaves x t.event t.answer) refl (λ (m : Lane) (held : IsHeldAs x m (moved lanes t)). went_until x ts (moved lanes t) m held all.1)
  where
    each : (b : Bool) → leaves x t.event t.answer ≡ b → ((m : Lane) → IsHeldAs x m (moved lanes t) → drained ts x ≡ concat (all_leaving m (turns ts x)))
        → drained_by x t.event t.answer t.out.reply ++ drained ts x ≡ concat (all_leaving l (cond b [] (turns_by x t.event t.out.datagrams ++ turns ts x)))
    each true e rest =
        let left = left_by x lanes l t.event t.answer is e in
        ap (λ front. front ++ drained ts x) (left.none t.answer t.out.reply) ∙ went_gone x ts (moved lanes t) (left.gone t.out.datagrams) all.1
    each false e rest =
        let now = turns_by x t.event t.out.datagrams in
        let later = lane_after l now in
        ap (λ front. front ++ drained ts x) (went_by x lanes l t.event t.answer t.out is all.0)
        ∙ ap (λ back. concat (all_leaving l now) ++ back) (rest later (held_moved x lanes l t.event t.answer t.out is all.0 e))
        ∙ sym (ap concat (all_leaving-append l now (turns ts x)) ∙ concat-append (all_leaving l now) (all_leaving later (turns ts x)))

-- an entry that gives the number drains nothing
now_enters : (x : ℕ) (lanes : PlainLanes) (t : TunnelItem) → IsAhead x lanes → IsAnswered lanes t.event t.answer t.out → enters x t.event t.answer ≡ true
    → IsHeldAs x (fresh_lane x) (moved lanes t)
now_enters x lanes t is answered gives = each t.event answered gives
  where
    each : (event : TunnelEvent) → IsAnswered lanes event t.answer t.out → enters x event t.answer ≡ true
        → IsHeldAs x (fresh_lane x) (moved_by event t.out.datagrams lanes)
    each (Inner event) answered gives = absurd (cc gives)
    each Enter answered gives = now_held x lanes t.answer is answered.told gives
    each (Drain number) answered gives = absurd (cc gives)
    each (Leave number) answered gives = absurd (cc gives)

went : (x : ℕ) (h : List TunnelItem) (lanes : PlainLanes) → IsAhead x lanes → LanesFrom lanes h
    → drained h x ≡ concat (all_leaving (fresh_lane x) (turns_in h x))
went x [] lanes is all = refl
went x (t ∷ ts) lanes is all =
    ap (λ front. front ++ drained ts x) (none_went x lanes t.event t.answer t.out is.lacks all.0)
    ∙ each (enters x t.event t.answer) refl (λ (ahead : IsAhead x (moved lanes t)). went x ts (moved lanes t) ahead all.1)
  where
    each : (b : Bool) → enters x t.event t.answer ≡ b → (IsAhead x (moved lanes t) → drained ts x ≡ concat (all_leaving (fresh_lane x) (turns_in ts x)))
        → drained ts x ≡ concat (all_leaving (fresh_lane x) (cond b (turns ts x) (turns_in ts x)))
    each true e rest = went_until x ts (moved lanes t) (fresh_lane x) (now_enters x lanes t is all.0 e) all.1
    each false e rest = rest (ahead_moved x lanes t.event t.answer t.out is all.0 e)

-- nothing waits at a drain that is answered so, and nothing leaves from it on
record IsOut (l : Lane) (whole before : List Turn) : Type 0 where
  out : all_leaving l whole ≡ all_leaving l before
  frames : (lane_after l before).frames ≡ []
  unbroken : (lane_after l before).broken ≡ false

never_empty : (x : ℕ) (before later : List TunnelItem) (t : TunnelItem) (lanes : PlainLanes) → IsGone x lanes → LanesFrom lanes (before ++ t ∷ later)
    → drains x t.event ≡ true → t.answer ≡ Empty → ⊥
never_empty x [] later t lanes is all drained empty = none_empty x lanes t.event t.answer t.out is.lacks all.0 drained empty
never_empty x (u ∷ us) later t lanes is all drained empty =
    never_empty x us later t (moved lanes u) (gone_moved x lanes u.event u.out.datagrams is) all.1 drained empty

out_until : (x : ℕ) (before later : List TunnelItem) (t : TunnelItem) (lanes : PlainLanes) (l : Lane) → IsHeldAs x l lanes
    → LanesFrom lanes (before ++ t ∷ later)
    → drains x t.event ≡ true → t.answer ≡ Empty → Each (λ (u : TunnelItem). drains x u.event ≡ false) later
    → IsOut l (turns (before ++ t ∷ later) x) (turns before x)
out_until x [] later t lanes l is all drained empty none =
    let at = held_empty x lanes l t.event t.answer t.out is all.0 drained empty in
    let now = turns_by x t.event t.out.datagrams in
    record {
      out = ap (λ b. all_leaving l (cond b [] (now ++ turns later x))) (at.stays t.answer) ∙ all_leaving-append l now (turns later x)
          ∙ ap (λ front. front ++ all_leaving (lane_after l now) (turns later x)) (at.none t.out.datagrams) ∙ none_until x later (lane_after l now) none;
      frames = at.frames;
      unbroken = at.whole;
    }
out_until x (u ∷ us) later t lanes l is all drained empty none =
    each (leaves x u.event u.answer) refl (λ (m : Lane) (held : IsHeldAs x m (moved lanes u)). out_until x us later t
    (moved lanes u) m held all.1 drained empty none)
  where
    each : (b : Bool) → leaves x u.event u.answer ≡ b → ((m : Lane) → IsHeldAs x m (moved lanes u) → IsOut m (turns (us ++ t ∷ later) x) (turns us x))
        → IsOut l (cond b [] (turns_by x u.event u.out.datagrams ++ turns (us ++ t ∷ later) x)) (cond b [] (turns_by x u.event u.out.datagrams ++ turns us x))
    each true e rest =
        absurd (never_empty x us later t (moved lanes u) ((left_by x lanes l u.event u.answer is e).gone u.out.datagrams) all.1 drained empty)
    each false e rest =
        let now = turns_by x u.event u.out.datagrams in
        let next = lane_after l now in
        let r = rest next (held_moved x lanes l u.event u.answer u.out is all.0 e) in
        let same : lane_after l (now ++ turns us x) ≡ lane_after next (turns us x) = lane_after-append l now (turns us x) in
        record {
          out = all_leaving-append l now (turns (us ++ t ∷ later) x) ∙ ap (λ back. all_leaving l now ++ back) r.out ∙ sym
              (all_leaving-append l now (turns us x));
          frames = ap (λ (m : Lane). m.frames) same ∙ r.frames;
          unbroken = ap (λ (m : Lane). m.broken) same ∙ r.unbroken;
        }

out_in : (x : ℕ) (before later : List TunnelItem) (t : TunnelItem) (lanes : PlainLanes) → IsAhead x lanes → LanesFrom lanes (before ++ t ∷ later)
    → drains x t.event ≡ true → t.answer ≡ Empty → Each (λ (u : TunnelItem). drains x u.event ≡ false) later
    → IsOut (fresh_lane x) (turns_in (before ++ t ∷ later) x) (turns_in before x)
out_in x [] later t lanes is all drained empty none = absurd (none_empty x lanes t.event t.answer t.out is.lacks all.0 drained empty)
out_in x (u ∷ us) later t lanes is all drained empty none =
    each (enters x u.event u.answer) refl (λ (ahead : IsAhead x (moved lanes u)). out_in x us later t (moved lanes u) ahead all.1 drained empty none)
  where
    each : (b : Bool) → enters x u.event u.answer ≡ b → (IsAhead x (moved lanes u) → IsOut (fresh_lane x) (turns_in (us ++ t ∷ later) x) (turns_in us x))
        → IsOut (fresh_lane x) (cond b (turns (us ++ t ∷ later) x) (turns_in (us ++ t ∷ later) x)) (cond b (turns us x) (turns_in us x))
    each true e rest = out_until x us later t (moved lanes u) (fresh_lane x) (now_enters x lanes u is all.0 e) all.1 drained empty none
    each false e rest = rest (ahead_moved x lanes u.event u.answer u.out is all.0 e)

all_of : FramesKeepOrder → (x : ℕ) (h before : List TunnelItem) → IsAhead x no_lanes → LanesFrom no_lanes h → EndsEmpty h before x
    → all_leaving (fresh_lane x) (turns_in h x) ≡ lane before x
all_of keep x h before ahead all ends =
    let l = fresh_lane x in
    let out = out_in x before ends.later ends.last no_lanes ahead (subst (LanesFrom no_lanes) ends.whole all) ends.drained ends.empty ends.no_more in
    let kept = keep l (turns_in before x) refl in
    let left = all_leaving l (turns_in before x) in
    ap (λ k. all_leaving l (turns_in k x)) ends.whole ∙ out.out
    ∙ sym (came x before ∙ kept.order ∙ ap (λ rest. (left ++ (lane_after l (turns_in before x)).frames) ++ rest) (kept.none_lost out.unbroken)
    ∙ append-nil (left ++ (lane_after l (turns_in before x)).frames) ∙ ap (λ waits. left ++ waits) out.frames ∙ append-nil left)

takes_ahead : FramesKeepOrder → (x : ℕ) (h : List TunnelItem) → IsAhead x no_lanes → LanesFrom no_lanes h → TakesFirst h x
takes_ahead keep x h ahead all =
    let l = fresh_lane x in
    let kept = keep l (turns_in h x) refl in
    let left = all_leaving l (turns_in h x) in
    record {
      taken = left;
      joined = sym (went x h no_lanes ahead all);
      first = record {
        rest = (lane_after l (turns_in h x)).frames ++ kept.lost;
        whole = came x h ∙ kept.order ∙ append_assoc left (lane_after l (turns_in h x)).frames kept.lost;
      };
      all = λ before ends. all_of keep x h before ahead all ends;
    }

-- number 0 is never given, and so never drained
takes_none : (h : List TunnelItem) → LanesFrom no_lanes h → TakesFirst h 0
takes_none h all =
    let gone : IsGone 0 no_lanes = record { lacks = tt; given = omega arith } in
    record {
      taken = [];
      joined = sym (went_gone 0 h no_lanes gone all);
      first = record { rest = lane h 0; whole = refl };
      all = λ before ends. absurd (never_empty 0 before ends.later ends.last no_lanes gone (subst (LanesFrom no_lanes) ends.whole all) ends.drained ends.empty);
    }

pub frames_are_lanes : FramesKeepOrder → FramesAreLanes
frames_are_lanes keep c h zero legal = takes_none h legal.lanes
frames_are_lanes keep c h (suc x) legal = takes_ahead keep (suc x) h (record { lacks = tt; ahead = omega arith }) legal.lanes
