use Rattle.std.specs.Fmt.{digits}
use Rattle.satip_base.specs.Numbers.{number_of}
use Rattle.std.proofs.Common.{◌≡◌, ◌∙◌, ℕ, List, [], ◌∷◌, ◌++◌, arith, refl, ap, subst, inl, inr, ⊎_elim}
use Rattle.satip_base.specs.declared.network.Peer.{Peer}
use Rattle.satip_rtsp_interleaved.specs.Turned.{turned, told_ports, channel_line}
use Rattle.satip_frame.specs.Stream.{Unfinished}
use Rattle.satip_rtsp_interleaved.proofs.PartLemmas.{empty_ends}
use Rattle.satip_interleave.specs.Histories.{TunnelItem}
use Rattle.satip_interleave.specs.declared.events.TunnelEvent.TheVariants.{Drain, Leave}
use Rattle.satip_interleave.specs.declared.events.TunnelAnswer.TheVariants.{Lane, Frames, Broken as LaneBroken}
use Rattle.satip_tunnel.specs.declared.ends.TunnelEnd.TheVariants.{Broken, Done}
use Rattle.satip_tunnel.specs.Ends.{IsLeave}
use Rattle.satip_tunnel.specs.TunnelRun.{TunnelRun}
use Rattle.satip_tunnel.proofs.CauseLemmas.{run_broken}
use Rattle.satip_tunnel.specs.Requests.{AsksInParts}
use Rattle.satip_tunnel.specs.Rows.{asks, drains, enters, leaves}
use Rattle.satip_tunnel.specs.Walk.{Free, Draining, Over, MayDrain}
use Rattle.satip_tunnel.proofs.connection_examples.worked_rows.Goals as goal

-- a text with nothing in it asks nothing
nothing_asked : AsksInParts [] ([] ++ [])
nothing_asked = record { messages = []; tail = Unfinished; read = empty_ends; requests = refl }

-- the frame of one byte on channel 0
abbrev frame_bytes : List ℕ
frame_bytes = 36 ∷ 0 ∷ 0 ∷ 1 ∷ 71 ∷ []

-- something stands behind others
some_behind : (before : List TunnelItem) (last : TunnelItem) → [] ≡ before ++ last ∷ [] → ⊥
some_behind [] last e = cc e
some_behind (t ∷ before) last e = cc e

-- no entries have no Leave
none_left : (lane : ℕ) (body last : List TunnelItem) → [] ≡ body ++ last → IsLeave lane last → ⊥
none_left lane [] [] e leave = leave
none_left lane [] (t ∷ last) e leave = cc e
none_left lane (t ∷ body) last e leave = cc e

-- one entry is the Leave itself
leave_is : (lane : ℕ) (t : TunnelItem) (last : List TunnelItem) → t ∷ [] ≡ last → IsLeave lane last → t.event ≡ Leave lane
leave_is lane t [] e leave = absurd leave
leave_is lane t (u ∷ []) e leave = let same : t ≡ u = cc e in ap (λ (x : TunnelItem). x.event) same ∙ leave.0
leave_is lane t (u ∷ v ∷ last) e leave = absurd leave

lanes_differ : Leave 4 ≡ Leave 3 → ⊥
lanes_differ is = cc is

other_lane : (body last : List TunnelItem) → leaves 4 ∷ [] ≡ body ++ last → IsLeave 3 last → ⊥
other_lane [] last e leave = let is : Leave 4 ≡ Leave 3 = leave_is 3 (leaves 4) last e leave in absurd (lanes_differ is)
other_lane (t ∷ body) last e leave = none_left 3 body last (cc e) leave

-- a drain alone has no Leave behind it
drain_is_kept : (body last : List TunnelItem) → drains 3 LaneBroken [] ∷ [] ≡ body ++ last → IsLeave 3 last → ⊥
drain_is_kept [] last e leave = let is : Drain 3 ≡ Leave 3 = leave_is 3 (drains 3 LaneBroken []) last e leave in cc is
drain_is_kept (t ∷ body) last e leave = none_left 3 body last (cc e) leave

-- a run of a broken lane isn't done
not_broken : TunnelRun [] [] [] ⊥ Done (enters (Lane 3) ∷ drains 3 LaneBroken [] ∷ leaves 3 ∷ []) → ⊥
not_broken run =
    let broke = run_broken [] [] [] ⊥ Done (enters (Lane 3) ∷ drains 3 LaneBroken [] ∷ leaves 3 ∷ []) run in
    let e : Done ≡ Broken = broke.1 (inr (inl refl)) in
    cc e

pub returns-clause-drained : goal.returns-clause-drained
returns-clause-drained c = (Draining, (refl, refl, tt, refl), (Draining, (refl, tt, refl), (Free, (refl, tt, refl), refl)))

pub returns-clause-gone : goal.returns-clause-gone
returns-clause-gone c = (Draining, (refl, refl, tt, refl), (Free, (refl, tt, refl), refl))

pub returns-clause-idle : goal.returns-clause-idle
returns-clause-idle c = (Free, (refl, tt, refl), (Free, (refl, tt, refl), refl))

pub returns-clause-undrained : goal.returns-clause-undrained
returns-clause-undrained c = λ walk. let a = walk.1.3 in let b = walk.2.1.1 in cc (a, b)

pub returns-clause-half : goal.returns-clause-half
returns-clause-half c = λ walk. let a = walk.1.2 in let b = walk.2.1.1 in cc (a, b)

pub returns-clause-still : goal.returns-clause-still
returns-clause-still c = (Draining, (refl, refl, tt, refl), (Draining, (refl, tt, refl), refl))

pub returns-clause-other_lane : goal.returns-clause-other_lane
returns-clause-other_lane c = λ walk. let a = walk.2.1.0 in cc a

pub returns-clause-other_peer : goal.returns-clause-other_peer
returns-clause-other_peer c = λ walk. let e : 4 ≡ 3 = ap (λ (p : Peer). p.ip) walk.1.0 in absurd (omega (arith, e))

pub returns-clause-broken : goal.returns-clause-broken
returns-clause-broken c = (Over, (refl, tt, refl), refl)

pub returns-clause-over : goal.returns-clause-over
returns-clause-over c = λ walk. subst MayDrain walk.1.2 walk.2.1.1

pub returns-clause-no_leave : goal.returns-clause-no_leave
returns-clause-no_leave c = λ walk. walk.1

pub returns-clause-in_part : goal.returns-clause-in_part
unfolding turned told_ports channel_line
returns-clause-in_part c = record {
  before = [];
  last = asks 3 (1 ∷ 2 ∷ 3 ∷ []);
  entries_are = refl;
  part = 1 ∷ 2 ∷ [];
  rest = 3 ∷ [];
  bytes = refl;
  sent_is = refl;
}

pub returns-clause-not_in_part : goal.returns-clause-not_in_part
returns-clause-not_in_part c = λ part. some_behind part.before part.last part.entries_are

pub returns-clause-silent : goal.returns-clause-silent
returns-clause-silent c = (
  refl,
  record {
    body = [];
    last = leaves 3 ∷ [];
    entries_are = refl;
    stance = Free;
    walk = refl;
    stops = refl;
    leaves = (refl, tt);
    made = [];
    left = [];
    asks = nothing_asked;
    left_over = refl;
    events = refl;
    drawn = refl;
    sent_is = refl;
  },
)

pub returns-clause-unread : goal.returns-clause-unread
returns-clause-unread c = (
  refl,
  record {
    body = [];
    last = leaves 3 ∷ [];
    entries_are = refl;
    stance = Free;
    walk = refl;
    stops = refl;
    leaves = (refl, tt);
    made = [];
    left = [];
    asks = nothing_asked;
    left_over = refl;
    events = refl;
    drawn = refl;
    sent_is = refl;
  },
)

pub returns-clause-left_out : goal.returns-clause-left_out
returns-clause-left_out c = λ run. none_left 3 run.1.body run.1.last run.1.entries_are run.1.leaves

pub returns-clause-other_left : goal.returns-clause-other_left
returns-clause-other_left c = λ run. other_lane run.1.body run.1.last run.1.entries_are run.1.leaves

pub returns-clause-lost : goal.returns-clause-lost
returns-clause-lost c = (
  refl,
  record {
    body = drains 3 (Frames 5) frame_bytes ∷ [];
    last = leaves 3 ∷ [];
    entries_are = refl;
    stance = Draining;
    walk = (Draining, (refl, tt, refl), refl);
    stops = refl;
    leaves = inl (refl, tt);
    made = [];
    left = [];
    asks = nothing_asked;
    left_over = tt;
    events = refl;
    drawn = refl;
    sent_is = record {
      before = [];
      last = drains 3 (Frames 5) frame_bytes;
      entries_are = refl;
      part = 36 ∷ [];
      rest = 0 ∷ 0 ∷ 1 ∷ 71 ∷ [];
      bytes = refl;
      sent_is = refl;
    };
  },
)

pub returns-clause-turned_away : goal.returns-clause-turned_away
returns-clause-turned_away c = (refl, (record { undrawn = refl; unheard = refl; unsent = refl }, record { end_is = refl; none = refl }))

pub returns-clause-entry_behind : goal.returns-clause-entry_behind
returns-clause-entry_behind c = λ run. let e = run.1.1.none in cc e

pub returns-clause-broke : goal.returns-clause-broke
returns-clause-broke c = (
  refl,
  record {
    body = drains 3 LaneBroken [] ∷ [];
    last = leaves 3 ∷ [];
    entries_are = refl;
    stance = Over;
    walk = (Over, (refl, tt, refl), refl);
    stops = refl;
    leaves = inl (refl, tt);
    made = [];
    left = [];
    asks = nothing_asked;
    left_over = tt;
    events = refl;
    drawn = refl;
    sent_is = refl;
  },
)

pub returns-clause-not_done : goal.returns-clause-not_done
returns-clause-not_done c = λ run. absurd (not_broken run)

pub returns-clause-kept_lane : goal.returns-clause-kept_lane
returns-clause-kept_lane c = λ run.
    let r = run.1 in
    ⊎_elim (λ (leave : IsLeave 3 r.last). drain_is_kept r.body r.last r.entries_are leave) (λ unleft. unleft.1) r.leaves

pub returns-clause-unleft : goal.returns-clause-unleft
returns-clause-unleft c = (
  refl,
  record {
    body = drains 3 LaneBroken [] ∷ [];
    last = [];
    entries_are = refl;
    stance = Over;
    walk = (Over, (refl, tt, refl), refl);
    stops = refl;
    leaves = inr (refl, tt);
    made = [];
    left = [];
    asks = nothing_asked;
    left_over = tt;
    events = refl;
    drawn = refl;
    sent_is = refl;
  },
)

pub returns-clause-spent : goal.returns-clause-spent
returns-clause-spent c = (
  refl,
  record {
    body = [];
    last = [];
    entries_are = refl;
    stance = Free;
    walk = refl;
    stops = tt;
    leaves = (refl, tt);
    made = [];
    left = [];
    asks = nothing_asked;
    left_over = tt;
    events = refl;
    drawn = inl refl;
    sent_is = refl;
  },
)

pub returns-clause-not_spent : goal.returns-clause-not_spent
returns-clause-not_spent c = λ run. run.1.leaves.1

pub returns-clause-wired : goal.returns-clause-wired
unfolding turned told_ports channel_line number_of digits
returns-clause-wired c = refl
