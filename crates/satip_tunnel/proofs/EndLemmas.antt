-- The whole run of a connection of a tunnel, and the causes of its ends.
use Rattle.std.proofs.Common.{◌≡◌, ◌∙◌, ℕ, List, [], ◌∷◌, ◌++◌, append-nil, length, refl, sym, ap, subst, inl, inr}
use Rattle.rand_chacha.specs.ChaCha.{ChaCha}
use Rattle.satip_base.specs.declared.identity.Draw.{Draw}
use Rattle.satip_interleave.proofs.Entries.{inners-append}
use Rattle.satip_plain.specs.Histories.{Item}
use Rattle.satip_interleave.specs.declared.events.TunnelEvent.{TunnelEvent}
use Rattle.satip_interleave.specs.declared.events.TunnelEvent.TheVariants.{Enter, Leave}
use Rattle.satip_interleave.specs.declared.events.TunnelAnswer.{TunnelAnswer}
use Rattle.satip_interleave.specs.declared.events.TunnelAnswer.TheVariants.{Lane, Full as no_lane}
use Rattle.satip_interleave.specs.Histories.{TunnelItem, inners, inner_by}
use Rattle.satip_world.specs.Lines.{Line}
use Rattle.satip_worker.specs.Answers.{ends_with_last}
use Rattle.satip_worker.specs.Progress.{Carries}
use Rattle.satip_worker.proofs.ProgressLemmas.{carries_nothing}
use Rattle.satip_tunnel.specs.declared.ends.TunnelEnd.{TunnelEnd}
use Rattle.satip_tunnel.specs.declared.ends.TunnelEnd.TheVariants.{Full, Broken, Done, ReadFault, WriteFault, Spent}
use Rattle.satip_tunnel.specs.Walk.{Stance, Free, MayDrain}
use Rattle.satip_tunnel.specs.Requests.{TakesDraws}
use Rattle.satip_tunnel.specs.Seats.{Seat, Grows, SeesFull}
use Rattle.satip_tunnel.specs.Ends.{StopsAt, IsLeave, Leaves, LeftOver, DrawsTaken, WireSent, LineEnds}
use Rattle.satip_tunnel.specs.Events.{MadeOne, UnmadeEvent}
use Rattle.satip_tunnel.specs.Hearing.{Course, Talked, Left, Unleft, Finishes, talk_at}
use Rattle.satip_tunnel.specs.TunnelRun.{LaneRun, EnteredRun}
use Rattle.satip_tunnel.specs.Served.{ServesTunnel}
use Rattle.satip_tunnel.proofs.SeatLemmas.{grows_none, grows_then}
use Rattle.satip_tunnel.proofs.DrawLemmas.{takes_none}

-- ---- the Leave

-- a Leave is no entry of the server
event_of_leave : (event : TunnelEvent) (t : TunnelItem) (lane : ℕ) → event ≡ Leave lane → inner_by t.caller event t.answer t.out ≡ []
event_of_leave event t lane is = ap (λ (e : TunnelEvent). inner_by t.caller e t.answer t.out) is

leave_not_asked : (lane : ℕ) (last : List TunnelItem) → IsLeave lane last → inners last ≡ []
leave_not_asked lane [] leave = absurd leave
leave_not_asked lane (t ∷ []) leave = ap (λ (h : List Item). h ++ []) (event_of_leave t.event t lane leave.0)
leave_not_asked lane (t ∷ u ∷ ts) leave = absurd leave

-- the run of a lane's connection, what was made and carried, and why it ended
pub record ServesLane (tells : Type 0) (lane : ℕ) (before after : ChaCha) (o n : Seat) (l m : Line) (end : TunnelEnd) : Type 0 where
  pub entries : List TunnelItem
  pub draws : List Draw
  pub received : List ℕ
  pub sent : List ℕ
  pub run : LaneRun lane draws received sent (SeesFull n) end entries
  pub grows : Grows o n entries
  pub takes : TakesDraws before draws after
  pub carries : Carries tells l m received sent
  pub line_ends : LineEnds end l m (ends_with_last (inners entries))

module _ (tells : Type 0) (course : Course) (p n : Seat) (m : Line) (c : ChaCha) (before after : TunnelEnd)
    (talked : Talked tells course (talk_at p m c) before) (last : List TunnelItem) (grows : Grows p n last) (none_asked : inners last ≡ [])
    (leaves : Leaves course.lane (SeesFull n) after last)
    (stops : StopsAt before talked.first.stance → StopsAt after talked.first.stance)
    (left_over : LeftOver before talked.first.left → LeftOver after talked.first.left)
    (drawn : DrawsTaken before (length talked.first.draws) (length talked.first.made) talked.first.left
    → DrawsTaken after (length talked.first.draws) (length talked.first.made) talked.first.left)
    (sent_is : WireSent before talked.first.body talked.first.sent → WireSent after talked.first.body talked.first.sent)
    (line_ends : LineEnds before course.line m (ends_with_last (inners talked.first.body))
    → LineEnds after course.line m (ends_with_last (inners talked.first.body))) where
  -- the lane was served up to this end, and the last entries made
  finished : ServesLane tells course.lane course.draws c course.seat n course.line m after
  finished =
      let f = talked.first in
      let over : inners (f.body ++ last) ≡ inners f.body =
      inners-append f.body last ∙ ap (λ (h : List Item). inners f.body ++ h) none_asked ∙ append-nil (inners f.body) in
      let P : List Item → Type 0 = λ h. LineEnds after course.line m (ends_with_last h) in
      record {
        entries = f.body ++ last;
        draws = f.draws;
        received = talked.received;
        sent = f.sent;
        run = record {
          body = f.body;
          last = last;
          entries_are = refl;
          stance = f.stance;
          walk = f.so_far.walk;
          stops = stops f.stops;
          leaves = leaves;
          made = f.made;
          left = f.left;
          asks = f.asks;
          left_over = left_over f.left_over;
          events = f.events;
          drawn = drawn f.drawn;
          sent_is = sent_is f.sent_is;
        };
        grows = grows_then course.seat p n f.body last f.so_far.grows grows;
        takes = f.so_far.takes;
        carries = f.so_far.carries;
        line_ends = subst P (sym over) (line_ends talked.line_ends);
      }

free_may_drain : (stance : Stance) → stance ≡ Free → MayDrain stance
free_may_drain stance is = subst MayDrain (sym is) tt

module _ (tells : Type 0) (course : Course) (p n : Seat) (m : Line) (c : ChaCha) where
  -- the lane was given up
  left_as : (before : TunnelEnd) (after : TunnelEnd) (talked : Talked tells course (talk_at p m c) before) (left : Left course.lane p n before after)
      → (IsLeave course.lane left.last → Leaves course.lane (SeesFull n) before left.last)
      → ServesLane tells course.lane course.draws c course.seat n course.line m after
  left_as before after talked left leaves =
      let P : TunnelEnd → Type 0 = λ e. ServesLane tells course.lane course.draws c course.seat n course.line m e in
      subst P (sym left.end) (finished tells course p n m c before before talked left.last left.grows
      (leave_not_asked course.lane left.last left.leave) (leaves left.leave) (λ x. x) (λ x. x) (λ x. x) (λ x. x) (λ x. x))

  -- a full history met the Leave, and that is how it ended
  unleft_spent : (after : TunnelEnd) (unleft : Unleft p n Done after) → Talked tells course (talk_at p m c) Done
      → ServesLane tells course.lane course.draws c course.seat n course.line m after
  unleft_spent after unleft talked =
      let P : TunnelEnd → Type 0 = λ e. ServesLane tells course.lane course.draws c course.seat n course.line m e in
      subst P (sym unleft.end) (finished tells course p n m c Done Spent talked [] unleft.grows refl (refl, unleft.full)
      (λ x. free_may_drain talked.first.stance x) (λ x. tt) (λ x. inl x) (λ x. x) (λ x. tt))

  unleft_unread : (after : TunnelEnd) (unleft : Unleft p n ReadFault after) → Talked tells course (talk_at p m c) ReadFault
      → ServesLane tells course.lane course.draws c course.seat n course.line m after
  unleft_unread after unleft talked =
      let P : TunnelEnd → Type 0 = λ e. ServesLane tells course.lane course.draws c course.seat n course.line m e in
      subst P (sym unleft.end) (finished tells course p n m c ReadFault Spent talked [] unleft.grows refl (refl, unleft.full)
      (λ x. free_may_drain talked.first.stance x) (λ x. tt) (λ x. inl x) (λ x. x) (λ x. tt))

  unleft_broken : (after : TunnelEnd) (unleft : Unleft p n Broken after) → Talked tells course (talk_at p m c) Broken
      → ServesLane tells course.lane course.draws c course.seat n course.line m after
  unleft_broken after unleft talked =
      let P : TunnelEnd → Type 0 = λ e. ServesLane tells course.lane course.draws c course.seat n course.line m e in
      subst P (sym unleft.end) (finished tells course p n m c Broken Broken talked [] unleft.grows refl (inr (refl, unleft.full))
      (λ x. x) (λ x. x) (λ x. x) (λ x. x) (λ x. x))

  unleft_lost : (after : TunnelEnd) (unleft : Unleft p n WriteFault after) → Talked tells course (talk_at p m c) WriteFault
      → ServesLane tells course.lane course.draws c course.seat n course.line m after
  unleft_lost after unleft talked =
      let P : TunnelEnd → Type 0 = λ e. ServesLane tells course.lane course.draws c course.seat n course.line m e in
      subst P (sym unleft.end) (finished tells course p n m c WriteFault WriteFault talked [] unleft.grows refl (inr (refl, unleft.full))
      (λ x. x) (λ x. x) (λ x. x) (λ x. x) (λ x. x))

  -- nothing was made where the history was full
  stopped_as : (after : TunnelEnd) → Talked tells course (talk_at p m c) Spent → after ≡ Spent → n ≡ p
      → ServesLane tells course.lane course.draws c course.seat n course.line m after
  stopped_as after talked is same =
      let P : TunnelEnd → Type 0 = λ e. ServesLane tells course.lane course.draws c course.seat n course.line m e in
      let Q : Seat → Type 0 = λ s. ServesLane tells course.lane course.draws c course.seat s course.line m Spent in
      subst P (sym is) (subst Q (sym same) (finished tells course p p m c Spent Spent talked [] (grows_none p) refl (refl, talked.full)
      (λ x. x) (λ x. x) (λ x. x) (λ x. x) (λ x. x)))

  -- how a lane's connection was served
  pub lane_served : (before after : TunnelEnd) → Talked tells course (talk_at p m c) before → Finishes course.lane p n before after
      → ServesLane tells course.lane course.draws c course.seat n course.line m after
  lane_served Full after talked finishes = absurd talked.first.stops
  lane_served Broken after talked (inl left) = left_as Broken after talked left (λ x. inl x)
  lane_served Broken after talked (inr unleft) = unleft_broken after unleft talked
  lane_served Done after talked (inl left) = left_as Done after talked left (λ x. x)
  lane_served Done after talked (inr unleft) = unleft_spent after unleft talked
  lane_served ReadFault after talked (inl left) = left_as ReadFault after talked left (λ x. x)
  lane_served ReadFault after talked (inr unleft) = unleft_unread after unleft talked
  lane_served WriteFault after talked (inl left) = left_as WriteFault after talked left (λ x. inl x)
  lane_served WriteFault after talked (inr unleft) = unleft_lost after unleft talked
  lane_served Spent after talked finishes = stopped_as after talked finishes.0 finishes.1

-- ---- the Enter

-- an Enter is no entry of the server
event_of_enter : (event : TunnelEvent) (t : TunnelItem) → event ≡ Enter → inner_by t.caller event t.answer t.out ≡ []
event_of_enter event t is = ap (λ (e : TunnelEvent). inner_by t.caller e t.answer t.out) is

module _ (tells : Type 0) (o p n : Seat) (l m : Line) (c d : ChaCha) where
  -- a lane was given
  pub entered : (lane : ℕ) (end : TunnelEnd) → MadeOne o p Enter (Lane lane) → ServesLane tells lane c d p n l m end
      → ServesTunnel tells c d o n l m end
  entered lane end one served =
      let A : TunnelAnswer → Type 0 = λ a. EnteredRun a served.draws served.received served.sent (SeesFull n) end served.entries in
      let L : List Item → Type 0 = λ h. LineEnds end l m (ends_with_last (h ++ inners served.entries)) in
      record {
        entries = one.item ∷ served.entries;
        draws = served.draws;
        received = served.received;
        sent = served.sent;
        run = (one.event_is, subst A (sym one.answer_is) served.run);
        grows = grows_then o p n (one.item ∷ []) served.entries one.grows served.grows;
        takes = served.takes;
        carries = served.carries;
        line_ends = subst L (sym (event_of_enter one.item.event one.item one.event_is)) served.line_ends;
      }

module _ (tells : Type 0) (o n : Seat) (l : Line) (c : ChaCha) where
  -- no lane was given
  pub turned_away : MadeOne o n Enter no_lane → ServesTunnel tells c c o n l l Full
  turned_away one =
      let A : TunnelAnswer → Type 0 = λ a. EnteredRun a [] [] [] (SeesFull n) Full [] in
      record {
        entries = one.item ∷ [];
        draws = [];
        received = [];
        sent = [];
        run = (
          one.event_is,
          subst A (sym one.answer_is) (record { undrawn = refl; unheard = refl; unsent = refl }, record { end_is = refl; none = refl }),
        );
        grows = one.grows;
        takes = takes_none c;
        carries = carries_nothing tells l;
        line_ends = tt;
      }

  -- the history was full
  pub not_entered : UnmadeEvent o n → ServesTunnel tells c c o n l l Spent
  not_entered unmade = record {
    entries = [];
    draws = [];
    received = [];
    sent = [];
    run = (record { undrawn = refl; unheard = refl; unsent = refl }, record { end_is = refl; filled = unmade.full });
    grows = unmade.grows;
    takes = takes_none c;
    carries = carries_nothing tells l;
    line_ends = tt;
  }
