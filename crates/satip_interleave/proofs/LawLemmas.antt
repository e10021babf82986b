-- The entries of a tunnel as calls of its lanes, and the numbers that connections are given.
use Rattle.std.proofs.Common.{◌≡◌, ℕ, Bool, true, false, List, [], ◌∷◌, ◌++◌, append-nil, append_assoc, Option, None, Some, option_to_list, refl, sym, ap, subst, ◌∙◌}
use Rattle.satip_base.specs.Output.{Datagram, Output}
use Rattle.satip_interleave.specs.declared.lane.Drained.{Drained}
use Rattle.satip_interleave.specs.declared.lane.Drained.TheVariants.{Frames as DrainedFrames, Empty as DrainedEmpty, Broken as DrainedBroken, Gone as DrainedGone}
use Rattle.satip_interleave.specs.Calls.{Call, Enter as Entering, Put, Drain as Draining, Leave as Leaving, after, called, number_of, numbers_given, IsRising, NumbersRise}
use Rattle.satip_interleave.specs.Lanes.{PlainLanes, drain_answer, entered_number, is_held, lane_of, no_lanes, put_to}
use Rattle.satip_interleave.specs.declared.events.TunnelEvent.{TunnelEvent}
use Rattle.satip_interleave.specs.declared.events.TunnelEvent.TheVariants.{Inner, Enter, Drain, Leave}
use Rattle.satip_interleave.specs.declared.events.TunnelAnswer.{TunnelAnswer}
use Rattle.satip_interleave.specs.declared.events.TunnelAnswer.TheVariants.{Inner as InnerAnswer, Lane, Full, Frames, Empty, Broken, Gone, Left}
use Rattle.satip_interleave.specs.Tunnels.{drain_told, lane_told, left_told, moved_by, put_all}
use Rattle.satip_interleave.specs.Answers.{IsAnswered}
use Rattle.satip_interleave.specs.Histories.{LanesFrom, TunnelItem, moved}
use Rattle.satip_interleave.specs.Laws.{LaneNumbersRise, number_in, numbers_in}

-- each datagram as a call of the lanes
abbrev puts : List Datagram → List Call
puts [] = []
puts (d ∷ ds) = Put d.to d.bytes ∷ puts ds

-- an event as calls of the lanes
abbrev calls_by : TunnelEvent → List Datagram → List Call
calls_by (Inner event) sent = puts sent
calls_by Enter sent = Entering ∷ []
calls_by (Drain number) sent = Draining number ∷ []
calls_by (Leave number) sent = Leaving number ∷ []

put_all_calls : (sent : List Datagram) (lanes : PlainLanes) → put_all sent lanes ≡ after lanes (puts sent)
put_all_calls [] lanes = refl
put_all_calls (d ∷ ds) lanes = put_all_calls ds (put_to d.to d.bytes lanes)

moved_by_calls : (event : TunnelEvent) (sent : List Datagram) (lanes : PlainLanes) → moved_by event sent lanes ≡ after lanes (calls_by event sent)
moved_by_calls (Inner event) sent lanes = put_all_calls sent lanes
moved_by_calls Enter sent lanes = refl
moved_by_calls (Drain number) sent lanes = refl
moved_by_calls (Leave number) sent lanes = refl

abbrev all_calls : List TunnelItem → List Call
all_calls [] = []
all_calls (t ∷ ts) = calls_by t.event t.out.datagrams ++ all_calls ts

numbers_given-append : (lanes : PlainLanes) (a b : List Call) → numbers_given lanes (a ++ b) ≡ numbers_given lanes a ++ numbers_given (after lanes a) b
numbers_given-append lanes [] b = refl
numbers_given-append lanes (c ∷ cs) b =
    ap (λ rest. number_of c lanes ++ rest) (numbers_given-append (called c lanes) cs b)
    ∙ sym (append_assoc (number_of c lanes) (numbers_given (called c lanes) cs) (numbers_given (after (called c lanes) cs) b))

puts_give_none : (lanes : PlainLanes) (sent : List Datagram) → numbers_given lanes (puts sent) ≡ []
puts_give_none lanes [] = refl
puts_give_none lanes (d ∷ ds) = puts_give_none (put_to d.to d.bytes lanes) ds

lane_number : (number : Option ℕ) → number_in (lane_told number) ≡ option_to_list number
lane_number None = refl
lane_number (Some n) = refl

drain_number : (drained : Drained) → number_in (drain_told drained) ≡ []
drain_number (DrainedFrames count) = refl
drain_number DrainedEmpty = refl
drain_number DrainedBroken = refl
drain_number DrainedGone = refl

left_number : (held : Bool) → number_in (left_told held) ≡ []
left_number true = refl
left_number false = refl

-- the number that an answer gives is that of the call
number_told : (event : TunnelEvent) (lanes : PlainLanes) (answer : TunnelAnswer) (out : Output)
    → IsAnswered lanes event answer out → number_in answer ≡ numbers_given lanes (calls_by event out.datagrams)
number_told (Inner event) lanes (InnerAnswer a) out is = sym (puts_give_none lanes out.datagrams)
number_told (Inner event) lanes (Lane number) out is = absurd is
number_told (Inner event) lanes Full out is = absurd is
number_told (Inner event) lanes (Frames count) out is = absurd is
number_told (Inner event) lanes Empty out is = absurd is
number_told (Inner event) lanes Broken out is = absurd is
number_told (Inner event) lanes Gone out is = absurd is
number_told (Inner event) lanes Left out is = absurd is
number_told Enter lanes answer out is = ap number_in is.told ∙ lane_number (entered_number lanes) ∙ sym (append-nil (option_to_list (entered_number lanes)))
number_told (Drain number) lanes answer out is = ap number_in is.told ∙ drain_number (drain_answer (lane_of number lanes.held))
number_told (Leave number) lanes answer out is = ap number_in is.told ∙ left_number (is_held number lanes)

-- the numbers that are told are those that the lanes give
numbers_told : (lanes : PlainLanes) (h : List TunnelItem) → LanesFrom lanes h → numbers_in h ≡ numbers_given lanes (all_calls h)
numbers_told lanes [] answered = refl
numbers_told lanes (t ∷ ts) answered =
    let calls = calls_by t.event t.out.datagrams in
    let rest : numbers_in ts ≡ numbers_given (after lanes calls) (all_calls ts) =
    numbers_told (moved lanes t) ts answered.1 ∙ ap (λ l. numbers_given l (all_calls ts)) (moved_by_calls t.event t.out.datagrams lanes) in
    ap (λ front. front ++ numbers_in ts) (number_told t.event lanes t.answer t.out answered.0)
    ∙ ap (λ back. numbers_given lanes calls ++ back) rest
    ∙ sym (numbers_given-append lanes calls (all_calls ts))

pub numbers_rise_in : NumbersRise → LaneNumbersRise
numbers_rise_in rise c h legal = subst (IsRising 0) (sym (numbers_told no_lanes h legal.lanes)) (rise (all_calls h))
