use Rattle.std.proofs.Common.{◌≡◌, ◌≢◌, true, ◌+◌, ◌<◌, ◌≤◌, length, get_or, bit_or, refl, sym, ap, subst, ◌∙◌, arith}
use Rattle.std.proofs.lemmas.List.{length-set}
use Rattle.std.specs.Int.{bit_at}
use Rattle.satip_flow.specs.Subscription.{given, selects}
use Rattle.satip_flow.proofs.Sweep.{sweep-next}
use Rattle.satip_flow.proofs.Slots.{slot_below, at_most_64}
use Rattle.satip_flow.proofs.RoomLemmas.{someone}
use Rattle.satip_flow.proofs.Passing.{passed, not_selected, is_selected, given_none, given_more, given_all, still_all}
use Rattle.satip_flow.proofs.flow.give_all.Goals as goal

pub loop-at-init : goal.loop-at-init
loop-at-init c =
    let xs = c.args.subscribers.now.items in
    let is = c.next_bit-at.ensures.next in
    record {
      given_to = passed c.args.front c.args.packet.now c.args.clock xs c.args.out.now 0 c.next_bit-at.result xs c.args.out.now 0 is.behind
          (λ i le lt d inside. not_selected (bit_at c.args.places i) (selects c.args.front c.args.packet.now (get_or xs i d)) (c.requires.selected i inside d)
          (is.clear i le lt))
          (given_none c.args.front c.args.packet.now c.args.clock xs c.args.out.now);
      within = is.within;
      is_set = is.is_set;
      few = omega (arith, at_most_64 xs c.requires.apart, c.args.subscribers.now.ok.0);
      capacity = refl;
    }

pub give_at-overrun-requires-clause-slot : goal.give_at-overrun-requires-clause-slot
give_at-overrun-requires-clause-slot c = λ d.
    let f = given c.args.front c.args.packet.now in
    let xs = c.args.subscribers.now.items in
    let so_far = c.loop-at.invariant.given_to in
    let i = c.loop-at.at in
    let long = still_all c.args.front c.args.packet.now c.args.clock xs c.args.out.now i c.loop-at.subscribers.items c.loop-at.out c.loop-at.overrun so_far in
    let inside : i < length xs = omega (arith, long, c.loop-at-test.true) in
    subst (λ s. s.place.slot < 64) (sym (ap (λ ys. get_or ys i d) so_far.swept ∙ sweep-next f i xs d)) (slot_below xs c.requires.apart i d inside)

pub give_at-overrun-requires-clause-selected : goal.give_at-overrun-requires-clause-selected
give_at-overrun-requires-clause-selected c = λ d.
    let f = given c.args.front c.args.packet.now in
    let xs = c.args.subscribers.now.items in
    let so_far = c.loop-at.invariant.given_to in
    let i = c.loop-at.at in
    let long = still_all c.args.front c.args.packet.now c.args.clock xs c.args.out.now i c.loop-at.subscribers.items c.loop-at.out c.loop-at.overrun so_far in
    let inside : i < length xs = omega (arith, long, c.loop-at-test.true) in
    let one = c.loop-at.invariant.is_set (omega (arith, inside, at_most_64 xs c.requires.apart)) in
    let s = get_or xs i d in
    subst (λ s. selects c.args.front c.args.packet.now s ≡ true) (sym (ap (λ ys. get_or ys i d) so_far.swept ∙ sweep-next f i xs d))
    (is_selected (bit_at c.args.places i) (selects c.args.front c.args.packet.now s) (c.requires.selected i inside d) one)

pub give_at-overrun-requires-clause-bytes : goal.give_at-overrun-requires-clause-bytes
give_at-overrun-requires-clause-bytes c =
    let so_far = c.loop-at.invariant in
    let room : 1328 ≤ c.loop-at.out.datagram_spare = omega (arith, so_far.few, c.loop-at-test.true, c.requires.bytes, so_far.given_to.bytes) in
    room

pub give_at-overrun-requires-clause-count : goal.give_at-overrun-requires-clause-count
give_at-overrun-requires-clause-count c =
    let so_far = c.loop-at.invariant in
    let room : c.loop-at.out.count_spare ≢ 0 = omega (arith, so_far.few, c.loop-at-test.true, c.requires.count, so_far.given_to.count) in
    room

pub loop-at-preserved : goal.loop-at-preserved
loop-at-preserved c =
    let front = c.args.front in
    let packet = c.args.packet.now in
    let clock = c.args.clock in
    let xs = c.args.subscribers.now.items in
    let before = c.args.out.now in
    let i = c.loop-at.at in
    let now = c.loop-at.subscribers.items in
    let so_far = c.loop-at.invariant in
    let one = c.give_at-overrun in
    let next = c.next_bit-at-in-loop-at in
    let is = next.ensures.next in
    let marked = bit_or c.loop-at.overrun one.result in
    let long = still_all front packet clock xs before i now c.loop-at.out c.loop-at.overrun so_far.given_to in
    let inside : i < length xs = omega (arith, long, c.loop-at-test.true) in
    let more = given_more front packet clock xs before i now c.loop-at.out c.loop-at.overrun one.new.subscribers.items one.new.out one.result inside
    so_far.given_to
    one.ensures.changed one.ensures.sent one.ensures.overrun one.ensures.bytes_spare one.ensures.count_spare in
    record {
      given_to = passed front packet clock xs before (i + 1) next.result one.new.subscribers.items one.new.out marked is.behind
          (λ k le lt d within. not_selected (bit_at c.args.places k) (selects front packet (get_or xs k d)) (c.requires.selected k within d) (is.clear k le lt))
          more;
      within = is.within;
      is_set = is.is_set;
      few = omega (arith, so_far.few, ap length (one.ensures.changed someone), length-set now i (given front packet (get_or now i someone)));
      capacity = one.ensures.capacity ∙ so_far.capacity;
    }

pub returns-clause-given : goal.returns-clause-given
returns-clause-given c =
    let xs = c.args.subscribers.now.items in
    let now = c.loop-at.subscribers.items in
    let given_to = c.loop-at.invariant.given_to in
    let long = still_all c.args.front c.args.packet.now c.args.clock xs c.args.out.now c.loop-at.at now c.loop-at.out c.loop-at.overrun given_to in
    let all : length xs ≤ c.loop-at.at = omega (arith, long, c.loop-at-test.false) in
    (given_all c.args.front c.args.packet.now c.args.clock xs c.args.out.now c.loop-at.at now c.loop-at.out c.loop-at.overrun all given_to).0

pub returns-clause-sent : goal.returns-clause-sent
returns-clause-sent c =
    let xs = c.args.subscribers.now.items in
    let now = c.loop-at.subscribers.items in
    let given_to = c.loop-at.invariant.given_to in
    let long = still_all c.args.front c.args.packet.now c.args.clock xs c.args.out.now c.loop-at.at now c.loop-at.out c.loop-at.overrun given_to in
    let all : length xs ≤ c.loop-at.at = omega (arith, long, c.loop-at-test.false) in
    (given_all c.args.front c.args.packet.now c.args.clock xs c.args.out.now c.loop-at.at now c.loop-at.out c.loop-at.overrun all given_to).1

pub returns-clause-overrun : goal.returns-clause-overrun
returns-clause-overrun c =
    let xs = c.args.subscribers.now.items in
    let now = c.loop-at.subscribers.items in
    let given_to = c.loop-at.invariant.given_to in
    let long = still_all c.args.front c.args.packet.now c.args.clock xs c.args.out.now c.loop-at.at now c.loop-at.out c.loop-at.overrun given_to in
    let all : length xs ≤ c.loop-at.at = omega (arith, long, c.loop-at-test.false) in
    (given_all c.args.front c.args.packet.now c.args.clock xs c.args.out.now c.loop-at.at now c.loop-at.out c.loop-at.overrun all given_to).2

pub returns-clause-bytes_spare : goal.returns-clause-bytes_spare
returns-clause-bytes_spare c = omega (arith, c.loop-at.invariant.within, c.loop-at.invariant.given_to.bytes)

pub returns-clause-count_spare : goal.returns-clause-count_spare
returns-clause-count_spare c = omega (arith, c.loop-at.invariant.within, c.loop-at.invariant.given_to.count)
