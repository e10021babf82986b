use Rattle.std.proofs.Common.{◌≡◌, ◌<◌, ◌≤◌, length, get_or, false, true, sym, ap, subst, ◌∙◌, arith, rules}
use Rattle.std.proofs.lemmas.Bool.{both_ways}
use Rattle.std.specs.Int.{bit_at}
use Rattle.satip_flow.specs.Rows.{SamePids}
use Rattle.satip_flow.proofs.Slots.{slot_below}
use Rattle.satip_flow.proofs.Marking.{known_none, known_one}
use Rattle.satip_flow.proofs.flow.is_like.Goals.{then-eq, else-eq}
use Rattle.satip_flow.proofs.flow.is_like.Goals as goal

pub overflow_shr-alike : goal.overflow_shr-alike
overflow_shr-alike c =
    let same = ap (λ p. p.slot) c.place-place.ensures.place ∙ ap (λ s. s.place.slot) c.subscriber-item.is in
    subst (λ n. n < 64) (sym same)
    (slot_below c.args.subscribers.now c.requires.apart c.loop-subscriber.subscriber-index c.subscriber-item.result c.loop-subscriber-test.true)

pub returns-then-alike-place-eq1 : goal.returns-then-alike-place-eq1
returns-then-alike-place-eq1 c =
    let xs = c.args.subscribers.now in
    let i = c.loop-subscriber.subscriber-index in
    let s = c.subscriber-item.result in
    let place = c.place-place.ensures.place ∙ ap (λ s. s.place) c.subscriber-item.is in
    let stream : (get_or xs i s).place.stream ≡ c.args.stream = ap (λ p. p.stream) (sym place) ∙ c.if-place-stream.true in
    let one : bit_at c.args.alike (get_or xs i s).place.slot ≡ 1 = subst (λ p. bit_at c.args.alike p.slot ≡ 1) place c.if-alike-place-eq1.true in
    record {
      like = λ h.
          elim c.if-eq.branch [
            | then-eq w ↦
                let eq : c.front.result ≡ c.args.front = search rules in
                let front : (get_or xs i s).front ≡ c.args.front = ap (λ s. s.front) (sym c.subscriber-item.is) ∙ sym c.front.ensures.front ∙ eq in
                let whole = w.pids.ensures.pids ∙ ap (λ s. s.pids) c.subscriber-item.is in
                let pids : SamePids (get_or xs i s).pids c.args.pids.now =
                subst (λ p. SamePids p c.args.pids.now) whole (w.has_same.ensures.same (sym w.result-is ∙ h)) in
                known_one i c.args.alike c.args.stream c.args.front c.args.pids.now xs s c.requires.apart c.loop-subscriber-test.true c.requires.alike
                stream one front pids
            | else-eq w ↦ absurd (both_ways c.eq.result w.if-eq.false (sym w.result-is ∙ h))
          ];
    }

pub returns : goal.returns
returns c =
    let xs = c.args.subscribers.now in
    let all : length xs ≤ c.loop-subscriber.subscriber-index = omega (arith, c.loop-subscriber-test.false) in
    record {
      like = λ h. known_none c.loop-subscriber.subscriber-index c.args.alike c.args.stream c.args.front c.args.pids.now xs all c.loop-subscriber.invariant;
    }
