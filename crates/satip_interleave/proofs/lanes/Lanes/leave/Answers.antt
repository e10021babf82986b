use Rattle.std.proofs.Common.{◌≡◌, [], All, sym, ap, subst, arith}
use Rattle.std.proofs.lemmas.List.Elements.{All-push}
use Rattle.satip_interleave.specs.Lanes.{PlainLanes, left}
use Rattle.satip_interleave.proofs.lanes.Lanes.leave.Goals as goal

pub returns-in_default-clause-left : goal.returns-in_default-clause-left
returns-in_default-clause-left c =
    let none = rw c.deref.ensures.value at c.in_default.ensures.none in
    subst (λ (lanes : PlainLanes). lanes ≡ left c.args.lane lanes) c.self.view_is
    (ap (λ held. (let l : PlainLanes = record { given = c.self.inside.given; held = held } in l)) (sym none.others))

pub invariant_of-self : goal.invariant_of-self
invariant_of-self c =
    let sound = c.self.invariant in
    record {
      room = omega (arith, sound.room, c.remove.ensures.capacity);
      queue_room = omega (arith, sound.queue_room, c.push_reserved.ensures.capacity);
      queues = subst (All (λ queue. queue ≡ [])) (sym c.push_reserved.ensures.items)
          (All-push (λ queue. queue ≡ []) c.self.inside.spare.items c.into_queue.result sound.queues c.into_queue.ensures.empty);
      all_queues = omega (arith, sound.all_queues, c.remove.ensures.len, c.push_reserved.ensures.len);
    }
