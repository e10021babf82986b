use Rattle.std.proofs.Common.{◌<◌, refl, subst, ap, ◌∙◌}
use Rattle.satip_flow.specs.Subscription.{given}
use Rattle.satip_flow.specs.Rows.{marks}
use Rattle.satip_flow.proofs.RowLemmas.{is_found}
use Rattle.satip_flow.proofs.RoomLemmas.{sound_kept, given_keeps, given_choice}
use Rattle.satip_flow.proofs.flow.Flow.packet.Goals as goal

pub give_all-requires-clause-selected : goal.give_all-requires-clause-selected
give_all-requires-clause-selected c =
    let rows = c.self.inside.rows.items in
    is_found rows c.self.inside.places c.self.inside.subscribers.items c.args.front c.args.packet.now c.slots_of-slots.result c.places_of-places.result
    c.self.inside.alike c.self.invariant.apart c.self.invariant.marked c.self.invariant.placed (subst (λ n. n < 8192) c.pid.ensures.pid c.pid.ensures.within)
    (c.slots_of-slots.ensures.slots
    ∙ ap (λ rs. marks rs c.args.front c.pid.result) c.deref.ensures.value
    ∙ ap (λ n. marks rows c.args.front n) c.pid.ensures.pid)
    c.places_of-places.ensures.places c.places_of-places.ensures.only

pub invariant_of-self : goal.invariant_of-self
invariant_of-self c =
    sound_kept c.self.inside (record {
      subscribers = c.give_all.new.subscribers;
      spare_queues = c.self.inside.spare_queues;
      rows = c.self.inside.rows;
      alike = c.self.inside.alike;
      places = c.self.inside.places;
    })
    (given c.args.front c.args.packet.now) (given_keeps c.args.front c.args.packet.now) (given_choice c.args.front c.args.packet.now)
    c.give_all.ensures.given c.give_all.ensures.capacity refl refl refl refl c.self.invariant
