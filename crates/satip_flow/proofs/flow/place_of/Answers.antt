use Rattle.std.proofs.Common.{sym, ap, ◌∙◌}
use Rattle.satip_flow.proofs.Slots.{stands_at}
use Rattle.satip_flow.proofs.RowLemmas.{nowhere_past, nowhere_behind, nowhere_other}
use Rattle.satip_flow.proofs.flow.place_of.Goals as goal

pub returns-then-slot-ge-SESSIONS-clause-none : goal.returns-then-slot-ge-SESSIONS-clause-none
returns-then-slot-ge-SESSIONS-clause-none c = nowhere_past c.args.slot c.args.subscribers.now c.requires.apart c.if-slot-ge-SESSIONS.true

pub returns-then-at-subscribers-clause-none : goal.returns-then-at-subscribers-clause-none
returns-then-at-subscribers-clause-none c =
    nowhere_behind c.args.slot c.args.places.now c.args.subscribers.now c.requires.placed c.if-at-subscribers.true

pub returns-then-place-slot-clause-none : goal.returns-then-place-slot-clause-none
returns-then-place-slot-clause-none c =
    let one = c.index-subscribers-at in
    nowhere_other c.args.slot c.args.places.now c.args.subscribers.now one.result c.requires.placed c.if-at-subscribers.false one.is
    (λ same. c.if-place-slot.true (ap (λ place. place.slot) c.place.ensures.place ∙ same))

pub returns-clause-found : goal.returns-clause-found
returns-clause-found c =
    let one = c.index-subscribers-at in
    stands_at c.args.slot c.args.subscribers.now _ one.result c.requires.apart c.if-at-subscribers.false one.is
    (ap (λ place. place.slot) (sym c.place.ensures.place) ∙ c.if-place-slot.false)
