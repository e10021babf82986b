-- The rule holds with the value in its box, and the first seat rests.
use Rattle.std.proofs.Common.{◌∙◌, [], sym, ap}
use Rattle.satip_turn.specs.Rule.{in_box, stands_in_box}
use Rattle.satip_turn.proofs.Telling.{opens}
use Rattle.satip_turn.proofs.Sounds.{first_rests}
use Rattle.satip_turn.proofs.cell.TurnCell.make.Goals as goal

pub new-requires-2 : goal.new-requires-2
new-requires-2 g c =
    let laws = g.met.S.Served g.world.𝓛 g.world.𝓜 g.world.𝓡 ((λ s x. x), (λ x. x), (λ x. x), λ x. x) in
    let lawful = laws.is_legal c.args.served [] c.requires in
    let same = c.in-Ok.ensures.ok in
    rw (c.push.ensures.items, c.is_err.ensures.negation, c.if-is_err.false, c.new-slots.ensures.items)
    (opens (in_box g.S.Served.setting) g.S.Served.legal (stands_in_box g.S.Served.stands_for) (g.S.Served.setting c.of-key.result.value) c.in-Ok.served
    (ap g.S.Served.setting (same ∙ sym c.of-key.ensures)) (rw c.of-key.ensures lawful) (rw same c.requires))

pub invariant_of-result-in-Ok-new : goal.invariant_of-result-in-Ok-new
invariant_of-result-in-Ok-new g c =
    let laws = g.met.S.Served g.world.𝓛 g.world.𝓜 g.world.𝓡 ((λ s x. x), (λ x. x), (λ x. x), λ x. x) in
    let lawful = laws.is_legal c.args.served [] c.requires in
    first_rests g.S.Served.legal (g.S.Served.setting c.of-key.result.value) (rw c.of-key.ensures lawful) c.in-Ok-new.seat.me c.in-Ok-new.ensures.ok.4
