-- The step keeps the rule; where the word was 0, the seat has the slot.
use Rattle.std.proofs.Common.{◌∙◌, arith}
use Rattle.satip_turn.specs.Rule.{in_box, stands_in_box}
use Rattle.satip_turn.specs.declared.view.Content.TheVariants.{Home}
use Rattle.satip_turn.proofs.Turning.{tries, first_back}
use Rattle.satip_turn.proofs.seat.take.Goals as goal

pub compare_exchange-requires : goal.compare_exchange-requires
compare_exchange-requires g c =
    let words = c.requires.cell.1.words in (
      c.requires.cell.0,
      omega arith,
      tries (in_box g.S.Served.setting) g.S.Served.legal (stands_in_box g.S.Served.stands_for) (g.S.Served.setting c.args.table.now.key.value) c.args.table.now.table_id.slots
          c.args.seat.now.id c.args.seat.now.me c.requires.idle.turn c.requires.idle.live,
    )

pub exchange-requires : goal.exchange-requires
exchange-requires g c =
    let t = c.compare_exchange.ensures.2.free c.if-compare_exchange-ne0.false in (
      c.compare_exchange.ensures.0 ∙ c.requires.cell.0,
      (Home t.value, first_back c.compare_exchange.new.seat.me.1 c.args.seat.now.me.1 (0, Home t.value) t.slots),
    )
