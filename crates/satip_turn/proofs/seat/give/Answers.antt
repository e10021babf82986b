-- The step keeps the rule.
use Rattle.std.proofs.Common.{◌∙◌, arith}
use Rattle.satip_turn.specs.Rule.{in_box, stands_in_box}
use Rattle.satip_turn.proofs.Turning.{gives_back}
use Rattle.satip_turn.proofs.seat.give.Goals as goal

pub swap-requires : goal.swap-requires
swap-requires g c =
    let words = c.requires.cell.1.words in (
      c.exchange.ensures.0 ∙ c.requires.cell.0,
      omega arith,
      gives_back (in_box g.S.Served.setting) g.S.Served.legal (stands_in_box g.S.Served.stands_for) (g.S.Served.setting c.args.table.now.key.value) c.args.table.now.table_id.slots
          c.exchange.new.seat.id c.args.seat.now.me c.exchange.new.seat.me c.args.served c.requires.cell.1.slots c.requires.holds
          (record { setting = c.requires.served.setting; stands_for = c.requires.served.stands_for })
          c.exchange.ensures.3,
    )
