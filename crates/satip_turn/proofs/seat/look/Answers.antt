-- The step keeps the rule.
use Rattle.std.proofs.Common.{arith}
use Rattle.satip_turn.specs.Rule.{in_box, stands_in_box}
use Rattle.satip_turn.proofs.Telling.{looks}
use Rattle.satip_turn.proofs.seat.look.Goals as goal

pub load-requires : goal.load-requires
load-requires g c =
    let words = c.requires.cell.1.words in (
      c.requires.cell.0,
      omega arith,
      looks (in_box g.S.Served.setting) g.S.Served.legal (stands_in_box g.S.Served.stands_for) (g.S.Served.setting c.args.table.now.key.value) c.args.table.now.table_id.slots
          c.args.seat.now.id c.args.seat.now.me c.requires.holds.turn c.requires.holds.live,
    )
