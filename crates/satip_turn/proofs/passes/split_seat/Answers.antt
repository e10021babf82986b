-- Both steps keep the rule.
use Rattle.std.proofs.Common.{◌∙◌, ap, arith}
use Rattle.satip_turn.specs.Rule.{in_box, stands_in_box}
use Rattle.satip_turn.proofs.Drawing.{draws, splits}
use Rattle.satip_turn.proofs.passes.split_seat.Goals as goal

pub load-requires : goal.load-requires
load-requires g c =
    let words = c.requires.cell.1.words in (
      c.requires.cell.0,
      omega arith,
      draws (in_box g.S.Served.setting) g.S.Served.legal (stands_in_box g.S.Served.stands_for) (g.S.Served.setting c.args.table.now.key.value) c.args.table.now.table_id.slots
          c.args.seat.now.id c.args.seat.now.me c.requires.resting.idle.turn c.requires.resting.idle.live c.requires.resting.drawn
          c.requires.resting.idle.slots,
    )

pub split_seat-requires : goal.split_seat-requires
split_seat-requires g c =
    let words = c.requires.cell.1.words in
    let drawn = c.load.ensures.2 in (
      c.load.ensures.0 ∙ c.requires.cell.0,
      omega arith,
      splits (in_box g.S.Served.setting) g.S.Served.legal (stands_in_box g.S.Served.stands_for) (g.S.Served.setting c.args.table.now.key.value) c.load.new.seat.id c.args.seat.now.me.0
          c.load.new.seat.me.0 drawn.number c.requires.resting.idle.turn c.requires.resting.idle.live (ap (λ m. m.0) drawn.view),
    )
