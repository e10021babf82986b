-- Both steps keep the rule.
use Rattle.std.proofs.Common.{◌∙◌, ap, arith}
use Rattle.satip_turn.specs.Rule.{in_box, stands_in_box}
use Rattle.satip_turn.proofs.Joining.{joins, hears}
use Rattle.satip_turn.proofs.passes.join_seat.Goals as goal

pub join_seat-requires : goal.join_seat-requires
join_seat-requires g c =
    let words = c.requires.cell.1.words in (
      c.requires.cell.0,
      c.requires.cell_too,
      c.requires.other.idle.slots,
      omega arith,
      joins (in_box g.S.Served.setting) g.S.Served.legal (stands_in_box g.S.Served.stands_for) (g.S.Served.setting c.args.table.now.key.value) c.args.seat.now.id c.args.other.id
          c.args.seat.now.me.0 c.args.other.me.0 c.requires.resting.idle.turn c.requires.resting.idle.live c.requires.resting.drawn c.requires.other.idle.turn
          c.requires.other.idle.live c.requires.other.drawn,
    )

pub load-requires : goal.load-requires
load-requires g c =
    let words = c.requires.cell.1.words in (
      c.join_seat.ensures.0 ∙ c.requires.cell.0,
      omega arith,
      hears (in_box g.S.Served.setting) g.S.Served.legal (stands_in_box g.S.Served.stands_for) (g.S.Served.setting c.args.table.now.key.value) c.args.table.now.table_id.slots
          c.join_seat.new.seat.id c.join_seat.new.seat.me (ap (λ m. m.0.turn) c.join_seat.ensures.2 ∙ c.requires.resting.idle.turn)
          (ap (λ m. m.0.spent) c.join_seat.ensures.2 ∙ c.requires.resting.idle.live),
    )
