-- The step keeps the rule: what it commits is what lies in the slot.
use Rattle.std.proofs.Common.{◌∙◌, ap, arith}
use Rattle.atomic_table.specs.Table.{rest}
use Rattle.satip_turn.specs.Rule.{in_box, stands_in_box}
use Rattle.satip_turn.specs.declared.view.Content.TheVariants.{Said}
use Rattle.satip_turn.proofs.Turning.{first_back}
use Rattle.satip_turn.proofs.Telling.{commits_said}
use Rattle.satip_turn.proofs.seat.commit.Goals as goal

pub fetch_add-requires : goal.fetch_add-requires
fetch_add-requires g c =
    let words = c.requires.cell.1.words in (
      c.exchange.ensures.0 ∙ c.requires.cell.0,
      omega arith,
      commits_said (in_box g.S.Served.setting) g.S.Served.legal (stands_in_box g.S.Served.stands_for) (g.S.Served.setting c.args.table.now.key.value) c.args.table.now.table_id.slots
          c.exchange.new.seat.id c.args.seat.now.me c.exchange.new.seat.me c.of.result c.of-2.result c.of-3.result c.requires.holds c.requires.seen
          c.requires.room
          (rw (c.of.ensures, c.of-2.ensures, c.of-3.ensures) c.requires.lawful) c.exchange.ensures.3,
    )

pub exchange-requires-2 : goal.exchange-requires-2
exchange-requires-2 g c =
    let said = ap (λ m. m.1) c.fetch_add.ensures.2 ∙ ap (λ m. m.1) c.exchange.ensures.3 in (
      c.fetch_add.ensures.0 ∙ (c.exchange.ensures.0 ∙ c.requires.cell.0),
      (
        Said c.of.result c.of-2.result c.of-3.result,
        first_back c.fetch_add.new.seat.me.1 (rest c.args.seat.now.me.1) (0, Said c.of.result c.of-2.result c.of-3.result) said,
      ),
    )
