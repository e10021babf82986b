use Rattle.std.proofs.Common.{Bor}
use Rattle.satip_table.specs.declared.session.Seat.{Seat}
use Rattle.satip_table.proofs.SeatLaws.{lent_within, place_within}
use Rattle.satip_table.proofs.table.Table.seat.Goals as goal

pub returns-clause-within : goal.returns-clause-within
returns-clause-within c = lent_within (λ (s : Bor Seat). s.now) c.get.result c.get.ensures.seat
    (place_within c.self.inside.seats c.args.place c.self.invariant.sound.slots)
