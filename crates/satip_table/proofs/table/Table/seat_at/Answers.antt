use Rattle.std.proofs.Common.{Bor}
use Rattle.satip_table.specs.declared.session.Seat.{Seat}
use Rattle.satip_table.specs.Sessions.{has_slot}
use Rattle.satip_table.proofs.SeatLaws.{found_within, lent_within}
use Rattle.satip_table.proofs.table.Table.seat_at.Goals as goal

pub returns-clause-within : goal.returns-clause-within
returns-clause-within c = lent_within (λ (s : Bor Seat). s.now) c.at.result c.at.ensures.seat
    (found_within (has_slot c.args.slot) c.self.inside.seats c.self.invariant.sound.slots)
