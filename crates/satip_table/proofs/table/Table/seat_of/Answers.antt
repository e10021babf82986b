use Rattle.std.proofs.Common.{Bor}
use Rattle.satip_table.specs.declared.session.Seat.{Seat}
use Rattle.satip_table.specs.Sessions.{has_id_of}
use Rattle.satip_table.proofs.SeatLaws.{found_within, lent_within}
use Rattle.satip_table.proofs.table.Table.seat_of.Goals as goal

pub find-requires : goal.find-requires
find-requires c = record { rising = (c.self.inside.made, c.self.invariant.sound.counts) }

pub returns-clause-within : goal.returns-clause-within
returns-clause-within c = lent_within (λ (s : Bor Seat). s.now) c.find.result c.find.ensures.seat
    (found_within (has_id_of c.args.id) c.self.inside.seats c.self.invariant.sound.slots)
