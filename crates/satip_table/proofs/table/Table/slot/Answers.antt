use Rattle.std.proofs.Common.{◌≡◌, ◌<◌, ℕ, Option, IfSome, find, sym, subst, rules}
use Rattle.std.specs.Option.{option_map}
use Rattle.satip_table.specs.declared.session.Seat.{Seat}
use Rattle.satip_table.specs.Sessions.{has_id_of}
use Rattle.satip_table.proofs.SeatLaws.{slot_within}
use Rattle.satip_table.proofs.table.Table.slot.Goals as goal

pub find-requires : goal.find-requires
find-requires c = record { rising = (c.self.inside.made, c.self.invariant.sound.counts) }

pub returns-clause-within : goal.returns-clause-within
returns-clause-within c =
    let found : c.map.result ≡ option_map (λ (seat : Seat). seat.slot) (find (has_id_of c.args.id) c.self.inside.seats) = search rules in
    subst (λ (r : Option ℕ). IfSome r (λ slot. slot < 64)) (sym found) (slot_within (has_id_of c.args.id) c.self.inside.seats c.self.invariant.sound.slots)
