use Rattle.std.proofs.Common.{◌≡◌, Bor, find, rules}
use Rattle.std.specs.Option.{option_map}
use Rattle.satip_table.specs.declared.session.Seat.{Seat}
use Rattle.satip_table.specs.declared.session.Session.{Session}
use Rattle.satip_table.specs.Sessions.{has_id_of}
use Rattle.satip_table.proofs.Listing.{found_lives}
use Rattle.satip_table.proofs.table.Table.find.Goals as goal

pub find-requires : goal.find-requires
find-requires c = record { rising = (c.self.inside.made, c.self.invariant.sound.counts) }

pub returns-clause-lives : goal.returns-clause-lives
returns-clause-lives c =
    let found : option_map (λ (s : Bor Session). s.now) c.map.result ≡ option_map (λ (seat : Seat). seat.session)
    (find (has_id_of c.args.id) c.args.self.now.seats) = search rules in
    found_lives (has_id_of c.args.id) c.args.self.now.seats (λ (seat : Seat). seat.session) (λ (s : Bor Session). s.now) c.map.result found
