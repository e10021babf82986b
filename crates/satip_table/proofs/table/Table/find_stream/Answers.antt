use Rattle.std.proofs.Common.{◌≡◌, ◌∙◌, Bor, Option, None, Some, find, refl, rules}
use Rattle.std.specs.Option.{option_map}
use Rattle.satip_table.specs.declared.stream.Stream.{Stream}
use Rattle.satip_table.specs.Streams.{has_number}
use Rattle.satip_table.proofs.Listing.{found_lives}
use Rattle.satip_table.proofs.table.Table.find_stream.Goals as goal

same : (o : Option Stream) → o ≡ option_map (λ (s : Stream). s) o
same None = refl
same (Some stream) = refl

pub returns-clause-lives : goal.returns-clause-lives
returns-clause-lives c =
    let found : option_map (λ (s : Bor Stream). s.now) c.find.result ≡ find (has_number c.args.number) c.args.self.now.streams = search rules in
    found_lives (has_number c.args.number) c.args.self.now.streams (λ (s : Stream). s) (λ (s : Bor Stream). s.now) c.find.result (found ∙ same _)
