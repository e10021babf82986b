use Rattle.std.proofs.Common.{◌≡◌, ◌++◌, take, arith}
use Rattle.std.proofs.lemmas.Grind.{common_steps}
use Rattle.satip_frame.proofs.FramerLemmas.{leads_on}
use Rattle.satip_frame.proofs.framing.Framer.feed.Goals as goal

pub returns-clause-follows : goal.returns-clause-follows
returns-clause-follows c =
    let new = c.extend_from_slice.new.self.items in
    let old = c.args.self.now.bytes in
    let taken = take c.min-count.result c.args.piece.now in
    let grown : new ≡ old ++ taken = grind (arith, common_steps) in
    leads_on new old taken grown
