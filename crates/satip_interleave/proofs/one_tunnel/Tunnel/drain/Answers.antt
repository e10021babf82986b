use Rattle.std.proofs.Common.{ap, arith, subst}
use Rattle.std.specs.List.{concat}
use Rattle.satip_base.specs.Output.{Output}
use Rattle.satip_interleave.specs.Lanes.{lane_of, taken_frames}
use Rattle.satip_interleave.specs.Held.{Held}
use Rattle.satip_interleave.specs.Answers.{Writes}
use Rattle.satip_interleave.proofs.WritingLemmas.{written_first}
use Rattle.satip_interleave.proofs.one_tunnel.Tunnel.drain.Goals as goal

pub drain-requires : goal.drain-requires
drain-requires c = record { room = omega (arith, ap (λ (o : Output). o.reply_spare) c.clear.ensures.empty) }

pub returns-clause-writes : goal.returns-clause-writes
returns-clause-writes c =
    subst (λ (t : Held). Writes (concat (taken_frames (lane_of c.args.lane t.lanes.held))) c.drain.new.out) c.self.view_is
    (written_first _ _ _ c.clear.ensures.empty c.drain.ensures.wrote)
